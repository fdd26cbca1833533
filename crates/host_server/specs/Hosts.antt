-- What a host has: its entries and its uploads.
use Rattle.std.specs.Prelude.{◌≡◌, ℕ, List, unwrap_or, refl}
use Rattle.std.specs.Coded.{Coded, code_by, coded×, coded_ℕ}
use Rattle.std.specs.FinMap as map
use Rattle.byte_view.specs.Contents.{Contents, with_file}
use Rattle.site_state.specs.States.{State}
use Rattle.site_change.specs.Changes.{IsWithin}
use Rattle.site_change.specs.declared.entries.Entry.{Entry}
use Rattle.change_undo.specs.Histories.{Past, run, IsLegal}
use Rattle.change_log.specs.Logs as logs
use Rattle.change_undo.specs.Plans.{IsHistoryOver}

-- the history, how many entries it may have, and the bytes that were uploaded
pub record Host : Type 0 where
  pub limit : ℕ
  pub entries : logs.Log
  pub uploads : Contents

-- the state: what the changes that no undo names give, from the base
abbrev pub state_of : Host → State
state_of host = unwrap_or (run host.uploads host.entries) map.empty

-- the number that the next entry has
abbrev pub next_number : Host → ℕ
next_number host = logs.next_number host.entries

-- the host with one entry more
abbrev pub with_entry : Host → Entry → Host
with_entry host entry = record { limit = host.limit; entries = logs.with_entry host.entries entry; uploads = host.uploads }

-- the host with this log
abbrev pub with_log : Host → logs.Log → Host
with_log host log = record { limit = host.limit; entries = log; uploads = host.uploads }

-- the host with these bytes uploaded too; a digest that is known keeps its file
abbrev pub with_upload : Host → List ℕ → Host
with_upload host bytes = record { limit = host.limit; entries = host.entries; uploads = with_file host.uploads bytes }

-- a host whose entries were each allowed in their place
abbrev pub IsLawful : Host → Type 0
IsLawful host = IsLegal host.uploads host.entries

-- what was there stays: more entries may follow, and more may be uploaded
pub record Grows (old new : Host) : Type 0 where
  pub same_limit : new.limit ≡ old.limit
  pub more : List Entry
  pub longer : new.entries ≡ logs.with_entries old.entries more
  pub uploads : IsWithin old.uploads new.uploads

-- ---- how it is kept

-- the host that a history and the uploads make
abbrev pub host_of : Past → Contents → Host
host_of past uploads = record { limit = past.limit; entries = past.entries; uploads = uploads }

-- a host is stored as its parts in a row
abbrev pub coded_host : Coded logs.Log → Coded Contents → Coded Host
coded_host entries uploads =
    code_by (ℕ × (logs.Log × Contents)) (coded× coded_ℕ (coded× entries uploads))
    (λ h. (h.limit, (h.entries, h.uploads))) (λ t. record { limit = t.0; entries = t.1.0; uploads = t.1.1 }) (λ _. refl)

-- the uploads are some over which the history is what it is
abbrev pub IsKept : Past → Contents → Type 0
IsKept past uploads = IsHistoryOver uploads past
