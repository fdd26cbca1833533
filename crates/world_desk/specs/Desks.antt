-- What is shared of a desk, with what its visitors have seen; and its steps.
use Rattle.std.specs.Prelude.{◌≡◌, ℕ, zero, suc, ◌+◌, ◌≤◌, ◌==◌, ◌&&◌, nat_le, nat_lt, Bool, List, [], ◌∷◌, length, replicate, slice_get, Option, Some, None, refl, if◌then◌else◌}
use Rattle.std.specs.FinMap as map
use Rattle.std.specs.List.{AllByRecursion}
use Rattle.std.specs.Coded.{Coded, code_by, coded×, coded_list, coded_ℕ}
use Rattle.byte_view.specs.Contents.{Contents, with_file}
use Rattle.site_change.specs.declared.entries.Entry.{Entry}
use Rattle.change_undo.specs.Histories.{IsLegal, is_allowed}
use Rattle.change_log.specs.Logs.{BeginsWith, Log, empty_log, last_number, with_entry}
use Rattle.world_desk.specs.Visitors.{SeesInOrder, Watched, coded_watched, looked, taught, unseen}

-- how many entries a log may have, what was uploaded, the log that the desk has, the log that is shown, and what each visitor has seen
pub record DeskState : Type 0 where
  pub limit : ℕ
  pub uploads : Contents
  pub log : Log
  pub shown : Log
  pub visitors : List Watched

-- how they are stored
abbrev pub coded_desk : Coded Contents → Coded Log → Coded DeskState
coded_desk uploads log =
    code_by (ℕ × (Contents × (Log × (Log × List Watched)))) (coded× coded_ℕ (coded× uploads (coded× log (coded× log (coded_list (coded_watched log))))))
    (λ d. (d.limit, (d.uploads, (d.log, (d.shown, d.visitors)))))
    (λ t. record { limit = t.0; uploads = t.1.0; log = t.1.1.0; shown = t.1.1.1.0; visitors = t.1.1.1.1 }) (λ _. refl)

-- nothing has happened yet
abbrev pub start : ℕ → ℕ → DeskState
start limit visitors = record { limit = limit; uploads = map.empty; log = empty_log; shown = empty_log; visitors = replicate visitors unseen }

-- ---- the steps

-- The desk is asked for an entry, a change or an undo; it shows what it has; a visitor, one of those that are numbered from 0 on, looks; a
-- visitor is told of what is shown; a file is uploaded.
pub data DeskStep : Type 0 where
  Ask : (entry : Entry) → DeskStep
  Publish : DeskStep
  Enter : (visitor : ℕ) → DeskStep
  Learn : (visitor : ℕ) → DeskStep
  Upload : (bytes : List ℕ) → DeskStep

-- all that the desk has is shown
abbrev pub is_published : DeskState → Bool
is_published d = last_number d.shown == last_number d.log

-- a log of at most so many entries has room, and the entry may follow it
abbrev pub may_take : Contents → ℕ → Log → Entry → Bool
may_take uploads limit log entry = nat_lt (last_number log) limit && is_allowed uploads log entry

-- the log with the entry where it may have that, and else as it was
abbrev pub with_taken : Contents → ℕ → Log → Entry → Log
with_taken uploads limit log entry = if may_take uploads limit log entry then with_entry log entry else log

-- the desk's log may have the entry
abbrev pub is_taken : DeskState → Entry → Bool
is_taken d entry = may_take d.uploads d.limit d.log entry

-- the desk takes an entry where that may follow and no other one is unpublished; else nothing changes
abbrev pub asked : DeskState → Entry → DeskState
asked d entry = if is_published d && is_taken d entry then record d { log = with_entry d.log entry } else d

-- the one at this place, from 0 on, is changed, if there is one
abbrev pub change_at : {A : Type 0} → ℕ → (A → A) → List A → List A
change_at n change [] = []
change_at zero change (x ∷ xs) = change x ∷ xs
change_at (suc n) change (x ∷ xs) = x ∷ change_at n change xs

-- a file of at most 16,777,216 bytes is uploaded; a larger one isn't
abbrev pub with_upload : Contents → List ℕ → Contents
with_upload uploads bytes = if nat_le (length bytes) 16777216 then with_file uploads bytes else uploads

-- what a step leaves
abbrev pub happens : DeskState → DeskStep → DeskState
happens d (Ask entry) = asked d entry
happens d Publish = record d { shown = d.log }
happens d (Enter v) = record d { visitors = change_at v (looked d.shown) d.visitors }
happens d (Learn v) = record d { visitors = change_at v (taught d.shown) d.visitors }
happens d (Upload bytes) = record d { uploads = with_upload d.uploads bytes }

-- what steps leave, one after another
abbrev pub after_all : List DeskStep → DeskState → DeskState
after_all [] d = d
after_all (step ∷ steps) d = after_all steps (happens d step)

-- ---- looks

-- the logs that a visitor has seen; none where there is no such visitor
abbrev pub looks_of : Option Watched → List Log
looks_of None = []
looks_of (Some v) = v.looks

-- how many looks the visitor of this number has had
abbrev pub look_count : DeskState → ℕ → ℕ
look_count d visitor = length (looks_of (slice_get d.visitors visitor))

-- the log of its look at this place, from 0 on
abbrev pub look_at : DeskState → ℕ → ℕ → Option Log
look_at d visitor place = slice_get (looks_of (slice_get d.visitors visitor)) place

-- ---- what holds after every list of steps

-- The log is legal and within its limit. What is shown is a beginning of it that lacks one entry at most. Each visitor sees in order.
pub record IsLawful (d : DeskState) : Type 0 where
  pub legal : IsLegal d.uploads d.log
  pub room : last_number d.log ≤ d.limit
  pub shown : BeginsWith d.log d.shown
  pub at_most_one : last_number d.log ≤ last_number d.shown + 1
  pub seen : AllByRecursion (SeesInOrder d.shown) d.visitors
