-- Houses: what their calls do.
use Rattle.std.specs.Prelude.{ℕ, List, Option, Result}
use Rattle.std.specs.declared.alloc.AllocError.{AllocError}
use Rattle.host_names.specs.declared.digests.Digest.{Digest}
use Rattle.host_names.specs.declared.names.SiteName.{SiteName}
use Rattle.byte_view.specs.Holds.{Held}
use Rattle.chunk_reads.specs.declared.faults.ReadFault.{ReadFault}
use Rattle.site_state.specs.Files.{Paths}
use Rattle.site_state.specs.States.{State}
use Rattle.site_change.specs.declared.commands.Command.{Command}
use Rattle.change_log.specs.Logs.{Log}
use Rattle.host_api.specs.declared.refusals.Refusal.{Refusal}
use Rattle.host_answers.specs.declared.stops.Stop.{Stop}
use Rattle.host_answers.specs.declared.uploads.Uploaded.{Uploaded}

-- what a house shows: its entries, and the state that they give
pub record Seen : Type 0 where
  pub entries : Log
  pub state : State

-- What the calls of a house do. A relation leads from the house before a call, by what the call is given and what it
-- answers, to the house after it.
pub record Calls (H : Type 0) : Type 1 where
  -- what it shows
  pub seen : H → Seen
  -- it looks at its history: from then on it shows what is there
  pub looks : H → Result (Unit {0}) AllocError → H → Type 0
  -- it tells which of the listed digests aren't uploaded
  pub misses : H → Paths (Option Digest) → Result (List Digest) AllocError → Type 0
  -- it makes a command its next entry, and tells the entry's number
  pub commits : H → Command → Result ℕ Stop → H → Type 0
  -- so it does with the undo of the change of a number, which is of the site
  pub undoes : H → SiteName → ℕ → Result ℕ Stop → H → Type 0
  -- it takes bytes as the file at a path of the deploy of a number, which is of the site, and publishes a deploy that is
  -- ready then
  pub uploads : H → SiteName → ℕ → (path bytes : List ℕ) → Result Uploaded Refusal → H → Type 0

-- it holds a stretch of a file, or fails to, from its first to its last byte (`Holder`)
abbrev pub Gave : Type 0 → Type 1
Gave H = H → Held → H → Type 0

abbrev pub Failed : Type 0 → Type 1
Failed H = H → List ℕ → (first last : ℕ) → ReadFault → H → Type 0
