-- What a boot leaves that opened a journal and put entries, however its disk stopped or failed; and what is opened of that.
use Rattle.std.specs.Prelude.{◌≡◌, ◌⊎◌, ℕ, ◌+◌, ◌<◌, ◌≤◌, List, [], ◌∷◌, ◌++◌, Option, MatchOption, length, take, drop}
use Rattle.site_change.specs.declared.entries.Entry.{Entry}
use Rattle.record_file.specs.Pairs.{Order}
use Rattle.change_journal.specs.Texts.{AllStored, MayHoldNext}

-- the entries that were found, and after them those that were acknowledged: the first of those that were to be put, in their order
abbrev pub acknowledged_of : List Entry → List Entry → ℕ → List Entry
acknowledged_of found puts count = found ++ take count puts

-- So many of the entries were acknowledged. If these are all, whatever a crash leaves of the one slot and of the other has them stored after what was found.
-- Else the next one was in hand: whatever a crash leaves is what a stop may leave while that is put after these.
pub record LeavesPuts (first second : List ℕ → Type 0) (found : List Entry) (puts : List Entry) (count : ℕ) : Type 0 where
  pub few : count ≤ length puts
  pub all : drop count puts ≡ [] → AllStored first second (acknowledged_of found puts count)
  pub next : (entry : Entry) (rest : List Entry) → drop count puts ≡ entry ∷ rest → (order : Order) × MayHoldNext order (acknowledged_of found puts count) entry first second

-- It has what was found, then all that was acknowledged, in order, and then at most the one entry that was in hand.
abbrev pub HasPuts : List Entry → List Entry → ℕ → List Entry → Type 0
HasPuts found puts count log =
    (log ≡ acknowledged_of found puts count) ⊎ ((count < length puts) × (log ≡ acknowledged_of found puts (count + 1)))

-- these are those entries, or those and one that was in hand before
abbrev pub HasNext : List Entry → Entry → List Entry → Type 0
HasNext had next log = (log ≡ had) ⊎ (log ≡ had ++ next ∷ [])

-- A boot over a disk that had these entries, or these and the next: if its journal was opened, that had just these. What is opened after a
-- crash is what the boot found and put; or, if its journal wasn't opened, what was there before.
pub record IsReopened (had : List Entry) (next : Entry) (puts : List Entry) (found : Option (List Entry)) (count : ℕ) (opened : List Entry) : Type 0 where
  pub found_is : MatchOption found (count ≡ 0) (λ log. HasNext had next log)
  pub opened_is : MatchOption found (HasNext had next opened) (λ log. HasPuts log puts count opened)
