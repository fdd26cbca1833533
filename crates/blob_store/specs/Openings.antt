-- Opening a store: which files are wanted, and what came of each.
use Rattle.std.specs.Prelude.{◌≡◌, ◌⊎◌, ℕ, true, false, List, [], ◌∷◌, ◌++◌, Option, Some, None, filter_map, map}
use Rattle.std.specs.FinMap as fin
use Rattle.std.specs.List.{fold}
use Rattle.byte_view.specs.Contents.{Contents, with_file}
use Rattle.blob_store.specs.declared.openings.OpenFault.{OpenFault}
use Rattle.blob_store.specs.declared.openings.OpenFault.TheVariants as open_fault
use Rattle.blob_store.specs.declared.openings.Wanted.{Wanted}
use Rattle.chunk_reads.specs.declared.faults.ReadFault.TheVariants as read_fault
use Rattle.blob_store.specs.Calls.{Call}
use Rattle.blob_store.specs.Reads.{IsFileFault, IsFileRead}

-- what came of a wanted file: its bytes, or none
pub record Taken : Type 0 where
  pub wanted : Wanted
  pub file : Option (List ℕ)

-- a wanted file was read whole; or it need not be there, and is missing or damaged
abbrev pub IsTaken : {S : Type 0} → (did : S → Call → S → Type 0) → S → Wanted → Option (List ℕ) → S → Type 0
IsTaken did old wanted (Some file) new = IsFileRead did old wanted.digest file new
IsTaken did old wanted None new =
    (wanted.must ≡ false)
    × (IsFileFault did old wanted.digest read_fault.Missing new ⊎ IsFileFault did old wanted.digest read_fault.Damaged new)

-- this came of each, one after another, and nothing else was done with the shelf
abbrev pub AreTaken : {S : Type 0} → (did : S → Call → S → Type 0) → S → List Taken → S → Type 0
AreTaken did old [] new = new ≡ old
AreTaken {S} did old (one ∷ more) new = (mid : S) × IsTaken did old one.wanted one.file mid × AreTaken did mid more new

-- the files that are there
abbrev pub known_of : List Taken → Contents
known_of taken = fold with_file fin.empty (filter_map (λ one. one.file) taken)

-- the wanted files were taken in turn, and those that are there are known
abbrev pub IsOpened : {S : Type 0} → (did : S → Call → S → Type 0) → S → List Wanted → Contents → S → Type 0
IsOpened did old wanted known new =
    (taken : List Taken) × (map (λ one. one.wanted) taken ≡ wanted) × AreTaken did old taken new × (known ≡ known_of taken)

-- why a file can't be taken. Without memory it may have been read whole
abbrev pub IsTakeFault : {S : Type 0} → (did : S → Call → S → Type 0) → S → Wanted → OpenFault → S → Type 0
IsTakeFault did old wanted (open_fault.MissingBlob digest) new =
    (wanted ≡ record { digest = digest; must = true }) × IsFileFault did old digest read_fault.Missing new
IsTakeFault did old wanted (open_fault.DamagedBlob digest) new =
    (wanted ≡ record { digest = digest; must = true }) × IsFileFault did old digest read_fault.Damaged new
IsTakeFault did old wanted open_fault.Device new = IsFileFault did old wanted.digest read_fault.Device new
IsTakeFault did old wanted open_fault.OutOfMemory new =
    IsFileFault did old wanted.digest read_fault.OutOfMemory new ⊎ ((file : List ℕ) × IsFileRead did old wanted.digest file new)

-- why a store can't be opened: of the wanted files the first ones were taken in turn, and the next one can't be
abbrev pub IsOpenFault : {S : Type 0} → (did : S → Call → S → Type 0) → S → List Wanted → OpenFault → S → Type 0
IsOpenFault {S} did old wanted fault new =
    (taken : List Taken) × (next : Wanted) × (later : List Wanted) × (mid : S)
    × (map (λ one. one.wanted) taken ++ next ∷ later ≡ wanted) × AreTaken did old taken mid × IsTakeFault did mid next fault new

-- ---- what private functions say

-- a file more is known, if there is one
abbrev pub known_with : Contents → Option (List ℕ) → Contents
known_with known None = known
known_with known (Some file) = with_file known file
