-- What the counts of two disks tell of a fault.
use Rattle.std.specs.Prelude.{◌≡◌, ◌⊎◌, ℕ}
use Rattle.record_file.specs.Settled.{TellsBreak}
use Rattle.record_file.specs.Walks.{TellsStop}
use Rattle.record_file.specs.declared.faults.OpenFault.{OpenFault}
use Rattle.record_file.specs.declared.records.PutFault.{PutFault}

-- The count of the failed calls of the one or of the other disk rises by one where a failure of the device is told, unless it is at the top of a
-- u64; else both stay.
abbrev pub StopsEither : OpenFault → ℕ → ℕ → ℕ → ℕ → Type 0
StopsEither fault one other new_one new_other = ((new_other ≡ other) × TellsStop fault one new_one) ⊎ ((new_one ≡ one) × TellsStop fault other new_other)

-- the same of a put
abbrev pub BreaksEither : PutFault → ℕ → ℕ → ℕ → ℕ → Type 0
BreaksEither fault one other new_one new_other = ((new_other ≡ other) × TellsBreak fault one new_one) ⊎ ((new_one ≡ one) × TellsBreak fault other new_other)
