-- A file of records that is open.
use Rattle.std.specs.Prelude.{◌≡◌, ℕ, ◌+◌, ◌-◌, ◌^◌, min, false, List, length}
use Rattle.record_file.specs.Frames.{AllShut, opened}
use Rattle.record_file.specs.declared.records.PutFault.{PutFault}
use Rattle.record_file.specs.declared.records.PutFault.TheVariants.{Broken, Device}
use Rattle.record_file.specs.declared.records.Records.{Records}

-- The disk holds these bodies, with a gate of 0 behind them, whatever a crash leaves, and the next record goes behind that gate.
pub record IsSettled {D : Type 0} (header : List ℕ) (may_leave : D → List ℕ → Type 0) (file : Records D) (bodies : List (List ℕ)) : Type 0 where
  pub whole : file.broken ≡ false
  pub gate : file.position.gate ≡ length (opened header bodies)
  pub count : file.position.count ≡ length bodies
  pub shut : AllShut header (may_leave file.disk) bodies

-- The count of failed calls rises by one where a failure of the device is told, unless it is at the top of a u64; else it stays.
abbrev pub TellsBreak : PutFault → ℕ → ℕ → Type 0
TellsBreak Broken old new = new ≡ old
TellsBreak Device old new = new ≡ min (old + 1) (2 ^ 64 - 1)
