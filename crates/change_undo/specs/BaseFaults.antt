-- Why there is no history of a log's base.
use Rattle.std.specs.Prelude.{◌≡◌}
use Rattle.byte_view.specs.Contents.{Contents}
use Rattle.change_log.specs.Bases.{IsBase}
use Rattle.change_log.specs.Logs.{Log}
use Rattle.change_undo.specs.declared.base_faults.BaseFault.{BaseFault}
use Rattle.change_undo.specs.declared.base_faults.BaseFault.TheVariants as fault

-- it may not be one over these uploads, or there was no memory
abbrev pub IsBaseFault : Contents → Log → BaseFault → Type 0
IsBaseFault uploads log (fault.NotLegal base) = (base ≡ log.base) × ¬ (IsBase uploads log.base log.names)
IsBaseFault uploads log fault.OutOfMemory = Unit {0}
