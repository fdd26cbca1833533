-- What is decided of a command.
use Rattle.std.specs.Prelude.{◌≡◌, Bool, Option, Some, None, Result, Ok, Err}
use Rattle.site_state.specs.States.{State}
use Rattle.site_change.specs.declared.refusals.ChangeRefusal.{ChangeRefusal}
use Rattle.site_change.specs.declared.refusals.ChangeError.{ChangeError}
use Rattle.site_change.specs.declared.refusals.ChangeError.TheVariants.{Refused, OutOfMemory}
use Rattle.site_change.specs.declared.plans.Plan.{Plan}
use Rattle.host_names.specs.declared.cells.Cell.{Cell}
use Rattle.host_names.specs.declared.names.SiteName.{SiteName}
use Rattle.site_change.specs.Plans.{IsDifference}
use Rattle.site_change.specs.TouchedCells.{AreTouched}

-- its changes and what it touches where there is no reason to refuse it, and else the reason; memory runs out only where
-- there is none
abbrev pub IsDecision : Option ChangeRefusal → SiteName → (Cell → Bool) → State → State → Result Plan ChangeError → Type 0
IsDecision reason site test before after (Ok plan) = (reason ≡ None) × IsDifference before after plan.changes.items × AreTouched site test plan.touched
IsDecision reason site test before after (Err (Refused told)) = reason ≡ Some told
IsDecision reason site test before after (Err OutOfMemory) = reason ≡ None
