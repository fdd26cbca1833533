-- The answers of calls that may be refused.
use Rattle.std.specs.Prelude.{◌≡◌, Option, Some, None, Result, Ok, Err}
use Rattle.site_change.specs.declared.refusals.ChangeRefusal.{ChangeRefusal}
use Rattle.site_change.specs.declared.refusals.ChangeError.{ChangeError}
use Rattle.site_change.specs.declared.refusals.ChangeError.TheVariants.{Refused, OutOfMemory}

-- it is refused exactly where there is a reason, and by that; memory runs out only where there is none
abbrev pub IsRefusedBy : {A : Type 0} → Option ChangeRefusal → Result A ChangeError → Type 0
IsRefusedBy reason (Ok answer) = reason ≡ None
IsRefusedBy reason (Err (Refused told)) = reason ≡ Some told
IsRefusedBy reason (Err OutOfMemory) = reason ≡ None
