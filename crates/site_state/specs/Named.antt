-- What aliases name.
use Rattle.std.specs.Prelude.{◌≡◌, ℕ, true, Some, is_some}
use Rattle.host_names.specs.declared.names.AliasName.{AliasName}
use Rattle.host_names.specs.declared.names.SiteName.{SiteName}
use Rattle.site_state.specs.States.{State, alias_at, kept_at}

-- each alias names a kept deploy of its site
abbrev pub AliasesNamed : State → Type 0
AliasesNamed state = (site : SiteName) (name : AliasName) (m : ℕ) → alias_at state site name ≡ Some m → is_some (kept_at state site m) ≡ true
