-- Which alias names a deploy.
use Rattle.std.specs.Prelude.{◌≡◌, ℕ, Bool, false, ◌==◌, Option, Some, None, find, option_and_then}
use Rattle.std.specs.Cmp.Lexicographic.{slice_cmp}
use Rattle.std.specs.Ordering.{nat_cmp}
use Rattle.std.specs.declared.cmp.Ordering.TheVariants.{Less}
use Rattle.host_names.specs.declared.cells.Cell.{Cell}
use Rattle.host_names.specs.declared.cells.Cell.TheVariants as cell
use Rattle.host_names.specs.declared.names.AliasName.{AliasName}
use Rattle.host_names.specs.declared.names.SiteName.{SiteName}
use Rattle.site_state.specs.States.{State, alias_at, alias_entries}
use Rattle.site_state.specs.declared.values.Value.{Value}
use Rattle.site_state.specs.declared.values.Value.TheVariants as value

-- whether this is the value of an alias that names the deploy
abbrev pub stands_for : ℕ → Value → Bool
stands_for m (value.Alias n) = n == m
stands_for m v = false

-- the name of the alias that the cell is
abbrev pub name_in : Cell → Option AliasName
name_in (cell.Alias site name) = Some name
name_in c = None

-- The least alias of the site that names the deploy. The aliases stand in the order of their names, so it is the first that does.
abbrev pub alias_for : State → SiteName → ℕ → Option AliasName
alias_for state site m = option_and_then (λ e. name_in e.0) (find (λ e. stands_for m e.1) (alias_entries state site))

-- An alias of the site that names the deploy, where none before it by name does; or that none does.
abbrev pub IsLeastAlias : State → SiteName → ℕ → Option AliasName → Type 0
IsLeastAlias state site m None = (name : AliasName) → alias_at state site name ≡ Some m → ⊥
IsLeastAlias state site m (Some name) =
    (alias_at state site name ≡ Some m) × ((other : AliasName) → slice_cmp nat_cmp other.0 name.0 ≡ Less → alias_at state site other ≡ Some m → ⊥)
