use Rattle.std.proofs.Common.{◌≡◌, find, length}
use Rattle.std.specs.Option.{option_and_then}
use Rattle.site_state.specs.Aliases.{stands_for, name_in}
use Rattle.site_state.proofs.site_cells.first_alias.Given as goal

abbrev pub invariant-aliases : goal.invariant-aliases
invariant-aliases l =
    option_and_then (λ e. name_in e.0) (find (λ e. stands_for l.number e.1) l.left)
    ≡ option_and_then (λ e. name_in e.0) (find (λ e. stands_for l.fn.number e.1) l.fn.aliases)

abbrev pub decreases-aliases : goal.decreases-aliases
decreases-aliases l = length l.left
