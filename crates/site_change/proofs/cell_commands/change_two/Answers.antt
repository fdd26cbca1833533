use Rattle.std.proofs.Common.{◌++◌, List, option_to_list, sym, ap, subst, ◌∙◌}
use Rattle.std.specs.FinMap as finmap
use Rattle.site_state.specs.States.{with_cell}
use Rattle.site_state.specs.declared.changes.Change.{Change}
use Rattle.site_change.specs.Differences.{change_at}
use Rattle.site_change.specs.Plans.{IsDifference}
use Rattle.site_change.proofs.Deciding.{two_changes}
use Rattle.site_change.proofs.cell_commands.change_two.Goals as goal

pub returns : goal.returns
returns c =
    let P : List Change → Type 0 = IsDifference c.args.state.now (with_cell (with_cell c.args.state.now c.args.first.0 c.args.first.1) c.args.second.0 c.args.second.1) in
    let one = option_to_list (change_at c.args.first.0 (finmap.get c.args.state.now c.args.first.0) c.args.first.1) in
    let other = option_to_list (change_at c.args.second.0 (finmap.get c.args.state.now c.args.second.0) c.args.second.1) in
    let first = c.in_ok-push_change.ensures ∙ ap (λ (l : List Change). l ++ one) c.new-changes.ensures.items in
    subst P (sym (c.in_ok-push_change-2.ensures ∙ ap (λ (l : List Change). l ++ other) first))
    (two_changes c.args.state.now c.args.first.0 c.args.second.0 c.args.first.1 c.args.second.1 c.requires.apart)
