use Rattle.std.proofs.Common.{◌++◌, List, option_to_list, sym, ap, subst, ◌∙◌}
use Rattle.std.specs.FinMap as finmap
use Rattle.site_state.specs.States.{with_cell}
use Rattle.site_state.specs.declared.changes.Change.{Change}
use Rattle.site_change.specs.Differences.{change_at}
use Rattle.site_change.specs.Plans.{IsDifference}
use Rattle.site_change.proofs.Deciding.{one_change}
use Rattle.site_change.proofs.cell_commands.change_one.Goals as goal

pub returns : goal.returns
returns c =
    let P : List Change → Type 0 = IsDifference c.args.state.now (with_cell c.args.state.now c.args.cell c.args.after) in
    let change = option_to_list (change_at c.args.cell (finmap.get c.args.state.now c.args.cell) c.args.after) in
    subst P (sym (c.in_ok-push_change.ensures ∙ ap (λ (l : List Change). l ++ change) c.new-changes.ensures.items))
    (one_change c.args.state.now c.args.cell c.args.after)
