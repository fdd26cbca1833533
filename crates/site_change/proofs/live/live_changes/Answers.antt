use Rattle.std.proofs.Common.{◌++◌, List, append_assoc, option_to_list, sym, ap, subst, ◌∙◌}
use Rattle.site_change.proofs.Merging.{at_ends}
use Rattle.site_change.specs.Differences.{AreLiveChanges}
use Rattle.site_state.specs.declared.changes.Change.{Change}
use Rattle.site_change.proofs.live.live_changes.Goals as goal

pub loop-changes-preserved : goal.loop-changes-preserved
loop-changes-preserved c =
    let step = rw c.in-Some.is at c.in_ok-step.ensures in
    let done = c.loop-changes.changes.items in
    let first = option_to_list c.in-Some.step.change in
    record {
      sides = step.sides;
      behind = λ (rest : List Change) changed. subst (AreLiveChanges c.args.site.now c.args.live c.args.tree.now)
          (sym (ap (λ (l : List Change). l ++ rest) c.in_ok-push_some.ensures ∙ append_assoc done first rest))
          (c.loop-changes.invariant.behind (first ++ rest) (step.changes rest changed));
    }

pub returns : goal.returns
returns c =
    let ends = rw c.in_default.is at c.in_ok-step.ensures in
    at_ends c.args.site.now c.args.live c.args.tree.now c.loop-changes.live_left c.loop-changes.tree_left.now c.loop-changes.changes.items
    c.loop-changes.invariant.behind ends.0 ends.1
