use Rattle.std.proofs.Common.{length, sym, ap, ◌∙◌}
use Rattle.site_change.proofs.Comparing.{heads_comparable}
use Rattle.site_change.proofs.Merging.{removed_last, added_last, removed_first, added_first, rewritten_first}
use Rattle.site_change.proofs.live.Step.next.Goals as goal
use Rattle.site_change.proofs.live.Step.next.Goals.{in-None-Some+in_ok-added-in-None-Some, in-Some-None+in_ok-removed-in-Some-None, in-Some-Some+in-Less+in_ok-removed-in-Less, in-Some-Some+in-Greater+in_ok-added-in-Greater, in-Some-Some+in-Equal+in_ok-rewritten-in-Equal}

pub returns : goal.returns
returns c = elim c.match-split_first.branch [
  | in-None-Some+in_ok-added-in-None-Some w ↦ rw w.change-is
      (added_last c.args.site.now c.args.live c.args.tree.now w.in-None-Some.listed.now w.in-None-Some.left.now _ c.requires
      w.in-None-Some.ensures'.cases.0 w.in_ok-added-in-None-Some.ensures (ap length w.in-None-Some.ensures))
  | in-Some-None+in_ok-removed-in-Some-None w ↦ rw w.change-is
      (removed_last c.args.site.now c.args.live c.args.tree.now w.in-Some-None.entry.now w.in-Some-None.left _ c.requires
      w.in-Some-None.ensures w.in_ok-removed-in-Some-None.ensures w.in-Some-None.ensures'.cases)
  | in-Some-Some+in-Less+in_ok-removed-in-Less w ↦ rw w.change-is
      (removed_first c.args.site.now c.args.live c.args.tree.now w.in-Some-Some.entry.now w.in-Some-Some.live_left w.in-Some-Some.listed.now w.in-Some-Some.tree_left.now _ c.requires
      w.in-Some-Some.ensures w.in-Some-Some.ensures'.cases.0 w.in_ok-removed-in-Less.ensures (sym w.compare_paths.ensures ∙ w.in-Less.is))
  | in-Some-Some+in-Greater+in_ok-added-in-Greater w ↦ rw w.change-is
      (added_first c.args.site.now c.args.live c.args.tree.now w.in-Some-Some.entry.now w.in-Some-Some.live_left w.in-Some-Some.listed.now w.in-Some-Some.tree_left.now _ c.requires
      w.in-Some-Some.ensures w.in-Some-Some.ensures'.cases.0 w.in_ok-added-in-Greater.ensures (sym w.compare_paths.ensures ∙ w.in-Greater.is))
  | in-Some-Some+in-Equal+in_ok-rewritten-in-Equal w ↦ rw w.change-is
      (rewritten_first c.args.site.now c.args.live c.args.tree.now w.in-Some-Some.entry.now w.in-Some-Some.live_left w.in-Some-Some.listed.now w.in-Some-Some.tree_left.now _ c.requires
      w.in-Some-Some.ensures w.in-Some-Some.ensures'.cases.0 w.in_ok-rewritten-in-Equal.ensures (sym w.compare_paths.ensures ∙ w.in-Equal.is))
]

pub rewritten-requires : goal.rewritten-requires
rewritten-requires c =
    heads_comparable c.args.site.now c.args.live c.args.tree.now c.in-Some-Some.entry.now c.in-Some-Some.live_left c.in-Some-Some.listed.now c.in-Some-Some.tree_left.now c.requires
    c.in-Some-Some.ensures c.in-Some-Some.ensures'.cases.0
