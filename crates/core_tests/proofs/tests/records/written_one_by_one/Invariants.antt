use Rattle.std.proofs.Common.{◌≡◌, drop, take}
use Rattle.site_state.specs.Changes.{AreOfKindOn, writes}
use Rattle.site_state.specs.States.{with_cells}
use Rattle.site_state.specs.declared.changes.Side.TheVariants.{Before}
use Rattle.core_tests.proofs.tests.records.written_one_by_one.Given as goal

abbrev pub invariant-changes : goal.invariant-changes
invariant-changes l = record {
  of_kind : AreOfKindOn Before (take l.change-index l.changes);
  written : with_cells l.copy (writes Before (drop l.change-index l.changes)) ≡ with_cells l.fn.state (writes Before l.fn.changes);
}
