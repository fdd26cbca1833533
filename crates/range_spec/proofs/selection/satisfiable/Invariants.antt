use Rattle.std.proofs.Common.{◌≡◌, ◌≤◌, length, take}
use Rattle.std.specs.List.{filter_map, All}
use Rattle.range_spec.specs.Chosen.{interval_of, LiesWithin}
use Rattle.range_spec.proofs.selection.satisfiable.Given as goal

abbrev pub invariant-loop-spec : goal.invariant-loop-spec
invariant-loop-spec l = record {
  each : l.intervals.items ≡ filter_map (interval_of l.size) (take l.spec-index l.specs);
  few : length l.intervals.items ≤ l.spec-index;
  within : All (LiesWithin l.size) l.intervals.items;
}
