use Rattle.std.proofs.Common.{arith, None, ◌∙◌, sym}
use Rattle.std.proofs.lemmas.List.Elements.{All-push}
use Rattle.range_spec.specs.declared.grammar.Spec.TheVariants.{From}
use Rattle.range_spec.specs.Chosen.{LiesWithin, interval_of}
use Rattle.range_spec.proofs.Selecting.{filter_map_more_some, filter_map_more_none}
use Rattle.range_spec.proofs.selection.satisfiable.Goals as goal
use Rattle.range_spec.proofs.selection.satisfiable.Goals.{in-Some, in_default}

pub loop-spec-preserved : goal.loop-spec-preserved
loop-spec-preserved c = elim c.match-interval.branch [
  | in-Some w ↦ record {
    each =
        rw (w.intervals-is, w.push.ensures.items, c.loop-spec.invariant.each)
        (sym (filter_map_more_some (interval_of c.args.size) c.args.specs.now c.loop-spec.spec-index (From 0 None) w.in-Some.interval c.loop-spec-test.true (sym c.interval.ensures.value ∙ w.in-Some.is)));
    few = rw (w.intervals-is) (omega (arith, w.push.ensures.len));
    within = rw (w.intervals-is, w.push.ensures.items) (All-push (LiesWithin c.args.size) _ _ c.loop-spec.invariant.within w.in-Some.ensures.within);
  }
  | in_default w ↦ record {
    each =
        rw (w.intervals-is, c.loop-spec.invariant.each)
        (sym (filter_map_more_none (interval_of c.args.size) c.args.specs.now c.loop-spec.spec-index (From 0 None) c.loop-spec-test.true (sym c.interval.ensures.value ∙ w.in_default.is)));
    few = rw w.intervals-is (omega arith);
    within = rw w.intervals-is c.loop-spec.invariant.within;
  }
]
