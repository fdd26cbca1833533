use Rattle.std.proofs.Common.{◌∙◌, IsTrue, arith, rules, below_more, subst, map}
use Rattle.range_reply.specs.Slices.{OccursInOne, all_meant, shown}
use Rattle.range_reply.proofs.choices.boundary.Goals as goal

pub loop-number-preserved : goal.loop-number-preserved
loop-number-preserved c =
    let occurs : IsTrue c.occurs_in_one.result = search rules in
    let text = c.as_bytes.ensures.value ∙ c.deref.ensures.0 ∙ c.text.ensures.text ∙ c.candidate-candidate.ensures in
    record {
      shown = below_more _ _ c.loop-number.invariant.shown
          (subst (λ bytes. OccursInOne bytes (map shown c.args.holds.now)) text (c.occurs_in_one.ensures.shown.0 occurs));
      pure = λ pure. below_more _ _ (c.loop-number.invariant.pure pure)
          (subst (λ bytes. OccursInOne bytes (all_meant c.args.holds.now)) text ((c.occurs_in_one.ensures.pure pure).0 occurs));
    }

pub returns-clause-none : goal.returns-clause-none
returns-clause-none c = λ number small. c.loop-number.invariant.shown number (omega (arith, small, c.loop-number-test.false))
