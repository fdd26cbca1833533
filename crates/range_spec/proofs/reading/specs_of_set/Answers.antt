use Rattle.std.proofs.Common.{arith}
use Rattle.range_spec.proofs.Separators.{if_err, if_ok, read_past, spec_found}
use Rattle.range_spec.proofs.reading.specs_of_set.Goals as goal

pub returns-in_err-spec-clause-none : goal.returns-in_err-spec-clause-none
returns-in_err-spec-clause-none c =
    rw c.from_residual.ensures (λ specs p. absurd (c.in_err-spec.ensures.none _ (c.loop-rest.invariant.read.only specs p).1))

pub returns-in_err-ok-clause-none : goal.returns-in_err-ok-clause-none
returns-in_err-ok-clause-none c =
    let full = if_err c.try_push.result _ c.in_err-ok.ensures.variant c.try_push.ensures.full in
    rw c.from_residual-in_err-ok.ensures (read_past _ _ _ _ _ c.loop-rest.invariant.read c.in_ok-spec.ensures.found (omega (arith, full)))

pub loop-rest-preserved : goal.loop-rest-preserved
loop-rest-preserved c = record {
  read =
      spec_found _ _ _ _ _ _ _ c.loop-rest.invariant.read c.in_ok-spec.ensures.found (if_ok c.try_push.result _ c.in_ok-ok.ensures.variant c.try_push.ensures.ok)
      c.after_separators-rest-in-loop-rest.ensures.read;
  begins = c.after_separators-rest-in-loop-rest.ensures.ended;
}
