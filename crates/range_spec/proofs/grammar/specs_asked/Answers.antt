use Rattle.std.proofs.Common.{arith}
use Rattle.range_spec.proofs.OneReading.{answered}
use Rattle.range_spec.proofs.Values.{set_asks, value_of}
use Rattle.range_spec.proofs.grammar.specs_asked.Goals as goal

pub returns-in_err-set : goal.returns-in_err-set
returns-in_err-set c = λ specs. rw c.from_residual.ensures ((λ e. cc), (λ p. absurd (c.in_err-set.ensures.none _ (value_of _ specs p))))

pub returns-in_err-specs_of_set : goal.returns-in_err-specs_of_set
returns-in_err-specs_of_set c = λ specs. rw c.from_residual-in_err-specs_of_set.ensures ((λ e. cc), (λ p. let more = c.in_err-specs_of_set.ensures.none specs (set_asks _ _ specs c.in_ok-set.ensures.found p) in absurd (omega (arith, more, p.askable.few))))

pub returns : goal.returns
returns c = answered _ _ _ _ c.in_ok-set.ensures.found c.in_ok-specs_of_set.ensures.found c.of.ensures.askable c.of.ensures.value
