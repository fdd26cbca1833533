use Rattle.std.specs.Prelude.{codes}
use Rattle.std.proofs.lemmas.Bool.Decides.{Decides-eqb}
use Rattle.std.proofs.lemmas.Slice.Eq.{strip_prefix_is}
use Rattle.range_spec.proofs.Values.{if_none, no_equals, other_unit}
use Rattle.range_spec.proofs.reading.range_set.Goals as goal

pub returns-then-not-eq_ignore_ascii_case-clause-none : goal.returns-then-not-eq_ignore_ascii_case-clause-none
returns-then-not-eq_ignore_ascii_case-clause-none c =
    other_unit _ _ c.in_ok-unit.ensures.cases.1
    (λ same. let is = c.if-not-eq_ignore_ascii_case.ensures.test.1 same in cc)

pub returns-clause-none : goal.returns-clause-none
returns-clause-none c =
    if_none c.strip_prefix.result _ _ _ (strip_prefix_is Decides-eqb c.in_ok-unit.rest.now (codes "=") c.strip_prefix.result c.strip_prefix.ensures.cases)
    (no_equals _ _ c.in_ok-unit.ensures.cases.2)
