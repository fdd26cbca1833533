use Rattle.std.proofs.Common.{Some, None, refl, subst}
use Rattle.std.specs.Prelude.{codes}
use Rattle.std.proofs.lemmas.Bool.Decides.{Decides-eqb}
use Rattle.std.proofs.lemmas.Slice.Eq.{strip_prefix_is}
use Rattle.range_spec.specs.Reading.{IsPositionBefore}
use Rattle.range_spec.proofs.SpecTexts.{no_dash, no_positions, spec_before}
use Rattle.range_spec.proofs.reading.leading_spec.Goals as goal

-- src/reading.rt:81:41
pub returns-in_err-strip_prefix-clause-none : goal.returns-in_err-strip_prefix-clause-none
returns-in_err-strip_prefix-clause-none c =
    let none = strip_prefix_is Decides-eqb c.leading_position-first.result.1.now (codes "-") None c.in_err-strip_prefix.ensures.cases in
    rw c.from_residual.ensures (no_dash _ _ _ c.leading_position-first.ensures.read c.leading_position-first.ensures.ended none)

pub returns-in-Some-default-clause-found : goal.returns-in-Some-default-clause-found
returns-in-Some-default-clause-found c =
    let dash = strip_prefix_is Decides-eqb c.leading_position-first.result.1.now (codes "-") (Some c.in_ok-strip_prefix.field-0) c.in_ok-strip_prefix.ensures.cases in
    let first = subst (λ p. IsPositionBefore c.args.text.now p c.leading_position-first.result.1.now) c.in-Some-default.is-0 c.leading_position-first.ensures.read in
    spec_before _ _ _ _ _ _ _ first dash c.leading_position-last.ensures.read refl

pub returns-in-None-Some-clause-found : goal.returns-in-None-Some-clause-found
returns-in-None-Some-clause-found c =
    let dash = strip_prefix_is Decides-eqb c.leading_position-first.result.1.now (codes "-") (Some c.in_ok-strip_prefix.field-0) c.in_ok-strip_prefix.ensures.cases in
    let first = subst (λ p. IsPositionBefore c.args.text.now p c.leading_position-first.result.1.now) c.in-None-Some.is-0 c.leading_position-first.ensures.read in
    let last = subst (λ p. IsPositionBefore c.in_ok-strip_prefix.field-0.now p c.leading_position-last.result.1.now) c.in-None-Some.is-1 c.leading_position-last.ensures.read in
    spec_before _ _ _ _ _ _ _ first dash last refl

pub returns-in-None-None-clause-none : goal.returns-in-None-None-clause-none
returns-in-None-None-clause-none c =
    let dash = strip_prefix_is Decides-eqb c.leading_position-first.result.1.now (codes "-") (Some c.in_ok-strip_prefix.field-0) c.in_ok-strip_prefix.ensures.cases in
    let first = subst (λ p. IsPositionBefore c.args.text.now p c.leading_position-first.result.1.now) c.in-None-None.is-0 c.leading_position-first.ensures.read in
    let last = subst (λ p. IsPositionBefore c.in_ok-strip_prefix.field-0.now p c.leading_position-last.result.1.now) c.in-None-None.is-1 c.leading_position-last.ensures.read in
    no_positions _ _ _ _ first c.leading_position-first.ensures.ended dash last c.leading_position-last.ensures.ended
