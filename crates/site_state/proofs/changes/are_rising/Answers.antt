use Rattle.std.proofs.Common.{◌≡◌, rules, subst}
use Rattle.std.specs.List.{IsAllAdjacentAnswer}
use Rattle.std.proofs.lemmas.List.Sorted.{answers_always}
use Rattle.site_state.proofs.Sides.{is_before, rises}
use Rattle.site_state.proofs.changes.are_rising.Goals as goal

pub returns : goal.returns
returns c = λ answer.
    let neighbours = c.is_sorted_by.ensures.cases is_before (answers_always _ (λ a r. r ≡ is_before a.0.now a.1.0.now) _ (λ f a r f2 called. search rules)) in
    rises c.args.side c.args.changes.now (subst (IsAllAdjacentAnswer (λ x y b. b ≡ is_before x y) c.args.changes.now) answer neighbours)
