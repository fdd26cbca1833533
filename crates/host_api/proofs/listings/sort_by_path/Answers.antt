use Rattle.std.proofs.Common.{◌≡◌, rules, subst}
use Rattle.std.specs.List.{IsAllAdjacentAnswer}
use Rattle.std.proofs.lemmas.List.Sorted.{answers_always}
use Rattle.site_state.specs.Files.{IsByPath}
use Rattle.host_api.proofs.SortedFiles.{is_before, rises}
use Rattle.host_api.proofs.listings.sort_by_path.Goals as goal

pub returns-clause-sorted : goal.returns-clause-sorted
returns-clause-sorted c = λ answer.
    let neighbours = c.is_sorted_by.ensures.cases is_before (answers_always _ (λ a r. r ≡ is_before a.0.now a.1.0.now) _ (λ f a r f2 called. search rules)) in
    let all = subst (IsAllAdjacentAnswer (λ x y b. b ≡ is_before x y) c.deref.result.now) answer neighbours in
    subst IsByPath c.deref.ensures.value (rises c.deref.result.now all)
