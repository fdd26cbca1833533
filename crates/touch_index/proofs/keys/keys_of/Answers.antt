use Rattle.std.proofs.Common.{List, ◌++◌, ℕ, ap, subst, ◌∙◌, eqb}
use Rattle.std.specs.List.Sorted.{IsPermutation}
use Rattle.std.proofs.lemmas.List.Filters.{dedup_is}
use Rattle.touch_index.specs.Keys.{touched_keys}
use Rattle.touch_index.proofs.Posted.{AreSameKeys-deduped, deduped-rises}
use Rattle.touch_index.proofs.keys.keys_of.Goals as goal

pub returns-clause-same : goal.returns-clause-same
returns-clause-same c =
    let P : List ℕ → Type 0 = λ keys. IsPermutation keys c.sort_unstable.new.self.items in
    let pushed = c.in_ok-push_keys.ensures ∙ ap (λ (keys : List ℕ). keys ++ touched_keys c.args.touched.now) c.new-keys.ensures.items in
    AreSameKeys-deduped (touched_keys c.args.touched.now) _ _ (subst P pushed c.sort_unstable.ensures.permutation) (dedup_is eqb _ _ c.dedup.ensures.filtered)

pub returns-clause-rising : goal.returns-clause-rising
returns-clause-rising c = deduped-rises _ _ c.sort_unstable.ensures.sorted (dedup_is eqb _ _ c.dedup.ensures.filtered)
