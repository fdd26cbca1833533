use Rattle.std.proofs.Common.{◌≡◌, List, ℕ, subst, sym}
use Rattle.shared_house.specs.Kept.{IsKept}
use Rattle.shared_house.proofs.kept.Kept.new.Goals as goal

pub invariant_of-result : goal.invariant_of-result
invariant_of-result g c =
    subst (λ (h : List ℕ). IsKept c.args.front h c.in_ok-text.text.value.items) (sym (c.in_ok-head.ensures.items_if_clones_equal (λ (x y : ℕ) (is : y ≡ x). is)))
    (subst (λ v. IsKept c.args.front c.args.head.now v.items) (sym c.in_ok-text.ensures.ok) c.requires)
