use Rattle.std.proofs.Common.{◌≡◌, List, ℕ, subst, sym}
use Rattle.change_log.specs.Logs.{Log}
use Rattle.shared_house.specs.Kept.{IsKept}
use Rattle.shared_house.proofs.kept.Kept.text_over.Goals as goal

pub returns-in-Ok : goal.returns-in-Ok
returns-in-Ok g c =
    let inside = c.self.inside in
    let same : inside.front ≡ c.args.front.now = c.reaches.ensures.same c.if-not-reaches-2.ensures.told c.if-not-reaches.ensures.told in
    let kept : IsKept inside.front inside.head.items c.in-Ok.text.value.items =
    subst (λ v. IsKept inside.front inside.head.items v.items) (sym c.in-Ok.ensures) c.self.invariant in
    subst (λ (l : Log). IsKept l c.args.self.now c.in-Ok.text.value.items) same
    (subst (λ (h : List ℕ). IsKept inside.front h c.in-Ok.text.value.items) c.self.view_is kept)
