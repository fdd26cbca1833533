use Rattle.std.proofs.Common.{sym, ◌∙◌, ap, ◌+◌, ◌∷◌, [], ◌++◌, List, Some, ◌≡◌, subst}
use Rattle.growing.specs.Orders.{IsNewer}
use Rattle.seen_lists.proofs.Pushing.{latest_pushed, list_pushed}
use Rattle.seen_lists.proofs.Steps.{pushes_moves}
use Rattle.seen_lists.proofs.lists.SeenList.push.Goals as goal

pub compare_exchange-requires : goal.compare_exchange-requires
compare_exchange-requires g c =
    let inv = c.self.invariant.0 in
    let h = inv.head_is in
    let offer = c.plain-offer.ensures in (
      ap (λ w. w.tracked) h,
      inv.seen_is ∙ sym (ap (λ w. w.book) h),
      inv.pen_is ∙ sym (ap (λ w. w.book) h),
      offer.0,
      rw (ap (λ w. w.key) h, offer.3) (pushes_moves c.self.inside.seen.log c.self.inside.pen.nib c.self.inside.entries c.plain-offer.result.ask inv.right inv.next inv.entered),
    )

pub invariant_of-self : goal.invariant_of-self
invariant_of-self g c =
    let log = c.self.inside.seen.log in
    let step = c.compare_exchange.ensures in
    let asked = c.plain-offer.ensures.1 in
    let of = c.of.ensures in
    let entry : c.plain-offer.result.ask ≡ (Some c.args.item.now, c.pen-next.result.nib.key) = cc (asked, of.0, of.1) in
    let before = ap (λ v. v.now) c.self.view_is in
    list_pushed g.E.Growing.is_later g.L.ListName.found _ _ _ _ _ _ _ log c.args.item.now _ _ _ _ c.plain-offer.result.ask c.self.invariant
    (subst (λ x. IsNewer g.E.Growing.is_later x c.args.item.now) (sym before) c.requires.newer) c.pen-next.ensures.book c.pen-next.ensures.right step.0 step.7 entry

pub returns : goal.returns
returns g c =
    let log = c.self.inside.seen.log in
    let step = c.compare_exchange.ensures in
    let asked = c.plain-offer.ensures.1 in
    let of = c.of.ensures in
    let entry : c.plain-offer.result.ask ≡ (Some c.args.item.now, c.pen-next.result.nib.key) = cc (asked, of.0, of.1) in
    let last = latest_pushed g.L.ListName.found log _ c.args.item.now _ c.plain-offer.result.ask step.7 entry in
    let times = ap (λ v. v.times) c.self.view_is in
    λ i. record { times = ap (λ n. n + 1) times i; now = last i }
