use Rattle.std.proofs.Common.{sym, ◌∙◌, ap, subst, List}
use mathlib.Core.List.{IsPrefix}
use Rattle.seen_lists.specs.Rules.{Link, items_of}
use Rattle.seen_lists.proofs.Logs.{seen_whole}
use Rattle.seen_lists.proofs.Rising.{prefix_later}
use Rattle.seen_lists.proofs.Steps.{looks_moves}
use Rattle.seen_lists.proofs.lists.SeenList.has.Goals as goal

pub compare_exchange-requires : goal.compare_exchange-requires
compare_exchange-requires g c =
    let inv = c.self.invariant.0 in
    let h = inv.head_is in
    let offer = c.plain-offer.ensures in
    let own = c.self.inside.seen.log in
    let both = c.learn.new.self.log in
    let mine : IsPrefix own both = subst (λ (l : List (Link g.row.E.Denot)). IsPrefix l both) (ap (λ s. s.log) c.again-seen.ensures) c.learn.ensures.2 in (
      ap (λ w. w.tracked) h,
      c.learn.ensures.0 ∙ (ap (λ s. s.book) c.again-seen.ensures ∙ (inv.seen_is ∙ sym (ap (λ w. w.book) h))),
      inv.pen_is ∙ sym (ap (λ w. w.book) h),
      offer.0,
      rw (ap (λ w. w.key) h, offer.3) (looks_moves both own c.self.inside.pen.nib c.self.inside.entries c.plain-offer.result.ask mine inv.right inv.next inv.entered),
    )

pub returns-clause-front : goal.returns-clause-front
returns-clause-front g c =
    let own = c.self.inside.seen.log in
    let both = c.learn.new.self.log in
    let mine : IsPrefix own both = subst (λ (l : List (Link g.row.E.Denot)). IsPrefix l both) (ap (λ s. s.log) c.again-seen.ensures) c.learn.ensures.2 in
    let step = c.compare_exchange.ensures in
    let begins = seen_whole own c.seen.result.now.log both c.compare_exchange.new.seen.log c.self.inside.entries mine c.learn.ensures.3 step.6 step.7.0 c.self.invariant.0.entered in
    rw (← ap (λ v. v.now) c.self.view_is, c.seen.ensures.latest)
    (prefix_later g.E.Growing.is_later g.E.Growing.itself g.E.Growing.goes_on g.L.ListName.found (items_of c.seen.result.now.log) (items_of own) begins c.self.invariant.1)
