use Rattle.std.proofs.Common.{◌≡◌, ap, subst, List}
use mathlib.Core.List.{IsPrefix}
use Rattle.seen_lists.specs.Rules.{Link}
use Rattle.seen_lists.proofs.Rising.{fronts_ordered, fronts_same}
use Rattle.seen_lists.proofs.fronts.Front.reaches.Goals as goal

pub returns-clause-told : goal.returns-clause-told
returns-clause-told g c =
    let both = c.learn.new.self.log in
    let own = c.self.inside.seen.log in
    let theirs = c.other.inside.seen.log in
    let mine : IsPrefix own both = subst (λ (l : List (Link g.row.E.Denot)). IsPrefix l both) (ap (λ s. s.log) c.again-both.ensures) c.learn.ensures.2 in
    rw (← c.self.view_is, ← c.other.view_is)
    (fronts_ordered g.E.Growing.is_later g.E.Growing.itself g.E.Growing.goes_on g.L.ListName.found own theirs both mine c.learn.ensures.3
    c.self.invariant.rises c.other.invariant.rises c.self.inside.count c.other.inside.count c.self.invariant.counted c.other.invariant.counted)

pub returns-clause-same : goal.returns-clause-same
returns-clause-same g c =
    let both = c.learn.new.self.log in
    let own = c.self.inside.seen.log in
    let theirs = c.other.inside.seen.log in
    let mine : IsPrefix own both = subst (λ (l : List (Link g.row.E.Denot)). IsPrefix l both) (ap (λ s. s.log) c.again-both.ensures) c.learn.ensures.2 in
    rw (← c.self.view_is, ← c.other.view_is)
    (fronts_same g.E.Growing.is_later g.E.Growing.itself g.E.Growing.goes_on g.L.ListName.found own theirs both mine c.learn.ensures.3
    c.self.invariant.rises c.other.invariant.rises)
