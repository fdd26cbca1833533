use Rattle.std.proofs.Common.{sym, subst}
use Rattle.seen_lists.specs.Rules.{items_of}
use Rattle.seen_lists.proofs.Rising.{reach}
use Rattle.seen_lists.proofs.laws.each_front_is_later_than_what_was_found.Goals as goal

pub returns : goal.returns
returns g c =
    let found = g.L.ListName.found in
    subst (λ now. g.E.Growing.is_later found now) (sym c.seen.ensures.latest)
    (reach g.E.Growing.is_later g.E.Growing.itself g.E.Growing.goes_on found (items_of c.seen.result.now.log) c.seen.ensures.front.rises)
