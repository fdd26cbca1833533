use Rattle.std.proofs.Common.{◌≡◌, [], true, get_or, subst}
use Rattle.persistent_maps.specs.Maps.{starts_by}
use Rattle.persistent_maps.proofs.Past.{edited_by-past}
use Rattle.persistent_maps.proofs.writes.first_place.Goals as goal

pub returns-in-Some-clause-past : goal.returns-in-Some-clause-past
returns-in-Some-clause-past g c =
    let chunks = c.args.chunks.now in
    let edit = c.in-Some.edit.now in
    let place = c.place_of.result in
    let first = c.in-Some.ensures.item in
    edited_by-past g.met.K.Ord.total place chunks c.args.edits.now edit c.requires.sound.filled c.requires.sound.sorted c.requires.edits_rise
    (λ some. (c.place_of.ensures.past some).0)
    (λ some. subst (λ e. starts_by g.K.Ord.cmp e.0 (get_or chunks place []) ≡ true) (first.3.1 edit) (c.place_of.ensures.past some).1)
