use Rattle.std.proofs.Common.{rules}
use Rattle.std.proofs.lemmas.Fn.{always_returns_same}
use Rattle.persistent_maps.proofs.Entries.{searched}
use Rattle.persistent_maps.proofs.searches.search.Goals as goal

-- the closure compares a pair's key with the one that is sought
pub returns : goal.returns
returns g c =
    let facts = c.binary_search_by.ensures in
    let sought = g.P.Probe.sought c.args.probe.now in
    let by_key = facts.position (λ pair. g.K.Ord.cmp pair.0 sought) (always_returns_same _ _ _ (λ a r f called. search rules)) in
    let ends = searched g.K.Ord.cmp g.met.K.Ord.total sought c.args.pairs.now _ c.requires facts.bound by_key in
    record { found = ends.found; absent = ends.absent }
