use Rattle.std.proofs.Common.{sym}
use Rattle.persistent_maps.proofs.Entries.{find_at, find_in_gap}
use Rattle.persistent_maps.proofs.searches.find_in.Goals as goal

pub returns-in-Ok : goal.returns-in-Ok
returns-in-Ok g c =
    let at = c.in-Ok.ensures.found in
    let pair = c.index-pairs-place.result in
    sym (find_at g.K.Ord.cmp g.met.K.Ord.total (g.P.Probe.sought c.args.probe.now) c.args.pairs.now c.in-Ok.place pair c.requires at.in_range (at.has_key pair))

pub returns-in-Err : goal.returns-in-Err
returns-in-Err g c = sym (find_in_gap g.K.Ord.cmp g.met.K.Ord.total (g.P.Probe.sought c.args.probe.now) c.args.pairs.now _ c.in-Err.ensures.absent)
