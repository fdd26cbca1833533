use Rattle.std.proofs.Common.{subst, sym}
use Rattle.persistent_maps.specs.Maps.{AreBlocks}
use Rattle.persistent_maps.proofs.Lookups.{AreBlocks-none}
use Rattle.persistent_maps.proofs.maps.SharedMap.new.Goals as goal

pub invariant_of-result : goal.invariant_of-result
invariant_of-result g c = subst (AreBlocks g.K.Ord.cmp) (sym c.new.ensures.items) (AreBlocks-none g.met.K.Ord.total)
