use Rattle.persistent_maps.proofs.WrittenBlocks.{Rise-one}
use Rattle.persistent_maps.proofs.maps.SharedMap.write.Goals as goal

pub write_all-requires-clause-rising : goal.write_all-requires-clause-rising
write_all-requires-clause-rising g c = Rise-one g.met.K.Ord.total c.push.new.self.items c.new-edits.result.items _ c.in_ok-push.ensures.items c.new-edits.ensures.items
