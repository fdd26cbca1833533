use Rattle.http_wire.proofs.wires.Wire.new.Goals as goal

pub invariant_of-result : goal.invariant_of-result
invariant_of-result c = (c.new-search.ensures _, c.in_ok-room.ensures.len)
