use Rattle.std.proofs.Common.{◌<◌, ◌≤◌, length, refl, arith}
use Rattle.world_node.specs.Nodes.{ended}
use Rattle.world_node.proofs.Handling.{change_past, change_written}
use Rattle.world_node.proofs.flights.end.Goals as goal

pub returns-then-number-len : goal.returns-then-number-len
returns-then-number-len c =
    let within : c.args.number < length c.args.flights.now.items = omega arith in
    change_written ended c.args.number c.args.flights.now.items c.index_mut-flight.result.now (ended c.index_mut-flight.result.now) within c.index_mut-flight.ensures.value refl

pub returns-else-number-len : goal.returns-else-number-len
returns-else-number-len c =
    let past : length c.args.flights.now.items ≤ c.args.number = omega arith in
    change_past ended c.args.number c.args.flights.now.items past
