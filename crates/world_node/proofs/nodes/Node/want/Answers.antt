use Rattle.std.proofs.Common.{◌≡◌, ◌<◌, ◌∙◌, Some, ap, length, slice_get, arith}
use Rattle.world_node.specs.Nodes.{Want}
use Rattle.world_node.specs.Nodes.{NodeState, happens}
use Rattle.world_node.proofs.Handling.{there, want_done}
use Rattle.world_node.proofs.nodes.Node.want.Goals as goal

pub returns-then-number-len : goal.returns-then-number-len
returns-then-number-len c =
    let within : c.args.number < length c.self.inside.readers.items = omega arith in
    let v = c.index_mut-reader.result.now in
    let old : NodeState = record { cache = c.self.inside.cache; flights = c.self.inside.flights.items; readers = c.self.inside.readers.items } in
    let at : slice_get c.self.inside.readers.items c.args.number ≡ Some v = there c.self.inside.readers.items c.args.number v within c.index_mut-reader.ensures.value in
    want_done old c.args.number c.args.key v c.want.new.self at c.want.ensures ∙ ap (λ (w : NodeState). happens w (Want c.args.number c.args.key)) c.self.view_is
