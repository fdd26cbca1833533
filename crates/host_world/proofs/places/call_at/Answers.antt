use Rattle.std.proofs.Common.{rules, ◌≡◌, ◌<◌, ◌%◌, ◌∙◌, ℕ, length, ap}
use Rattle.world_desk.specs.Desks.{change_at}
use Rattle.world_desk.proofs.Changing.{change_written}
use Rattle.world_node.specs.Nodes as node
use Rattle.world_node.specs.Nodes.{NodeState}
use Rattle.host_world.proofs.places.call_at.Goals as goal

pub returns-in_ok-call-clause-ok : goal.returns-in_ok-call-clause-ok
returns-in_ok-call-clause-ok c =
    let items = c.args.nodes.now.items in
    let count = c.len-count.result in
    let f : NodeState → NodeState = λ n. node.happens n (node.called c.args.visitor c.args.call.now) in
    let long : count ≡ length items = search rules in
    let within : c.args.visitor % count < length items = search rules in
    change_written f (c.args.visitor % count) items c.index_mut-node.result.now c.call.new.self within c.index_mut-node.ensures.value c.in_ok-call.ensures.ok
    ∙ ap (λ (k : ℕ). change_at (c.args.visitor % k) f items) long
