use Rattle.std.proofs.Common.{rules, ◌≡◌, ◌<◌, ◌%◌, ◌∙◌, ℕ, Option, length, ap, sym}
use Rattle.host_names.specs.declared.digests.Digest.{Digest}
use Rattle.world_desk.specs.Desks.{change_at}
use Rattle.world_desk.proofs.Changing.{change_written}
use Rattle.world_node.specs.Nodes as node
use Rattle.world_node.specs.Nodes.{NodeState}
use Rattle.host_world.specs.Steps.{wanted_there}
use Rattle.host_world.proofs.places.want_at.Goals as goal

pub returns-then-count-gt0 : goal.returns-then-count-gt0
returns-then-count-gt0 c =
    let items = c.args.nodes.now.items in
    let count = c.len-count.result in
    let f : NodeState → NodeState = λ n. node.happens n (node.Want c.args.visitor c.in-Some.name) in
    let long : count ≡ length items = search rules in
    let within : c.args.visitor % count < length items = search rules in
    change_written f (c.args.visitor % count) items c.index_mut-node.result.now c.want.new.self within c.index_mut-node.ensures.value c.want.ensures
    ∙ ap (λ (k : ℕ). change_at (c.args.visitor % k) f items) long
    ∙ ap (λ (name : Option Digest). wanted_there c.args.visitor name items) (sym c.in-Some.is)
