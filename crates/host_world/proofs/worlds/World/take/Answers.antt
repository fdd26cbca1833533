use Rattle.std.proofs.Common.{rules, ◌≡◌, ◌∙◌, ◌<◌, ℕ, List, Option, Some, slice_get, length, ap, sym}
use Rattle.host_names.specs.declared.digests.Digest.{Digest}
use Rattle.world_node.specs.Nodes.{Landing, NodeState}
use Rattle.world_node.proofs.Handling.{there}
use Rattle.world_read.specs.Reads.{ReadState}
use Rattle.host_world.specs.Visits.{IsNextOf, in_hand}
use Rattle.host_world.specs.Worlds.{WorldState, place_in, ready, ready_in}
use Rattle.host_world.proofs.Changing.{takes_done}
use Rattle.host_world.proofs.worlds.World.take.Goals as goal

pub returns-clause-ok : goal.returns-clause-ok
returns-clause-ok c =
    let inside = c.self.inside in
    let old : WorldState = record { desk = inside.desk; nodes = inside.nodes.items; reads = inside.visits.items } in
    let w : WorldState = c.args.self.now in
    let reads : List ReadState = c.index-visits.result.now in
    let it : Digest × Option ℕ × Landing = (c.in-Some.field-0-0, c.in-Some.field-0-1, c.in-Some.outcome) in
    let within : c.args.visitor < length inside.visits.items = search rules in
    let here : slice_get old.reads c.args.visitor ≡ Some reads = there inside.visits.items c.args.visitor reads within (search rules) in
    let is_ready : ready old c.args.visitor ≡ Some it =
    ap (λ (ns : List NodeState). ready_in (slice_get ns (place_in ns c.args.visitor)) c.args.visitor) (sym c.as_slice.ensures.value) ∙ sym c.in_ok-outcome.ensures ∙ search rules in
    let next : IsNextOf (in_hand reads) c.in-Some.outcome (Some c.in-Some-2.reading) = search rules in
    takes_done w c.go_on.new.self c.args.visitor reads it c.in-Some-2.reading (ap (λ (x : WorldState). slice_get x.reads c.args.visitor) (sym c.self.view_is) ∙ here)
    (ap (λ (x : WorldState). ready x c.args.visitor) (sym c.self.view_is) ∙ is_ready) next c.in_ok-go_on.ensures.ok
