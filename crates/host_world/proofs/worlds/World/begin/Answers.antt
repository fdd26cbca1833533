use Rattle.std.proofs.Common.{◌∙◌, ℕ, Option, Some, ap, subst}
use Rattle.host_names.specs.declared.digests.Digest.{Digest}
use Rattle.world_read.specs.Reads.{IsBegun, ReadState}
use Rattle.host_world.specs.Steps.{EntersFree, wanted_there}
use Rattle.host_world.specs.Worlds.{WorldState}
use Rattle.host_world.proofs.Changing.{same_world}
use Rattle.host_world.proofs.worlds.World.begin.Goals as goal

pub returns-clause-ok : goal.returns-clause-ok
returns-clause-ok c =
    let inside = c.self.inside in
    let old : WorldState = record { desk = inside.desk; nodes = inside.nodes.items; reads = inside.visits.items } in
    let new : WorldState = record { desk = c.begin_at.new.desk; nodes = c.want_at.new.nodes.items; reads = c.begin_at.new.visits.items } in
    let read : ReadState = c.in_ok-read.read in
    let state = c.shown_state.result.now in
    let begun = subst (λ (look : ℕ). IsBegun c.args.request.now.value look state read) c.look_count-look.ensures c.in_ok-read.ensures in
    let nodes = c.want_at.ensures ∙ ap (λ (name : Option Digest). wanted_there c.args.visitor name inside.nodes.items) c.wants-name.ensures in
    subst (λ (w : WorldState). EntersFree w c.args.visitor (Some c.args.request.now.value) new) c.self.view_is
    (state, read, c.shown_state.ensures, begun, same_world _ _ _ _ _ _ c.in_ok-begin_at.ensures.desk nodes c.in_ok-begin_at.ensures.reads)
