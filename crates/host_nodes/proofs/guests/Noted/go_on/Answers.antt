use Rattle.std.proofs.Common.{◌≡◌, ◌∙◌, List, Option, None, subst, sym}
use Rattle.std.specs.Bool.{⊤}
use Rattle.std.specs.Option.{MatchOption}
use Rattle.std.specs.Prelude.{Box}
use Rattle.std.specs.declared.alloc.Global.{Global}
use Rattle.std.proofs.Math.Logic.{∥∥₁_map}
use Rattle.http_wire.specs.Timing.{Event}
use Rattle.host_connection.specs.Carrying.{Carries, Leads}
use Rattle.host_connection.specs.Resting.{IsResting}
use Rattle.host_connection.specs.declared.steps.Connection.{Connection}
use Rattle.shared_house.specs.Desks.{shows}
use Rattle.shared_house.specs.Guests.{IsGuestAnswer}
use Rattle.tcp_socket.specs.Trails.{notes}
use Rattle.host_nodes.specs.Carried.{IsKept}
use Rattle.host_nodes.proofs.Carrying.{carries_on, in_room, out_of_room}
use Rattle.host_nodes.proofs.guests.Noted.go_on.Goals as goal

-- without memory for its room it rests as before
pub invariant_of-self : goal.invariant_of-self
invariant_of-self g c =
    let old = c.args.self.now in
    let rests : c.take.result ≡ None = c.in_err-connection.ensures in
    record {
      carried = subst (λ (kept : Option (Box Connection Global)). ∥ IsKept (shows g.M.Houses.did g.M.Houses.fails) old.trail old.note kept old.number ∥₁)
          (sym c.take.ensures.value ∙ rests ∙ sym c.take.ensures.after) old.carried;
    }

pub invariant_of-self-2 : goal.invariant_of-self-2
invariant_of-self-2 g c =
    let did = shows g.A.DeskAccess.did g.G.FileAccess.fails in
    let all = shows g.M.Houses.did g.M.Houses.fails in
    let old = c.args.self.now in
    let step = c.go_on-progress in
    let room = c.in_ok-connection in
    let has : MatchOption old.connection (IsResting old.number room.connection.value) (λ (o : Box Connection Global). room.connection ≡ o) =
    subst (λ (k : Option (Box Connection Global)). MatchOption k (IsResting old.number room.connection.value) (λ (o : Box Connection Global). room.connection ≡ o))
    c.take.ensures.value room.ensures in
    record {
      carried = ∥∥₁_map old.carried (λ is.
          out_of_room all _ _ c.without_room-connection.result.0 c.without_room-connection.result.1 _ c.without_room-connection.ensures.kept
          (g.met.A.AsksOver.as_shown _ _ _
          (carries_on did (λ (t : List Event). ⊤) _ _ _ _ _ _ step.result
          (λ start first so.
          subst (λ (t : List Event). Leads (IsGuestAnswer did) notes (Unit {0}) (λ (u : List Event). ⊤) start first t step.new.note step.new.connection step.result)
          (sym (c.trail.ensures ∙ c.stream.ensures))
          (step.ensures.leads start first
          (subst (λ (d : Connection). Carries (IsGuestAnswer did) notes (Unit {0}) start first c.args.duplex.now.stream old.note d) (sym c.deref_mut.ensures.value)
          (subst (λ (t : List Event). Carries (IsGuestAnswer did) notes (Unit {0}) start first t old.note room.connection.value) (sym c.requires) so))))
          (g.met.A.AsksOver.of_shown _ _ _ (in_room all _ _ old.connection old.number room.connection has is)))));
    }
