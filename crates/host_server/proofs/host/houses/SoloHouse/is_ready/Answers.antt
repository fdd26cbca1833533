use Rattle.std.proofs.Common.{◌≡◌, ◌∙◌, Some, ap, sym}
use Rattle.site_state.specs.States.{State, draft_at}
use Rattle.host_server.proofs.Reached.{reached_by_check, reached_there}
use Rattle.host_server.proofs.host.houses.SoloHouse.is_ready.Goals as goal

pub is_complete-requires : goal.is_complete-requires
is_complete-requires c =
    let past = c.self.inside.history in
    let uploads = c.self.inside.uploads in
    let draft = c.in-Some.draft.now in
    let over = c.self.invariant.over in
    let there : draft_at past.state c.args.site.now c.args.number ≡ Some draft =
    ap (λ (s : State). draft_at s c.args.site.now c.args.number) (sym c.state.ensures.value) ∙ sym c.in-Some.ensures in
    let opened = c.deploys_were_opened_by_their_entries.ensures.opened uploads past.entries past.state over.ran c.args.site.now c.args.number draft there in
    reached_there uploads past.entries over.legal.0 c.args.site.now c.args.number draft opened c.self.inside.readiness.places c.self.invariant.reached

pub invariant_of-self : goal.invariant_of-self
invariant_of-self c =
    let past = c.self.inside.history in
    let uploads = c.self.inside.uploads in
    let draft = c.in-Some.draft.now in
    let over = c.self.invariant.over in
    let there : draft_at past.state c.args.site.now c.args.number ≡ Some draft =
    ap (λ (s : State). draft_at s c.args.site.now c.args.number) (sym c.state.ensures.value) ∙ sym c.in-Some.ensures in
    let opened = c.deploys_were_opened_by_their_entries.ensures.opened uploads past.entries past.state over.ran c.args.site.now c.args.number draft there in
    record {
      over = over;
      reached = reached_by_check uploads past.entries over.legal.0 c.args.site.now c.args.number draft opened c.self.inside.readiness.places
          c.is_complete.new.self.places c.self.invariant.reached c.is_complete.ensures.kept;
    }
