use Rattle.std.proofs.Common.{subst}
use Rattle.host_server.specs.Hosts.{Host, Grows, host_of}
use Rattle.host_server.specs.Reasons.{undo_refusal}
use Rattle.host_server.proofs.Kept.{kept_by_undo}
use Rattle.host_server.proofs.Reached.{reached_by_history}
use Rattle.change_undo.specs.Histories.{IsUndoRefusedBy}
use Rattle.site_change.specs.declared.entries.Entry.TheVariants.{Undo}
use Rattle.host_server.proofs.Growing.{grows_past, same_entries}
use Rattle.host_server.proofs.host.houses.SoloHouse.undo_alone.Goals as goal

pub invariant_of-self : goal.invariant_of-self
invariant_of-self c = record {
  over = kept_by_undo c.undo.result c.self.inside.history c.undo.new.self c.self.inside.uploads c.self.invariant.over c.undo.ensures.over c.undo.ensures.err;
  reached = reached_by_history c.undo.result c.self.inside.history c.undo.new.self c.self.inside.uploads c.self.inside.readiness.places (Undo c.args.site.now c.args.change)
      c.self.invariant.reached c.undo.ensures.entries (same_entries c.undo.result c.self.inside.history c.undo.new.self c.undo.ensures.err);
}

pub returns-clause-refused : goal.returns-clause-refused
returns-clause-refused c =
    let P : Host → Type 0 = λ h. IsUndoRefusedBy (undo_refusal h c.args.site.now c.args.change) c.undo.result in
    subst P c.self.view_is (c.undo.ensures.refused c.self.inside.uploads c.self.invariant.over)

pub returns-clause-grows : goal.returns-clause-grows
returns-clause-grows c =
    let P : Host → Type 0 = λ h. Grows h (host_of c.undo.new.self c.self.inside.uploads) in
    subst P c.self.view_is (grows_past c.undo.result c.self.inside.history c.undo.new.self c.self.inside.uploads (Undo c.args.site.now c.args.change)
    c.undo.ensures.limit c.undo.ensures.entries (same_entries c.undo.result c.self.inside.history c.undo.new.self c.undo.ensures.err))
