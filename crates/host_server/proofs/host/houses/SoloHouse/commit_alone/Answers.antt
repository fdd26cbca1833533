use Rattle.std.proofs.Common.{subst}
use Rattle.host_server.specs.Hosts.{Host, Grows, host_of}
use Rattle.host_server.specs.Reasons.{commit_refusal}
use Rattle.site_change.specs.Refusals.{IsRefusedBy}
use Rattle.host_server.proofs.Reached.{reached_by_history}
use Rattle.host_server.proofs.Refusing.{refused_as_kept}
use Rattle.site_change.specs.declared.entries.Entry.TheVariants.{Change}
use Rattle.host_server.proofs.Growing.{grows_past, same_entries}
use Rattle.host_server.proofs.host.houses.SoloHouse.commit_alone.Goals as goal

pub invariant_of-self : goal.invariant_of-self
invariant_of-self c = record {
  over = c.commit.ensures.over;
  reached = reached_by_history c.commit.result c.self.inside.history c.commit.new.self c.self.inside.uploads c.self.inside.readiness.places (Change c.args.command)
      c.self.invariant.reached c.commit.ensures.entries (same_entries c.commit.result c.self.inside.history c.commit.new.self c.commit.ensures.err);
}

pub returns-clause-refused : goal.returns-clause-refused
returns-clause-refused c =
    let P : Host → Type 0 = λ h. IsRefusedBy (commit_refusal h c.args.command) c.commit.result in
    subst P c.self.view_is (refused_as_kept c.commit.result c.self.inside.history c.self.inside.uploads c.args.command c.self.invariant.over c.commit.ensures.refused)

pub returns-clause-grows : goal.returns-clause-grows
returns-clause-grows c =
    let P : Host → Type 0 = λ h. Grows h (host_of c.commit.new.self c.self.inside.uploads) in
    subst P c.self.view_is (grows_past c.commit.result c.self.inside.history c.commit.new.self c.self.inside.uploads (Change c.args.command)
    c.commit.ensures.limit c.commit.ensures.entries (same_entries c.commit.result c.self.inside.history c.commit.new.self c.commit.ensures.err))
