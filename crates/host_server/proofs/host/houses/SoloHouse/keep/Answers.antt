use Rattle.host_server.proofs.Kept.{kept_by_upload}
use Rattle.host_server.proofs.Reached.{reached_by_upload}
use Rattle.std.proofs.Common.{subst}
use Rattle.host_server.specs.Hosts.{Grows, Host, host_of}
use Rattle.host_server.proofs.Growing.{grows_uploads}
use Rattle.host_server.proofs.host.houses.SoloHouse.keep.Goals as goal

pub invariant_of-self : goal.invariant_of-self
invariant_of-self c = record {
  over = kept_by_upload c.keep.result c.self.inside.history c.self.inside.uploads c.keep.new.self c.args.file.value c.self.invariant.over
      c.keep.ensures.ok c.keep.ensures.err;
  reached = reached_by_upload c.keep.result c.self.inside.history.entries c.self.inside.uploads c.keep.new.self c.self.inside.readiness.places c.args.file.value
      c.self.invariant.reached c.keep.ensures.ok c.keep.ensures.err;
}

pub returns-clause-grows : goal.returns-clause-grows
returns-clause-grows c =
    let P : Host → Type 0 = λ h. Grows h (host_of c.self.inside.history c.keep.new.self) in
    subst P c.self.view_is (grows_uploads c.keep.result c.self.inside.history c.self.inside.uploads c.keep.new.self c.args.file.value c.keep.ensures.ok c.keep.ensures.err)
