use Rattle.std.proofs.Common.{◌≡◌, [], inl, refl, rules, arith, subst}
use Rattle.host_connection.specs.declared.phases.Phase.{Phase}
use Rattle.host_connection.specs.declared.phases.Phase.TheVariants as phase
use Rattle.host_connection.specs.declared.steps.Progress.TheVariants as progress
use Rattle.host_connection.specs.Carrying.{Carried, MayWait}
use Rattle.host_connection.proofs.Advancing.{at_both, rests}
use Rattle.host_connection.proofs.steps.Connection.pass.Goals as goal

pub returns-in-Ended : goal.returns-in-Ended
returns-in-Ended g c =
    let a = c.args.self.now in
    let is : a.phase ≡ phase.Ended c.in-Ended.result = search rules in
    record {
      leads = λ start first so. (
        subst (λ (p : Phase). Carried g.S.Service.answers g.D.Duplex.saw (MayWait g.D.Duplex.waits) start first c.args.duplex.now c.args.service.now a.wire a.out a.number p) is so,
        is,
      );
      led = ([], refl);
      advances = at_both (progress.Ended c.in-Ended.result) a.number a.phase (phase.Ended c.in-Ended.result) is (rests (progress.Ended c.in-Ended.result) a.number _ refl (λ left. omega arith) (λ no. no));
      asks = inl (refl, omega arith);
      later = λ is. cc;
      grows = g.met.S.Service.stays c.args.service.now;
    }
