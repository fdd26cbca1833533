use Rattle.std.proofs.Common.{subst, sym}
use Rattle.http_wire.specs.Gathering.{SendsOn}
use Rattle.host_connection.specs.Wordings.{worded}
use Rattle.host_connection.specs.declared.wordings.Wording.{Wording}
use Rattle.host_connection.proofs.phases.Sending.go_on.Goals as goal

pub returns-in-Made-clause-ran : goal.returns-in-Made-clause-ran
returns-in-Made-clause-ran g c =
    let s = c.args.self.now in
    let P : Wording → Type 0 = λ w. SendsOn g.D.Duplex.saw c.args.duplex.now c.try_send.new.duplex c.try_send.result (worded s.close s.head_only w) c.args.out.now c.try_send.new.out in
    subst P (sym c.in-Made.is) c.try_send.ensures.ran
