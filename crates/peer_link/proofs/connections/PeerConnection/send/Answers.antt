use Rattle.std.proofs.Common.{Err, List, ℕ, Ok, ap, inl, subst, sym}
use Rattle.std.specs.Io.KnownBytes.{prepend_known}
use Rattle.http_wire.specs.declared.halts.Halt.{Halt}
use Rattle.http_wire.specs.declared.halts.Halt.TheVariants.{WouldWait}
use Rattle.http_wire.specs.declared.sinks.WriteFailed.{WriteFailed}
use Rattle.http_wire.specs.Gathering.{SendsOn}
use Rattle.peer_link.specs.declared.connections.PeerWants.TheVariants as wants
use Rattle.peer_link.specs.declared.faults.ServeFault.TheVariants as fault
use Rattle.peer_link.specs.declared.phases.PeerPhase.{PeerPhase}
use Rattle.peer_link.specs.Answers.{HasServed, known}
use Rattle.peer_link.specs.Carrying.{Awaits, Carried, IsAmidAnswer, chunk_of, text_of}
use Rattle.peer_link.proofs.Carried.{failed_on, sent_on}
use Rattle.peer_link.proofs.Leading.{answer_leads, end_leads}
use Rattle.peer_link.proofs.connections.PeerConnection.send.Goals as goal

pub returns-in-Ok : goal.returns-in-Ok
returns-in-Ok g c = record {
  leads = λ first so. (
      let d = g.D.Duplex in
      let a = c.args.self.now in
      let new = c.go_on.new.duplex in
      let s = c.in-Answer.answer in
      let C : PeerPhase → Type 0 = λ p. Carried d.read_fails d.write_fails first (known a.wire (d.left c.args.duplex.now) (d.held c.args.duplex.now)) a.out p in
      let done : HasServed first (known a.wire (d.left new) (d.held new)) =
      sent_on d.saw d.left d.held d.read_fails d.write_fails g.met.D.Duplex.told a.wire c.args.duplex.now new (Ok tt) first (chunk_of s) a.out c.go_on.new.out
      (subst C c.in-Answer.is so) c.in-Ok.ensures.ran in
      let H : List ℕ → Type 0 = λ wire. HasServed first (known wire (d.left new) (d.held new)) in
      answer_leads d.read_fails d.write_fails (d.waits new) first (d.left new) (d.held new) s.close a.number c.follow_answer.new.self c.follow_answer.result
      (subst H (sym c.follow_answer.ensures.wire) done) c.follow_answer.ensures.follows
      );
}

pub returns-in-Err-Failed : goal.returns-in-Err-Failed
returns-in-Err-Failed g c = record {
  leads = λ first so. (
      let d = g.D.Duplex in
      let a = c.args.self.now in
      let new = c.go_on.new.duplex in
      let s = c.in-Answer.answer in
      let C : PeerPhase → Type 0 = λ p. Carried d.read_fails d.write_fails first (known a.wire (d.left c.args.duplex.now) (d.held c.args.duplex.now)) a.out p in
      let P : Halt WriteFailed → Type 0 = λ why. SendsOn d.saw c.args.duplex.now new (Err why) (text_of s) a.out c.go_on.new.out in
      let cut = failed_on d.saw d.left d.held d.read_fails d.write_fails g.met.D.Duplex.told a.wire c.args.duplex.now new _ first (chunk_of s) a.out c.go_on.new.out
      (subst C c.in-Answer.is so) (subst P c.in-Err-Failed.field-0-is c.in-Err-Failed.ensures.ran) in
      end_leads d.read_fails d.write_fails (d.waits new) first (d.left new) (d.held new) (Err fault.WriteFault) c.end.new.self c.end.result c.end.ensures.ended
      c.end.ensures.phase (cut.0, (prepend_known a.wire (d.left new), cut.1))
      );
}

pub returns-in-Err-WouldWait : goal.returns-in-Err-WouldWait
returns-in-Err-WouldWait g c = record {
  leads = λ first so. (
      let d = g.D.Duplex in
      let a = c.args.self.now in
      let new = c.go_on.new.duplex in
      let s = c.in-Answer.answer in
      let C : PeerPhase → Type 0 = λ p. Carried d.read_fails d.write_fails first (known a.wire (d.left c.args.duplex.now) (d.held c.args.duplex.now)) a.out p in
      let P : Halt WriteFailed → Type 0 = λ why. SendsOn d.saw c.args.duplex.now new (Err why) (text_of s) a.out c.go_on.new.out in
      let left : IsAmidAnswer first (known a.wire (d.left new) (d.held new)) (chunk_of s) c.go_on.new.out =
      sent_on d.saw d.left d.held d.read_fails d.write_fails g.met.D.Duplex.told a.wire c.args.duplex.now new (Err WouldWait) first (chunk_of s) a.out c.go_on.new.out
      (subst C c.in-Answer.is so) (subst P c.in-Err-WouldWait.field-0-is c.in-Err-WouldWait.ensures.ran) in
      let N : PeerPhase → Type 0 = λ p. Carried d.read_fails d.write_fails first (known a.wire (d.left new) (d.held new)) c.go_on.new.out p in
      let A : PeerPhase → Type 0 = λ p. Awaits wants.Write a.wire p in (
        subst N (sym c.in-Answer.is) left,
        inl (c.in-Err-WouldWait.ensures.waits (ap Err c.in-Err-WouldWait.field-0-is)),
        subst A (sym c.in-Answer.is) tt,
      )
      );
}
