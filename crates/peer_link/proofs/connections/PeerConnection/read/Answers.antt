use Rattle.std.proofs.Common.{◌≡◌, Err, List, ℕ, Ok, ap, subst, sym}
use Rattle.std.specs.Io.KnownBytes.{prepend_known}
use Rattle.std.proofs.KnownBytes.{Keeps-refl}
use Rattle.http_wire.specs.declared.faults.HeadFault.TheVariants as head_fault
use Rattle.http_wire.specs.declared.halts.Halt.TheVariants.{Failed}
use Rattle.http_wire.specs.Requests.{RequestParts}
use Rattle.http_wire.specs.Wires.{ServesHead}
use Rattle.peer_link.specs.declared.connections.PeerWants.TheVariants as wants
use Rattle.peer_link.specs.declared.phases.PeerPhase.{PeerPhase}
use Rattle.peer_link.specs.Answers.{HasServed, Known, known}
use Rattle.peer_link.specs.Carrying.{Awaits, Carried}
use Rattle.peer_link.proofs.Leading.{head_leads}
use Rattle.peer_link.proofs.Served.{served_before}
use Rattle.peer_link.proofs.connections.PeerConnection.read.Goals as goal

pub returns-in-Ok : goal.returns-in-Ok
returns-in-Ok g c = record {
  leads = λ first so. (
      let d = g.D.Duplex in
      let a = c.args.self.now in
      let new = c.try_read_head.new.duplex in
      let old : Known = known a.wire (d.left c.args.duplex.now) (d.held c.args.duplex.now) in
      let mid : Known = record { left = old.left; held = d.held new } in
      let C : PeerPhase → Type 0 = λ p. Carried d.read_fails d.write_fails first old a.out p in
      let served : HasServed first mid = served_before first old mid (subst C c.requires so) (Keeps-refl old.left) c.in-Ok.ensures.kept in
      let S : List ℕ → Type 0 = λ wire. ServesHead old.left (prepend_known wire (d.left new)) c.in-Ok.head in
      let request : ServesHead old.left (prepend_known c.follow_head.new.self.wire (d.left new)) c.in-Ok.head = subst S (sym c.follow_head.ensures.wire) c.in-Ok.ensures.head in
      let Q : RequestParts → Type 0 = λ parts. ServesHead old.left (prepend_known c.follow_head.new.self.wire (d.left new)) parts in
      head_leads d.read_fails d.write_fails (d.waits new) first old.left (d.left new) (d.held new) (Ok c.in-Ok.head) c.follow_head.new.self c.follow_head.result served
      (λ parts e. (let is : c.in-Ok.head ≡ parts = cc e in subst Q is request)) (λ e. cc e) c.follow_head.ensures.follows
      );
}

pub returns-in-Err-Failed : goal.returns-in-Err-Failed
returns-in-Err-Failed g c = record {
  leads = λ first so. (
      let d = g.D.Duplex in
      let a = c.args.self.now in
      let new = c.try_read_head.new.duplex in
      let old : Known = known a.wire (d.left c.args.duplex.now) (d.held c.args.duplex.now) in
      let mid : Known = record { left = old.left; held = d.held new } in
      let C : PeerPhase → Type 0 = λ p. Carried d.read_fails d.write_fails first old a.out p in
      let served : HasServed first mid = served_before first old mid (subst C c.requires so) (Keeps-refl old.left) c.in-Err-Failed.ensures.kept in
      head_leads d.read_fails d.write_fails (d.waits new) first old.left (d.left new) (d.held new) (Err c.in-Err-Failed.fault) c.follow_head-in-Err-Failed.new.self
      c.follow_head-in-Err-Failed.result served (λ parts e. cc e)
      (λ e. (
      let is : Err c.in-Err-Failed.field-0 ≡ Err (Failed head_fault.ReadFault) = cc (e, c.in-Err-Failed.field-0-is) in
      c.in-Err-Failed.ensures.failed is
      ))
      c.follow_head-in-Err-Failed.ensures.follows
      );
}

pub returns-in-Err-WouldWait : goal.returns-in-Err-WouldWait
returns-in-Err-WouldWait g c = record {
  leads = λ first so. (
      let d = g.D.Duplex in
      let a = c.args.self.now in
      let new = c.try_read_head.new.duplex in
      let wire = c.try_read_head.new.wire in
      let old : Known = known a.wire (d.left c.args.duplex.now) (d.held c.args.duplex.now) in
      let mid : Known = known wire (d.left new) (d.held new) in
      let C : PeerPhase → Type 0 = λ p. Carried d.read_fails d.write_fails first old a.out p in
      let N : PeerPhase → Type 0 = λ p. Carried d.read_fails d.write_fails first mid a.out p in
      let A : PeerPhase → Type 0 = λ p. Awaits wants.Read wire p in
      let waits = ap Err c.in-Err-WouldWait.field-0-is in
      let served : HasServed first mid =
      served_before first old mid (subst C c.requires so) (c.in-Err-WouldWait.ensures.came waits) c.in-Err-WouldWait.ensures.kept in (
        subst N (sym c.requires) served,
        c.in-Err-WouldWait.ensures.waits waits,
        subst A (sym c.requires) (c.in-Err-WouldWait.ensures.short waits),
      )
      );
}
