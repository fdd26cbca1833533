use Rattle.std.proofs.Common.{Err, inl, subst, sym, ap}
use Rattle.http_wire.specs.declared.halts.Halt.{Halt}
use Rattle.http_wire.specs.declared.sinks.WriteFailed.{WriteFailed}
use Rattle.http_wire.specs.Gathering.{SendsOn}
use Rattle.host_connection.specs.declared.phases.Phase.{Phase}
use Rattle.host_connection.specs.declared.steps.Wants.TheVariants as wants
use Rattle.host_connection.specs.Carrying.{text_of, Awaits, Carried, IsHeld, MayWait}
use Rattle.host_connection.proofs.Carried.{at_connection, at_reply, reply_failed, reply_followed, waits_in_reply}
use Rattle.host_connection.proofs.steps.Connection.send.Goals as goal

pub returns-in-Ok-clause-leads : goal.returns-in-Ok-clause-leads
returns-in-Ok-clause-leads g c = λ start first so. (
    let a = c.args.self.now in
    let s = c.in-Reply.sending in
    reply_followed g.S.Service.answers g.D.Duplex.saw (MayWait g.D.Duplex.waits) start c.args.duplex.now c.go_on.new.duplex first c.args._service.now a.number a.wire a.out
    c.go_on.new.out s c.follow.new.self (at_reply g.S.Service.answers g.D.Duplex.saw (MayWait g.D.Duplex.waits) start c.args.duplex.now first c.args._service.now a s c.in-Reply.is so) c.in-Ok.ensures.ran
    c.follow.ensures.wire c.follow.ensures.follows
    )

pub returns-in-Err-Failed-clause-leads : goal.returns-in-Err-Failed-clause-leads
returns-in-Err-Failed-clause-leads g c = λ start first so. (
    let a = c.args.self.now in
    let s = c.in-Reply.sending in
    let P : Halt WriteFailed → Type 0 = λ why. SendsOn g.D.Duplex.saw c.args.duplex.now c.go_on.new.duplex (Err why) (text_of s) a.out c.go_on.new.out in
    at_connection g.S.Service.answers g.D.Duplex.saw (MayWait g.D.Duplex.waits) start c.go_on.new.duplex first c.args._service.now c.enter.new.self _ c.enter.ensures
    (reply_failed g.S.Service.answers g.D.Duplex.saw (MayWait g.D.Duplex.waits) start c.args.duplex.now c.go_on.new.duplex first c.args._service.now a.number a.wire a.out c.go_on.new.out s _
    (at_reply g.S.Service.answers g.D.Duplex.saw (MayWait g.D.Duplex.waits) start c.args.duplex.now first c.args._service.now a s c.in-Reply.is so) (subst P c.in-Err-Failed.field-0-is c.in-Err-Failed.ensures.ran))
    )

pub returns-in-Err-WouldWait-clause-leads : goal.returns-in-Err-WouldWait-clause-leads
returns-in-Err-WouldWait-clause-leads g c = λ start first so. (
    let a = c.args.self.now in
    let s = c.in-Reply.sending in
    let P : Halt WriteFailed → Type 0 = λ why. SendsOn g.D.Duplex.saw c.args.duplex.now c.go_on.new.duplex (Err why) (text_of s) a.out c.go_on.new.out in
    let waiting = c.in-Err-WouldWait.ensures.waits (ap Err c.in-Err-WouldWait.field-0-is) in
    let left = waits_in_reply g.S.Service.answers g.D.Duplex.saw (MayWait g.D.Duplex.waits) start c.args.duplex.now c.go_on.new.duplex first c.args._service.now a.number a.wire a.out c.go_on.new.out s
    (at_reply g.S.Service.answers g.D.Duplex.saw (MayWait g.D.Duplex.waits) start c.args.duplex.now first c.args._service.now a s c.in-Reply.is so)
    (subst P c.in-Err-WouldWait.field-0-is c.in-Err-WouldWait.ensures.ran) (c.go_on.new.duplex, waiting) in
    let C : Phase → Type 0 = λ p. Carried g.S.Service.answers g.D.Duplex.saw (MayWait g.D.Duplex.waits) start first c.go_on.new.duplex c.args._service.now a.wire c.go_on.new.out a.number p in
    let H : Phase → Type 0 = λ p. IsHeld (g.D.Duplex.waits c.go_on.new.duplex) c.go_on.new.out p in
    let A : Phase → Type 0 = λ p. Awaits wants.Write a.wire c.go_on.new.out p in
    (subst C (sym c.in-Reply.is) left, subst H (sym c.in-Reply.is) (inl waiting), subst A (sym c.in-Reply.is) left.2)
    )
