use Rattle.std.proofs.Common.{◌≡◌, ◌++◌, ◌∙◌, ℕ, arith, Err, Global, ap, length, refl, rules, subst, sym, vec_len}
use Rattle.std.specs.declared.vec.Vec.{Vec}
use Rattle.http_wire.specs.declared.faults.BodyFault.{BodyFault}
use Rattle.http_wire.specs.declared.halts.Halt.{Halt}
use Rattle.http_wire.specs.Halting.{TriesBody}
use Rattle.http_wire.specs.Timing.{Ran}
use Rattle.http_wire.specs.Wires.{AwaitsBody}
use Rattle.host_connection.specs.declared.steps.Connection.{Connection}
use Rattle.host_connection.specs.declared.phases.Phase.TheVariants as phase
use Rattle.host_connection.specs.declared.steps.Progress.TheVariants as progress
use Rattle.host_connection.specs.declared.steps.Wants.TheVariants as wants
use Rattle.host_connection.specs.declared.stops.Stop.{Stop}
use Rattle.host_connection.specs.Advancing.{Advances}
use Rattle.host_connection.specs.Carrying.{Awaits, FollowsStop, IsAsked, IsHeld, MayWait}
use Rattle.host_connection.specs.Serving.{is_last_at}
use Rattle.host_connection.specs.Stopping.{stop_of_body}
use Rattle.host_connection.proofs.Advancing.{answer_advances, at_new, inside, stop_advances}
use Rattle.host_connection.proofs.Carried.{answered, at_connection, at_fields, kept, no_body, waits_in_body}
use Rattle.host_connection.proofs.InPhases.{body_size}
use Rattle.host_connection.proofs.steps.Connection.read_body.Goals as goal

pub returns-then-answer-clause-leads : goal.returns-then-answer-clause-leads
returns-then-answer-clause-leads g c = λ start first so. (
    let b = c.args.part in
    let n = c.args.self.now.number in
    let body = c.try_read_body.new.body in
    let same : vec_len body ≡ length body.items = search rules in
    let k = c.answer.new.self in
    at_fields g.S.Service.answers g.D.Duplex.saw (MayWait g.D.Duplex.waits) start c.try_read_body.new.duplex first c.answer.new.service k c.try_read_body.new.self n c.answer.ensures.wire c.answer.ensures.number
    (answered {A = Global} g.S.Service.answers g.D.Duplex.saw (MayWait g.D.Duplex.waits) start c.args.duplex.now c.try_read_body.new.duplex first c.args.service.now c.answer.new.service n c.args.self.now.wire
    c.try_read_body.new.self c.args.self.now.out k.out b body (record { head = b.head; body = body; is_last = is_last_at n }) k.phase so same c.in-Ok.ensures.ran refl refl refl
    (c.answer.ensures.answering c.if-answer.true) (c.answer.ensures.out c.if-answer.true))
    )

pub returns-else-answer-clause-leads : goal.returns-else-answer-clause-leads
returns-else-answer-clause-leads g c = λ start first so. (
    let b = c.args.part in
    let n = c.args.self.now.number in
    let body = c.try_read_body.new.body in
    let k = c.answer.new.self in
    let p = c.into_part.result in
    let into = c.into_part.ensures in (
      at_connection g.S.Service.answers g.D.Duplex.saw (MayWait g.D.Duplex.waits) start c.try_read_body.new.duplex first c.answer.new.service c.stay.new.self _ c.stay.ensures
          (at_fields g.S.Service.answers g.D.Duplex.saw (MayWait g.D.Duplex.waits) start c.try_read_body.new.duplex first c.answer.new.service
          (record { wire = k.wire; out = k.out; number = k.number; phase = phase.Body p }) c.try_read_body.new.self n c.answer.ensures.wire c.answer.ensures.number
          (kept {A = Global} g.S.Service.answers g.D.Duplex.saw start c.args.duplex.now c.try_read_body.new.duplex first c.args.service.now c.answer.new.service n c.args.self.now.wire c.try_read_body.new.self b.head
          b.size b.body.items body p so c.in-Ok.ensures.ran into.head into.size (ap (λ (v : Vec ℕ Global). v.items) into.body) (c.answer.ensures.later c.if-answer.false).1)),
      subst (λ (x : Connection). IsAsked x.phase) (sym c.stay.ensures) (ap vec_len into.body ∙ sym into.size),
    )
    )

pub returns-in-Err-Failed-clause-leads : goal.returns-in-Err-Failed-clause-leads
returns-in-Err-Failed-clause-leads g c = λ start first so. (
    let b = c.args.part in
    let body = c.try_read_body.new.body in
    let rest = c.try_read_body.new.self in
    let P : Halt BodyFault → Type 0 = λ why. Ran g.D.Duplex.saw (AwaitsBody (b.body.items ++ c.args.self.now.wire) b.size) c.args.duplex.now c.try_read_body.new.duplex
    (TriesBody {A = Global} (Err why) b.size (b.body.items ++ c.args.self.now.wire) body rest) in
    let why : c.of_body-why.result ≡ stop_of_body c.is_head_only.result c.in-Err-Failed.fault = search rules in
    at_connection g.S.Service.answers g.D.Duplex.saw (MayWait g.D.Duplex.waits) start c.try_read_body.new.duplex first c.args.service.now c.enter.new.self _ c.enter.ensures
    (no_body {A = Global} g.S.Service.answers g.D.Duplex.saw (MayWait g.D.Duplex.waits) start c.args.duplex.now c.try_read_body.new.duplex first c.args.service.now c.args.self.now.number c.args.self.now.wire rest
    c.args.self.now.out _ b body c.in-Err-Failed.fault c.is_head_only.result c.after_stop.result so c.is_head_only.ensures (subst P c.in-Err-Failed.field-0-is c.in-Err-Failed.ensures.ran)
    (subst (λ (why : Stop). FollowsStop why c.after_stop.result) why c.after_stop.ensures) refl)
    )

pub returns-in-Err-WouldWait-clause-leads : goal.returns-in-Err-WouldWait-clause-leads
returns-in-Err-WouldWait-clause-leads g c = λ start first so. (
    let b = c.args.part in
    let body = c.try_read_body.new.body in
    let rest = c.try_read_body.new.self in
    let P : Halt BodyFault → Type 0 = λ why. Ran g.D.Duplex.saw (AwaitsBody (b.body.items ++ c.args.self.now.wire) b.size) c.args.duplex.now c.try_read_body.new.duplex
    (TriesBody {A = Global} (Err why) b.size (b.body.items ++ c.args.self.now.wire) body rest) in (
      at_connection g.S.Service.answers g.D.Duplex.saw (MayWait g.D.Duplex.waits) start c.try_read_body.new.duplex first c.args.service.now c.stay-in-Err-WouldWait.new.self _ c.stay-in-Err-WouldWait.ensures
          (waits_in_body {A = Global} g.S.Service.answers g.D.Duplex.saw start c.args.duplex.now c.try_read_body.new.duplex first c.args.service.now c.args.self.now.number c.args.self.now.wire rest b.head b.size
          b.body.items body so (subst P c.in-Err-WouldWait.field-0-is c.in-Err-WouldWait.ensures.ran)),
      subst (λ (k : Connection). IsHeld (g.D.Duplex.waits c.try_read_body.new.duplex) k.out k.phase) (sym c.stay-in-Err-WouldWait.ensures) (c.in-Err-WouldWait.ensures.waits (ap Err c.in-Err-WouldWait.field-0-is)),
      subst (λ (k : Connection). Awaits wants.Read k.wire k.out k.phase) (sym c.stay-in-Err-WouldWait.ensures) (c.in-Err-WouldWait.ensures.short (ap Err c.in-Err-WouldWait.field-0-is)),
    )
    )

pub returns-then-answer-clause-advances : goal.returns-then-answer-clause-advances
returns-then-answer-clause-advances g c =
    let b = c.args.part in
    let n = c.args.self.now.number in
    let k = c.answer.new.self in
    subst (λ (m : ℕ). Advances progress.More n (phase.Body b) m k.phase) (sym c.answer.ensures.number)
    (answer_advances g.S.Service.answers c.args.service.now c.answer.new.service (record { head = b.head; body = c.try_read_body.new.body; is_last = is_last_at n }) n (phase.Body b) k.phase (omega arith)
    (c.answer.ensures.answering c.if-answer.true))

pub returns-else-answer-clause-advances : goal.returns-else-answer-clause-advances
returns-else-answer-clause-advances g c =
    let b = c.args.part in
    let n = c.args.self.now.number in
    let p = c.into_part.result in
    let same : p.size ≡ b.size = c.into_part.ensures.size
    ∙ body_size {A = Global} g.D.Duplex.saw c.args.duplex.now c.try_read_body.new.duplex b.size c.try_read_body.new.body (b.body.items ++ c.args.self.now.wire) c.try_read_body.new.self c.in-Ok.ensures.ran in
    at_new progress.Postponed n (phase.Body b) c.stay.new.self _ c.stay.ensures
    (subst (λ (m : ℕ). Advances progress.Postponed n (phase.Body b) m (phase.Body p)) (sym c.answer.ensures.number)
    (inside progress.Postponed n (phase.Body b) (phase.Body p) tt tt same refl (omega arith)))

pub returns-in-Err-Failed-clause-advances : goal.returns-in-Err-Failed-clause-advances
returns-in-Err-Failed-clause-advances g c =
    at_new progress.More c.args.self.now.number (phase.Body c.args.part) c.enter.new.self _ c.enter.ensures
    (stop_advances c.args.self.now.number (phase.Body c.args.part) c.after_stop.result _ (omega arith) c.after_stop.ensures)

pub returns-in-Err-WouldWait-clause-advances : goal.returns-in-Err-WouldWait-clause-advances
returns-in-Err-WouldWait-clause-advances g c =
    at_new (progress.Waits wants.Read) c.args.self.now.number (phase.Body c.args.part) c.stay-in-Err-WouldWait.new.self _ c.stay-in-Err-WouldWait.ensures
    (inside (progress.Waits wants.Read) c.args.self.now.number (phase.Body c.args.part) _ tt tt refl refl (omega arith))
