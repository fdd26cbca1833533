use Rattle.std.proofs.Common.{rules, ◌≡◌, ◌++◌, ◌-◌, ◌∙◌, List, ℕ, [], Result, Ok, Err, append-nil, ap, drop, length, subst, sym}
use Rattle.http_wire.specs.declared.halts.Halt.{Halt}
use Rattle.http_wire.specs.declared.sinks.WriteFailed.{WriteFailed}
use Rattle.byte_slices.specs.Slices.{joined}
use Rattle.byte_slices.proofs.Joined.{nothing_in}
use Rattle.http_wire.specs.Gathering.{Puts, WritesOn}
use Rattle.http_wire.specs.Timing.{NoRead, Ran}
use Rattle.http_wire.proofs.PiecesTaken.{put_lent}
use Rattle.http_wire.proofs.Writes.{puts_cut_at_flush}
use Rattle.http_wire.proofs.sends.Outgoing.put_four.Goals as goal

pub returns-then-is_empty-clause-ran : goal.returns-then-is_empty-clause-ran
returns-then-is_empty-clause-ran g c =
    let zero : length c.args.fourth.now ≡ 0 = search rules in
    let none = nothing_in c.args.fourth.now zero in
    subst (λ (t : List ℕ). Ran g.D.Duplex.saw NoRead c.args.duplex.now c.put_three.new.duplex
    (Puts c.put_three.result (c.args.first.now ++ (c.args.second.now ++ t)) c.args.self.now c.put_three.new.self))
    (sym (append-nil c.args.third.now) ∙ ap (λ t. c.args.third.now ++ t) (sym none)) c.put_three.ensures.ran

pub returns-in_err-write-clause-ran : goal.returns-in_err-write-clause-ran
returns-in_err-write-clause-ran g c =
    let saw = g.D.Duplex.saw in
    let why = c.in_err-write.field-0.0 in
    let text = c.args.first.now ++ (c.args.second.now ++ (c.args.third.now ++ c.args.fourth.now)) in
    let is : c.from_residual.result ≡ Err why = search rules in
    subst (λ r. Ran saw NoRead c.args.duplex.now c.write.new.duplex (Puts r text c.args.self.now c.write.new.self)) (sym is)
    (puts_cut_at_flush saw c.args.duplex.now c.write.new.duplex why text c.args.self.now c.write.new.self c.in_err-write.ensures.ran)

pub returns-clause-ran : goal.returns-clause-ran
returns-clause-ran g c =
    let saw = g.D.Duplex.saw in
    let one = c.behind-first.ensures in
    let two = c.behind-second.ensures in
    let three = c.behind-third.ensures in
    let four = c.behind-fourth.ensures in
    let flushed = c.write.new.self in
    let none : flushed.rest ≡ [] = c.in_ok-write.ensures.empty in
    put_lent saw c.args.duplex.now c.write.new.duplex c.send_slices.new.duplex c.send_slices.result c.args.first.now c.args.second.now c.args.third.now c.args.fourth.now
    c.behind-first.result.now c.behind-second.result.now c.behind-third.result.now c.behind-fourth.result.now (joined c.send_slices.new.slices)
    c.args.self.now flushed c.behind-first.new.self c.behind-second.new.self c.behind-third.new.self c.behind-fourth.new.self _
    c.in_ok-write.ensures.ran none c.in_ok-write.ensures.passed one.left two.left three.left four.left one.passed two.passed three.passed four.passed
    (four.sent ∙ three.sent ∙ two.sent ∙ one.sent) (ap (λ v. v.passed) c.self.view_is)
    (ap (λ v. v.rest) c.self.view_is ∙ four.rest ∙ three.rest ∙ two.rest ∙ one.rest ∙ none)
    (subst (λ n. Ran saw NoRead c.write.new.duplex c.send_slices.new.duplex (WritesOn c.send_slices.result [] n c.send_slices.new.sent (c.behind-first.result.now ++ (c.behind-second.result.now ++ (c.behind-third.result.now ++ c.behind-fourth.result.now))) (joined c.send_slices.new.slices)))
    (ap (λ v. v.sent) c.self.view_is) c.send_slices.ensures.ran)
    c.send_slices.ensures.all
