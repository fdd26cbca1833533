use Rattle.std.proofs.Common.{rules, ◌≡◌, ◌-◌, ◌++◌, ◌∙◌, List, ℕ, [], Result, Ok, Err, ap, drop, length, subst, sym}
use Rattle.http_wire.specs.declared.halts.Halt.{Halt}
use Rattle.http_wire.specs.declared.sinks.WriteFailed.{WriteFailed}
use Rattle.http_wire.specs.Gathering.{WritesOn}
use Rattle.byte_slices.specs.Slices.{joined}
use Rattle.http_wire.specs.Timing.{NoRead, Ran}
use Rattle.http_wire.proofs.SlicesSent.{as_pieces, first_none, from_shown, left_of_shown}
use Rattle.http_wire.proofs.sends.Outgoing.write.Goals as goal

pub returns-in_err-done-clause-ran : goal.returns-in_err-done-clause-ran
returns-in_err-done-clause-ran g c =
    let saw = g.D.Duplex.saw in
    let old = c.args.duplex.now in
    let new = c.send_slices-done.new.duplex in
    let why = c.in_err-done.field-0.0 in
    let items : List ℕ = c.self.inside.pending.items in
    let before = c.args.self.now in
    let left = c.send_slices-done.new.slices in
    let others : List ℕ = left.second.now ++ (left.third.now ++ left.fourth.now) in
    let more : List ℕ = c.args.first.now ++ (c.args.second.now ++ c.args.third.now) in
    let after = c.send_slices-done.new.sent in
    let shown : c.as_slice.result.now ≡ items = search rules in
    let size : c.len.result ≡ length items = search rules in
    let first = c.in_err-done.ensures.first in
    let kept = left_of_shown items c.as_slice.result.now left.first.now c.self.inside.at first.0 c.len.result shown first.1 size in
    let ran = from_shown saw old new (Err why) more c.self.inside.sent before.sent after items c.as_slice.result.now before.rest c.self.inside.at (joined left)
    (ap (λ v. v.sent) c.self.view_is) shown (ap (λ v. v.rest) c.self.view_is) c.in_err-done.ensures.ran in
    let P : Result (Unit {0}) (Halt WriteFailed) → List ℕ → Type 0 = λ r rest. Ran saw NoRead old new (WritesOn r more before.sent after before.rest rest) in
    let is : c.from_residual.result ≡ Err why = search rules in
    subst (λ r. P r (drop (c.len.result - length left.first.now) items)) (sym is)
    (subst (P (Err why)) (sym kept) (as_pieces saw old new (Err why) more before.sent after before.rest left.first.now others tt ran))

pub returns-clause-ran : goal.returns-clause-ran
returns-clause-ran g c =
    let saw = g.D.Duplex.saw in
    let old = c.args.duplex.now in
    let new = c.send_slices-done.new.duplex in
    let items : List ℕ = c.self.inside.pending.items in
    let before = c.args.self.now in
    let left = c.send_slices-done.new.slices in
    let others : List ℕ = left.second.now ++ (left.third.now ++ left.fourth.now) in
    let more : List ℕ = c.args.first.now ++ (c.args.second.now ++ c.args.third.now) in
    let after = c.send_slices-done.new.sent in
    let shown : c.as_slice.result.now ≡ items = search rules in
    let none : joined left ≡ [] = c.in_ok-done.ensures.all in
    let cleared : c.clear.new.self.items ≡ [] = search rules in
    let ran = from_shown saw old new (Ok tt) more c.self.inside.sent before.sent after items c.as_slice.result.now before.rest c.self.inside.at (joined left)
    (ap (λ v. v.sent) c.self.view_is) shown (ap (λ v. v.rest) c.self.view_is) c.in_ok-done.ensures.ran in
    subst (λ rest. Ran saw NoRead old new (WritesOn (Ok tt) more before.sent after before.rest rest)) (first_none left.first.now others none ∙ sym cleared)
    (as_pieces saw old new (Ok tt) more before.sent after before.rest left.first.now others none ran)
