use Rattle.std.proofs.Common.{rules, ◌≡◌, ◌<◌, ◌++◌, ◌∙◌, List, ℕ, [], Some, None, Result, Ok, Err, ap, arith, length, subst, sym}
use Rattle.std.specs.List.{concat}
use Rattle.byte_slices.proofs.Joined.{nothing_in}
use Rattle.byte_view.specs.BodyParts.{text_if}
use Rattle.http_wire.specs.declared.halts.Halt.{Halt}
use Rattle.http_wire.specs.declared.sinks.WriteFailed.{WriteFailed}
use Rattle.http_wire.specs.Gathering.{Puts}
use Rattle.http_wire.specs.Timing.{NoRead, Ran}
use Rattle.http_wire.proofs.PartsPut.{all_parts, few_left, four_left, last_parts, more_parts, no_part, one_left, parts_cut, shown_four}
use Rattle.http_wire.proofs.body_sends.put_parts.Goals as goal

pub parts-init : goal.parts-init
parts-init g c = no_part g.D.Duplex.saw c.args.duplex.now (concat (g.P.BodyParts.texts c.args.parts)) c.args.out.now

pub returns-then-length-eq0-clause-ran : goal.returns-then-length-eq0-clause-ran
returns-then-length-eq0-clause-ran g c =
    let saw = g.D.Duplex.saw in
    let text = g.P.BodyParts.text in
    let texts = g.P.BodyParts.texts in
    let first = text c.in-Some.first in
    let one = ap concat (g.met.P.BodyParts.gives c.parts.parts (Some c.in-Some.first) c.next.new.self c.in-Some.ensures.steps) in
    let none : length (concat (texts c.next.new.self)) ≡ 0 = search rules in
    last_parts saw c.args.duplex.now c.parts.duplex c.put.new.duplex c.put.result _ _ first c.args.out.now c.parts.out c.put.new.self c.parts.invariant
    (one_left _ first (concat (texts c.next.new.self)) one none)
    (subst (λ (t : List ℕ). Ran saw NoRead c.parts.duplex c.put.new.duplex (Puts c.put.result t c.parts.out c.put.new.self)) c.bytes-piece.ensures c.put.ensures.ran)

pub returns-then-not-is_empty-clause-ran : goal.returns-then-not-is_empty-clause-ran
returns-then-not-is_empty-clause-ran g c =
    let saw = g.D.Duplex.saw in
    let text = g.P.BodyParts.text in
    let texts = g.P.BodyParts.texts in
    let first = text c.in-Some.first in
    let one = ap concat (g.met.P.BodyParts.gives c.parts.parts (Some c.in-Some.first) c.next.new.self c.in-Some.ensures.steps) in
    let second = text_if text c.next_if-second_part.result in
    let few : List ℕ = c.rest_if_few-rest.result.items in
    let some : 0 < length few = search rules in
    let is : c.bytes-piece.result.now ++ (c.bytes_if-second.result.now ++ c.as_slice.result.now) ≡ first ++ (second ++ few) =
    ap (λ u. u ++ (c.bytes_if-second.result.now ++ c.as_slice.result.now)) c.bytes-piece.ensures
    ∙ ap (λ u. first ++ (u ++ c.as_slice.result.now)) c.bytes_if-second.ensures ∙ ap (λ u. first ++ (second ++ u)) c.as_slice.ensures.value in
    last_parts saw c.args.duplex.now c.parts.duplex c.put_three.new.duplex c.put_three.result _ _ (first ++ (second ++ few)) c.args.out.now c.parts.out c.put_three.new.self c.parts.invariant
    (few_left _ first second few _ _ _ one c.next_if-second_part.ensures.taken c.rest_if_few-rest.ensures.taken (c.rest_if_few-rest.ensures.all some))
    (subst (λ (t : List ℕ). Ran saw NoRead c.parts.duplex c.put_three.new.duplex (Puts c.put_three.result t c.parts.out c.put_three.new.self)) is c.put_three.ensures.ran)

pub returns-in_err-put_four-clause-ran : goal.returns-in_err-put_four-clause-ran
returns-in_err-put_four-clause-ran g c =
    let saw = g.D.Duplex.saw in
    let text = g.P.BodyParts.text in
    let texts = g.P.BodyParts.texts in
    let first = text c.in-Some.first in
    let second = text_if text c.next_if-second_part.result in
    let third = text_if text c.next_if-third.result in
    let fourth = text_if text c.next_if-fourth.result in
    let one = ap concat (g.met.P.BodyParts.gives c.parts.parts (Some c.in-Some.first) c.next.new.self c.in-Some.ensures.steps) in
    let few : List ℕ = c.rest_if_few-rest.result.items in
    let zero : length few ≡ 0 = search rules in
    let is = shown_four c.bytes-piece.result.now c.bytes_if-second.result.now c.bytes_if.result.now c.bytes_if-in-Some.result.now first second third fourth
    c.bytes-piece.ensures c.bytes_if-second.ensures c.bytes_if.ensures c.bytes_if-in-Some.ensures in
    let left = four_left _ first second few third fourth _ _ _ _ _ one c.next_if-second_part.ensures.taken c.rest_if_few-rest.ensures.taken (nothing_in few zero)
    c.next_if-third.ensures.taken c.next_if-fourth.ensures.taken in
    let why = c.in_err-put_four.field-0.0 in
    let failed : c.from_residual.result ≡ Err why = search rules in
    let ran = subst (λ (t : List ℕ). Ran saw NoRead c.parts.duplex c.put_four.new.duplex (Puts (Err why) t c.parts.out c.put_four.new.self)) is c.in_err-put_four.ensures.ran in
    subst (λ r. Ran saw NoRead c.args.duplex.now c.put_four.new.duplex (Puts r (concat (texts c.args.parts)) c.args.out.now c.put_four.new.self)) (sym failed)
    (parts_cut saw c.args.duplex.now c.parts.duplex c.put_four.new.duplex _ _ (first ++ (second ++ (third ++ fourth))) (concat (texts c.next_if-fourth.new.parts))
    c.args.out.now c.parts.out c.put_four.new.self why c.parts.invariant left ran)

pub parts-preserved : goal.parts-preserved
parts-preserved g c =
    let saw = g.D.Duplex.saw in
    let text = g.P.BodyParts.text in
    let texts = g.P.BodyParts.texts in
    let first = text c.in-Some.first in
    let second = text_if text c.next_if-second_part.result in
    let third = text_if text c.next_if-third.result in
    let fourth = text_if text c.next_if-fourth.result in
    let one = ap concat (g.met.P.BodyParts.gives c.parts.parts (Some c.in-Some.first) c.next.new.self c.in-Some.ensures.steps) in
    let few : List ℕ = c.rest_if_few-rest.result.items in
    let zero : length few ≡ 0 = search rules in
    let is = shown_four c.bytes-piece.result.now c.bytes_if-second.result.now c.bytes_if.result.now c.bytes_if-in-Some.result.now first second third fourth
    c.bytes-piece.ensures c.bytes_if-second.ensures c.bytes_if.ensures c.bytes_if-in-Some.ensures in
    let left = four_left _ first second few third fourth _ _ _ _ _ one c.next_if-second_part.ensures.taken c.rest_if_few-rest.ensures.taken (nothing_in few zero)
    c.next_if-third.ensures.taken c.next_if-fourth.ensures.taken in
    let ran = subst (λ (t : List ℕ). Ran saw NoRead c.parts.duplex c.put_four.new.duplex (Puts (Ok tt) t c.parts.out c.put_four.new.self)) is c.in_ok-put_four.ensures.ran in
    more_parts saw c.args.duplex.now c.parts.duplex c.put_four.new.duplex _ _ (first ++ (second ++ (third ++ fourth))) (concat (texts c.next_if-fourth.new.parts))
    c.args.out.now c.parts.out c.put_four.new.self c.parts.invariant left ran

pub parts-smaller : goal.parts-smaller
parts-smaller g c =
    let texts = g.P.BodyParts.texts in
    let one = g.met.P.BodyParts.gives c.parts.parts (Some c.in-Some.first) c.next.new.self c.in-Some.ensures.steps in
    let smaller : length (texts c.next_if-fourth.new.parts) < length (texts c.parts.parts) =
    omega (arith, ap length one, c.next_if-second_part.ensures.fewer, c.rest_if_few-rest.ensures.fewer, c.next_if-third.ensures.fewer, c.next_if-fourth.ensures.fewer) in
    smaller

pub returns-clause-ran : goal.returns-clause-ran
returns-clause-ran g c =
    let none = g.met.P.BodyParts.gives c.parts.parts None c.next.new.self c.in_default.ensures.steps in
    all_parts g.D.Duplex.saw c.args.duplex.now c.parts.duplex _ _ c.args.out.now c.parts.out (ap concat none.0) c.parts.invariant
