use Rattle.std.proofs.Common.{◌≡◌, ◌+◌, ℕ, ◌∷◌, ◌++◌, inl, drop, length, rules, sym, ◌∙◌, ap, subst}
use Rattle.record_file.specs.Frames.{framed}
use Rattle.record_file.proofs.NotWhole.{unlawful}
use Rattle.record_file.proofs.Steps.{same_fault}
use Rattle.record_file.proofs.walks.hand_on.Goals as goal

pub returns-in_err-take_body-clause-bad : goal.returns-in_err-take_body-clause-bad
returns-in_err-take_body-clause-bad g c modelled size had has =
    let file = g.D.Disk.seen c.args.disk.now in
    let at = c.args.position.gate in
    let gate : drop at file ≡ c.in_ok-gate.gate ∷ drop (at + 1) file = c.in_ok-gate.ensures.gate modelled in
    let opens : c.in_ok-gate.gate ≡ 1 = search rules in
    let same = (c.in_ok-gate.ensures.same modelled).same in
    let body = c.read_record.new.body.items in
    let there : drop (at + 1) file ≡ framed body ++ drop (at + 5 + length body) file =
    subst (λ f. drop (at + 1) f ≡ framed body ++ drop (at + 5 + length body) f) same (c.in_ok-read_record.ensures.body modelled) in
    let read : c.deref.result.now ≡ body = search rules in
    same_fault c.from_residual-in_err-take_body.result c.in_err-take_body.field-0.0 _ c.from_residual-in_err-take_body.ensures.1 (λ i fault. (
      c.in_err-take_body.ensures.number i fault,
      gate ∙ ap (λ (n : ℕ). n ∷ drop (at + 1) file) opens,
      inl (unlawful (g.B.Bodies.is_lawful c.args.header.now had) (drop (at + 1) file) body _ there c.in_ok-read_record.ensures.short (λ lawful. c.in_err-take_body.ensures.bad had has i fault (subst (g.B.Bodies.is_lawful c.args.header.now had) (sym read) lawful))),
    ))
