use Rattle.std.proofs.Common.{◌≡◌, ◌∙◌, Ok, refl, ap, rules, subst}
use Rattle.httparse.specs.declared.Status.TheVariants.{Partial}
use Rattle.httparse.specs.Spans.{FindsResponse}
use Rattle.http_wire.proofs.AnswerHeads.{IsWhole, found_whole}
use Rattle.http_wire.proofs.answer_heads.find_parts.Goals as goal

pub returns-in_default-clause-fault : goal.returns-in_default-clause-fault
returns-in_default-clause-fault c = (
  refl,
  λ parts tells.
      let text = c.args.text.now in
      let r = c.parse_response.result in
      let found = subst (λ n. FindsResponse text n c.parse_response.new.headers r) c.requires c.parse_response.ensures.found in
      c.if-spans-text.false (subst (IsWhole text) (c.in-Ok-Complete.is ∙ ap Ok c.in-Ok-Complete.field-0-is) (found_whole text parts c.parse_response.new.headers r found tells)),
)

pub returns-in_default-2-clause-fault : goal.returns-in_default-2-clause-fault
returns-in_default-2-clause-fault c = (
  refl,
  λ parts tells.
      let text = c.args.text.now in
      let r = c.parse_response.result in
      let found = subst (λ n. FindsResponse text n c.parse_response.new.headers r) c.requires c.parse_response.ensures.found in
      let partial : c.in_default.field-0 ≡ Partial = search rules in
      subst (IsWhole text) (c.in_default.is ∙ ap Ok partial) (found_whole text parts c.parse_response.new.headers r found tells),
)
