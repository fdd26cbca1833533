use Rattle.std.proofs.Common.{◌≡◌, ◌∙◌, ℕ, List, length, slice_get, sym, ap}
use Rattle.std.specs.List.{concat}
use Rattle.range_spec.specs.declared.selection.Choice.TheVariants.{Many}
use Rattle.range_reply.specs.Bodies.{text_in}
use Rattle.range_reply.specs.Holding.{held_in}
use Rattle.range_reply.specs.Multipart.{text_of}
use Rattle.range_reply.specs.PartTexts.{length_of, several_texts}
use Rattle.range_reply.specs.Sending.{plan_sent}
use Rattle.range_reply.proofs.Lending.{not_several, several_shown, stretch_shown}
use Rattle.range_reply.proofs.file_bodies.FileBody.parts.Goals as goal

pub of_several-requires-clause-long : goal.of_several-requires-clause-long
of_several-requires-clause-long c =
    let inside = c.self.inside in
    let between = c.in-Several.boundary in
    let content_type = inside.content_type.text.now in
    let plan = ap (λ v. v.plan) c.self.view_is ∙ c.in-Several.ensures.0.1 in
    let boundary = ap (λ v. v.boundary) c.self.view_is ∙ c.in-Several.ensures.1 in
    c.self.invariant.long
    ∙ ap length (sym (several_shown (plan_sent inside.sends (held_in inside.holds)) inside.boundary c.in-Several.ensures.0.0 between content_type inside.size c.self.invariant.file (held_in inside.holds) plan boundary c.self.invariant.sized c.self.invariant.are c.self.invariant.lawful))
    ∙ ap (λ hs. length_of (several_texts (text_of between) content_type hs)) (sym c.as_slice-holds.ensures)

pub returns-in-Several : goal.returns-in-Several
returns-in-Several c =
    let inside = c.self.inside in
    let between = c.in-Several.boundary in
    let content_type = inside.content_type.text.now in
    let plan = ap (λ v. v.plan) c.self.view_is ∙ c.in-Several.ensures.0.1 in
    let boundary = ap (λ v. v.boundary) c.self.view_is ∙ c.in-Several.ensures.1 in
    ap concat c.of_several.ensures ∙ ap (λ hs. concat (several_texts (text_of between) content_type hs)) c.as_slice-holds.ensures
    ∙ several_shown (plan_sent inside.sends (held_in inside.holds)) inside.boundary c.in-Several.ensures.0.0 between content_type inside.size c.self.invariant.file (held_in inside.holds) plan boundary c.self.invariant.sized c.self.invariant.are c.self.invariant.lawful
    ∙ ap (λ v. v.bytes) c.self.view_is

pub of_stretch-requires : goal.of_stretch-requires
of_stretch-requires c =
    let inside = c.self.inside in
    let first = c.first.ensures.value ∙ ap (λ hs. slice_get hs 0) c.as_slice-holds.ensures in
    let alone : (intervals : List (ℕ × ℕ)) → (plan_sent inside.sends (held_in inside.holds)) ≡ Many intervals → ⊥ = λ intervals is. not_several c.form.result c.args.self.now.plan c.args.self.now.boundary c.form.ensures c.in_default.not-Several intervals (ap (λ v. v.plan) (sym c.self.view_is) ∙ is) in
    c.self.invariant.long
    ∙ ap length (sym (stretch_shown _ (text_in inside.boundary) inside.content_type.text.now inside.size (held_in inside.holds) c.self.invariant.file (plan_sent inside.sends (held_in inside.holds)) c.self.invariant.are c.self.invariant.lawful first alone))

pub returns-in_default : goal.returns-in_default
returns-in_default c =
    let inside = c.self.inside in
    let first = c.first.ensures.value ∙ ap (λ hs. slice_get hs 0) c.as_slice-holds.ensures in
    let alone : (intervals : List (ℕ × ℕ)) → (plan_sent inside.sends (held_in inside.holds)) ≡ Many intervals → ⊥ = λ intervals is. not_several c.form.result c.args.self.now.plan c.args.self.now.boundary c.form.ensures c.in_default.not-Several intervals (ap (λ v. v.plan) (sym c.self.view_is) ∙ is) in
    ap concat c.of_stretch.ensures
    ∙ stretch_shown _ (text_in inside.boundary) inside.content_type.text.now inside.size (held_in inside.holds) c.self.invariant.file (plan_sent inside.sends (held_in inside.holds)) c.self.invariant.are c.self.invariant.lawful first alone
    ∙ ap (λ v. v.bytes) c.self.view_is
