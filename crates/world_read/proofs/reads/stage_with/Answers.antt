use Rattle.std.proofs.Common.{◌≡◌, ◌∙◌, List, ℕ, Option, Some, None, map, sym, subst, ap, rules}
use Rattle.host_names.specs.declared.digests.Digest.{Digest}
use Rattle.range_spec.specs.declared.selection.Choice.{Choice}
use Rattle.range_reply.specs.Sending.{IsNotRead}
use Rattle.world_read.specs.Requests.{plan_of}
use Rattle.world_read.specs.Taking.{Gives, GivesNot, Taking, taking}
use Rattle.world_read.proofs.reads.stage_with.Goals as goal

pub returns-in-Some : goal.returns-in-Some
returns-in-Some c =
    let new : Taking = c.read_body.new.holder in
    let old : Taking = taking (map (λ chunk. chunk.value) c.args.chunks.now) in
    let missed : new.missed ≡ Some c.in-Some.name = ap (λ (t : Taking). t.missed) (sym c.gathered.view_is) ∙ c.in-Some.is in
    let plan : c.plan-plan.result ≡ plan_of c.args.request.now c.args.info.now.value = c.plan-plan.ensures.plan ∙ ap (λ (f : List ℕ). plan_of c.args.request.now f) c.deref.ensures in (
      c.in-Err.field-0,
      new.left,
      search rules,
      subst (λ (m : Option Digest). IsNotRead Gives GivesNot old c.args.info.now.value (plan_of c.args.request.now c.args.info.now.value) c.in-Err.field-0 (record { left = new.left; missed = m })) missed
          (subst (λ (p : Choice). IsNotRead Gives GivesNot old c.args.info.now.value p c.in-Err.field-0 new) plan c.in-Err.ensures.fault),
    )

pub returns-in-None : goal.returns-in-None
returns-in-None c =
    let new : Taking = c.read_body.new.holder in
    let old : Taking = taking (map (λ chunk. chunk.value) c.args.chunks.now) in
    let missed : new.missed ≡ None = ap (λ (t : Taking). t.missed) (sym c.gathered.view_is) ∙ c.in-None.is in
    let plan : c.plan-plan.result ≡ plan_of c.args.request.now c.args.info.now.value = c.plan-plan.ensures.plan ∙ ap (λ (f : List ℕ). plan_of c.args.request.now f) c.deref.ensures in (
      c.in-Err.field-0,
      new.left,
      search rules,
      subst (λ (m : Option Digest). IsNotRead Gives GivesNot old c.args.info.now.value (plan_of c.args.request.now c.args.info.now.value) c.in-Err.field-0 (record { left = new.left; missed = m })) missed
          (subst (λ (p : Choice). IsNotRead Gives GivesNot old c.args.info.now.value p c.in-Err.field-0 new) plan c.in-Err.ensures.fault),
    )
