use Rattle.std.proofs.Common.{◌≡◌, List, ℕ, Ok, inl, inr, refl, sym, ap, subst, ◌∙◌}
use Rattle.range_spec.specs.declared.selection.Choice.TheVariants.{Whole}
use Rattle.range_reply.specs.Sending.{IsNotRead}
use Rattle.host_replies.specs.Replies.{refused_answer}
use Rattle.host_replies.specs.Versions.{file_of}
use Rattle.host_answers.proofs.Reading.{file_sent, whole_asked}
use Rattle.host_answers.proofs.reads.read.Goals as goal

pub returns-in_default-try_clone : goal.returns-in_default-try_clone
returns-in_default-try_clone g c =
    let house = c.args.house.now in
    let parts = c.args.head.now in
    file_sent g.H.Holder.gave g.H.Holder.failed house house parts c.args.path.now c.in-Ok.file.now
    (file_of (g.H.House.calls.seen house).state c.args.site.now c.args.version.now c.args.path.now) Whole _
    (subst (λ s. file_of s c.args.site.now c.args.version.now c.args.path.now ≡ Ok c.in-Ok.file.now) c.state.ensures c.in-Ok.ensures.found)
    (sym c.is_head_only.ensures ∙ c.if-is_head_only.false)
    (whole_asked parts c.in-Ok.file.now c.in_default.ensures.asks)
    (inr (inr (c.out_of_memory.ensures, refl)))

pub returns-in-Err-read_whole : goal.returns-in-Err-read_whole
returns-in-Err-read_whole g c =
    let house = c.args.house.now in
    let next = c.read_whole.new.holder in
    let parts = c.args.head.now in
    let why = c.in-Err-read_whole.why in
    file_sent g.H.Holder.gave g.H.Holder.failed house next parts c.args.path.now c.in-Ok.file.now
    (file_of (g.H.House.calls.seen house).state c.args.site.now c.args.version.now c.args.path.now) Whole _
    (subst (λ s. file_of s c.args.site.now c.args.version.now c.args.path.now ≡ Ok c.in-Ok.file.now) c.state.ensures c.in-Ok.ensures.found)
    (sym c.is_head_only.ensures ∙ c.if-is_head_only.false)
    (whole_asked parts c.in-Ok.file.now c.in_default.ensures.asks)
    (inr (inl (
      why,
      subst (λ (f : List ℕ). IsNotRead g.H.Holder.gave g.H.Holder.failed house f Whole why next) (c.in-Ok-try_clone.ensures ∙ c.info-2.ensures) c.in-Err-read_whole.ensures.fault,
      c.plain-in-Err-read_whole.ensures ∙ ap refused_answer c.refusal_of_read.ensures,
    )))
