use Rattle.std.proofs.Common.{inl, inr, List, ℕ, ap, subst, ◌∙◌}
use Rattle.range_reply.specs.Sending.{IsRead}
use Rattle.host_replies.specs.Replies.{refused_answer}
use Rattle.host_replies.specs.SentFiles.{sent_answer, sent_as}
use Rattle.host_answers.proofs.Reading.{sends_by}
use Rattle.host_answers.proofs.reads.send.Goals as goal

pub returns : goal.returns
returns g c =
    sends_by g.H.Holder.gave g.H.Holder.failed c.args.holder.now c.read_body.new.holder c.args.path.now c.args.info.now.value c.args.plan.now _ c.requires.some (inl (
      c.in-Ok.body,
      subst (λ (t : List ℕ). IsRead g.H.Holder.gave c.args.holder.now c.args.info.now.value c.args.plan.now t c.in-Ok.body c.read_body.new.holder) c.file_type-content_type.ensures c.in-Ok.ensures.read,
      c.of_file.ensures
          ∙ ap (λ (t : List ℕ). sent_as t c.deref.result.now c.in-Ok.body.plan c.in-Ok.body.boundary c.in-Ok.body.bytes) c.file_type-content_type.ensures
          ∙ ap (λ (f : List ℕ). sent_answer c.args.path.now f c.in-Ok.body) c.deref.ensures,
    ))

pub returns-in-Err : goal.returns-in-Err
returns-in-Err g c =
    sends_by g.H.Holder.gave g.H.Holder.failed c.args.holder.now c.read_body.new.holder c.args.path.now c.args.info.now.value c.args.plan.now _ c.requires.some (inr (inl (
      c.in-Err.why,
      c.in-Err.ensures.fault,
      c.plain.ensures ∙ ap refused_answer c.refusal_of_read.ensures,
    )))
