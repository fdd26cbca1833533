use Rattle.std.proofs.Common.{◌++◌, ◌∙◌, ap, ap₂, length, map, sym, subst}
use Rattle.byte_view.specs.Cuts.{slice}
use Rattle.range_reply.specs.Bodies.{body_text, stretches, text_in}
use Rattle.range_reply.specs.Multipart.{IsCount, last_line, text_of}
use Rattle.range_reply.proofs.Sent.{sent-long, zipped}
use Rattle.range_reply.proofs.file_bodies.body_length.Goals as goal

pub returns-in-Many-Some-clause-long : goal.returns-in-Many-Some-clause-long
returns-in-Many-Some-clause-long c =
    let content_type = c.args.content_type.text.now in
    let file = c.args.info.now in
    let b = text_of c.in-Many-Some.boundary in
    subst (IsCount c.multipart_length.result)
    (ap (λ l. length (l ++ last_line b)) (zipped b content_type file (length file) c.in-Many-Some.intervals)
    ∙ ap₂ (λ b p. length (body_text (text_in b) content_type (length file) p (map (λ s. slice file s.0 s.1) (stretches (length file) p))))
    (sym c.in-Many-Some.is-1) (sym c.in-Many-Some.is-0)
    ∙ sym (sent-long (text_in c.args.boundary.now) content_type file c.args.holds.now c.args.plan.now c.requires.held c.requires.lawful))
    c.multipart_length.ensures
