use Rattle.std.proofs.Common.{ap, append-nil, length, map, ◌∙◌}
use Rattle.byte_view.specs.Cuts.{slice}
use Rattle.range_reply.specs.Bodies.{body_text, stretches, text_in}
use Rattle.range_reply.proofs.laws.an_interval_is_its_body.Goals as goal

pub returns : goal.returns
returns c file content_type first last body exact =
    exact.bytes
    ∙ ap (λ p. body_text (text_in body.boundary) content_type (length file) p (map (λ i. slice file i.0 i.1) (stretches (length file) p))) exact.sent.1
    ∙ append-nil (slice file first last)
