use Rattle.std.proofs.Common.{ap, length, map, refl, ◌∙◌}
use Rattle.byte_view.specs.Cuts.{slice}
use Rattle.range_reply.specs.Bodies.{body_text, stretches, text_in}
use Rattle.range_reply.proofs.Sent.{whole-slices}
use Rattle.range_reply.proofs.laws.a_whole_file_is_its_body.Goals as goal

pub returns : goal.returns
returns c file content_type body exact =
    exact.bytes
    ∙ ap (λ p. body_text (text_in body.boundary) content_type (length file) p (map (λ i. slice file i.0 i.1) (stretches (length file) p))) exact.sent.1
    ∙ whole-slices (length file) file refl
