use Rattle.range_reply.specs.Multipart.{text_of}
use Rattle.host_replies.proofs.FieldTexts.{parts_type_is_valid}
use Rattle.host_replies.proofs.parts_types.PartsType.of.Goals as goal

pub invariant_of-result : goal.invariant_of-result
invariant_of-result c =
    parts_type_is_valid c.args.digest (text_of c.args.boundary) c.to_hex-digits.result.bytes c.requires c.to_hex-digits.ensures.text c.to_hex-digits.ensures.undone
