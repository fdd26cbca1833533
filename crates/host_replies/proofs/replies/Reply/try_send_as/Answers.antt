use Rattle.std.proofs.Common.{ap, ◌∙◌}
use Rattle.hex.specs.Hex.{decode_sized}
use Rattle.host_replies.proofs.EntityTags.{digest_is_tag}
use Rattle.host_replies.proofs.replies.Reply.try_send_as.Goals as goal

pub new-requires : goal.new-requires
new-requires g c =
    digest_is_tag c.as_str.result.now c.in-Some.digest.0 (ap (λ text. decode_sized text 20) c.as_str.ensures.value ∙ c.to_hex-hex.ensures.undone)
