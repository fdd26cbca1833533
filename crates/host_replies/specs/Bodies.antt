-- What a reply of the code means.
use Rattle.std.specs.Prelude.{ℕ, List, Bool, true, false, option_map}
use Rattle.std.specs.String.{string_bytes}
use Rattle.hex.specs.Hex.{encode_lower}
use Rattle.host_replies.specs.declared.bodies.Body.{Body}
use Rattle.host_replies.specs.declared.bodies.BodyText.{BodyText}
use Rattle.host_replies.specs.declared.bodies.BodyText.TheVariants as text
use Rattle.host_replies.specs.declared.bodies.Body.TheVariants as body
use Rattle.host_replies.specs.declared.media_types.MediaType.{MediaType}
use Rattle.host_replies.specs.declared.media_types.MediaType.TheVariants as media
use Rattle.host_replies.specs.declared.replies.Reply.{Reply}
use Rattle.host_replies.specs.Replies.{Answer}

-- the bytes of a text
abbrev pub text_bytes : BodyText → List ℕ
text_bytes (text.Made made) = string_bytes made
text_bytes (text.Short short) = short.bytes
text_bytes (text.Fixed fixed) = fixed.now

-- the bytes of a body
abbrev pub bytes_of : Body → List ℕ
bytes_of (body.Text text) = text_bytes text
bytes_of (body.File sent) = sent.bytes
bytes_of (body.Unread info) = info.value

-- whether it is known by its length alone
abbrev pub is_withheld : Body → Bool
is_withheld (body.Unread info) = true
is_withheld body = false

-- the text of a media type
abbrev pub media_text : MediaType → List ℕ
media_text (media.Fixed fixed) = fixed.text.now
media_text (media.Parts parts) = parts

-- whether it is a text whose type the program has, and no byte of a file
abbrev pub is_plain : MediaType → Body → Bool
is_plain (media.Fixed fixed) (body.Text text) = true
is_plain type body = false

-- what a reply says: its answer
abbrev pub answer_of : Reply → Answer
answer_of r = record {
  status = r.status;
  content_type = media_text r.content_type;
  etag = option_map (λ d. encode_lower d.0) r.etag;
  content_range = r.content_range;
  allow = option_map (λ t. t.text.now) r.allow;
  body = bytes_of r.body;
  withheld = is_withheld r.body;
}
