-- What is answered with bytes of a file.
use Rattle.std.specs.Prelude.{◌≡◌, ℕ, List, Option, Some, None, length}
use Rattle.host_names.specs.declared.digests.Digest.{Digest}
use Rattle.range_spec.specs.declared.selection.Choice.{Choice}
use Rattle.range_spec.specs.declared.selection.Choice.TheVariants.{Whole, One, Many, None416}
use Rattle.range_reply.specs.Bodies.{text_in}
use Rattle.range_reply.specs.Sending.{SentFile}
use Rattle.range_reply.specs.declared.boundaries.Boundary.{Boundary}
use Rattle.http_wire.specs.declared.replies.ContentRange.TheVariants.{Of}
use Rattle.host_api.specs.Types.{type_of}
use Rattle.host_api.specs.declared.refusals.Refusal.TheVariants as reason
use Rattle.host_replies.specs.PartsTypes.{IsOfEight, parts_type}
use Rattle.host_replies.specs.Replies.{Answer, part_answer, refused_answer}

-- A file of this type is answered so, where this plan sends these bytes (RFC 9110, sections 15.3.1 and 15.3.7). A range that the file doesn't
-- have is refused (15.5.17).
abbrev pub sent_as : List ℕ → List ℕ → Choice → Option Boundary → List ℕ → Answer
sent_as content_type file Whole boundary bytes = part_answer 200 content_type file None bytes
sent_as content_type file (One first last) boundary bytes = part_answer 206 content_type file (Some (Of first last (length file))) bytes
sent_as content_type file (Many intervals) boundary bytes = part_answer 206 (parts_type (text_in boundary)) file None bytes
sent_as content_type file None416 boundary bytes = refused_answer (reason.NotSatisfiable (length file))

-- what is answered where this was read of the file at a path
abbrev pub sent_answer : List ℕ → List ℕ → SentFile → Answer
sent_answer path file body = sent_as (type_of path) file body.plan body.boundary body.bytes

-- ---- what private functions say

-- where several parts are sent of it, one of these is between them
abbrev pub SendsParts : Digest → SentFile → Type 0
SendsParts digest body = (intervals : List (ℕ × ℕ)) → body.plan ≡ Many intervals → IsOfEight digest (text_in body.boundary) × ((boundary : Boundary) × (body.boundary ≡ Some boundary))
