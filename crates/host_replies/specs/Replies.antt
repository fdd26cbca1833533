-- What a reply says, and what is sent of it.
use Rattle.std.specs.Prelude.{◌≡◌, ◌⊎◌, ℕ, List, [], ◌++◌, Bool, true, false, IsTrue, ◌||◌, ◌==◌, Option, Some, None, is_some, length, if◌then◌else◌, codes}
use Rattle.std.specs.Str.{bytes_eq}
use Rattle.hex.specs.Hex.{encode_lower}
use Rattle.host_names.specs.Digests.{digest_of}
use Rattle.http_wire.specs.Connections.{asks_close}
use Rattle.http_wire.specs.Replies.{HeadFields, head_text}
use Rattle.http_wire.specs.Requests.{RequestParts}
use Rattle.http_wire.specs.declared.replies.ContentRange.{ContentRange}
use Rattle.http_wire.specs.declared.replies.ContentRange.TheVariants.{Unsatisfied}
use Rattle.host_api.specs.Methods.{allow_text}
use Rattle.host_api.specs.Refusals.{status_of}
use Rattle.host_api.specs.Texts.{has_cell, told_text}
use Rattle.host_api.specs.declared.refusals.Refusal.{Refusal}
use Rattle.host_api.specs.declared.refusals.Refusal.TheVariants.{BadMethod, NotSatisfiable, OutOfMemory}
use Rattle.host_api.specs.declared.texts.Told.{Told}
use Rattle.host_api.specs.declared.texts.Told.TheVariants.{Refused}

-- what a reply says, and its body as GET has it
pub record Answer : Type 0 where
  pub status : ℕ
  pub content_type : List ℕ
  pub etag : Option (List ℕ)
  pub content_range : Option ContentRange
  pub allow : Option (List ℕ)
  pub body : List ℕ
  -- whether it has that body by its length alone, as a reply to HEAD for which nothing is read
  pub withheld : Bool

-- ---- replies with JSON

-- the status code of the reply (RFC 9110, section 15)
abbrev pub status_told : Told → ℕ
status_told (Refused refusal) = status_of refusal
status_told told = 200

-- which bytes of the file there are, where none of the range are
abbrev pub range_told : Told → Option ContentRange
range_told (Refused (NotSatisfiable size)) = Some (Unsatisfied size)
range_told told = None

-- the methods that the route has, where it hasn't that of the request
abbrev pub allow_told : Told → Option (List ℕ)
allow_told (Refused (BadMethod resource)) = Some (allow_text resource)
allow_told told = None

-- the reply that tells this, as JSON
abbrev pub told_answer : Told → Answer
told_answer told = record {
  status = status_told told;
  content_type = codes "application/json";
  etag = None;
  content_range = range_told told;
  allow = allow_told told;
  body = told_text told;
  withheld = false;
}

-- the reply that refuses a request
abbrev pub refused_answer : Refusal → Answer
refused_answer refusal = told_answer (Refused refusal)

-- ---- files

-- some bytes of a file, as this status and type say; its entity tag is the digest of the whole (RFC 9110, section 8.8.3)
abbrev pub part_answer : ℕ → List ℕ → List ℕ → Option ContentRange → List ℕ → Answer
part_answer status content_type file range bytes = record {
  status = status;
  content_type = content_type;
  etag = Some (encode_lower (digest_of file).0);
  content_range = range;
  allow = None;
  body = bytes;
  withheld = false;
}

-- what is told of a file of this type that isn't read: its length, and the tag of the whole
abbrev pub unread_answer : List ℕ → List ℕ → Answer
unread_answer content_type file = record (part_answer 200 content_type file None file) { withheld = true }

-- ---- what is sent

-- whether the connection is closed after the reply: at the last that is answered, where the request is one of HTTP/1.0,
-- and where it asks for it (RFC 9112, sections 9.3 and 9.6)
abbrev pub closes : RequestParts → Bool → Bool
closes parts is_last = is_last || parts.minor == 0 || asks_close parts.fields

-- the fields of the reply, which closes the connection or not
abbrev pub fields_for : Bool → Answer → HeadFields
fields_for close answer = record {
  status = answer.status;
  content_type = Some answer.content_type;
  content_length = length answer.body;
  etag = answer.etag;
  accept_ranges = is_some answer.etag;
  content_range = answer.content_range;
  allow = answer.allow;
  close = close;
}

-- whether no body is sent to a request of these parts
abbrev pub is_head : RequestParts → Bool
is_head parts = bytes_eq parts.method (codes "HEAD")

-- the reply as it is sent: of its body, nothing is sent to HEAD (RFC 9110, section 9.3.2)
abbrev pub sent_text : Bool → Bool → Answer → List ℕ
sent_text close head_only answer = head_text (fields_for close answer) ++ (if head_only then [] else answer.body)

-- the reply to a request of this method, as it is sent
abbrev pub sent_for : Bool → List ℕ → Answer → List ℕ
sent_for close method answer = sent_text close (bytes_eq method (codes "HEAD")) answer

-- ---- where memory runs out

-- whether the text takes memory: that of a refusal does so only where it names a cell
abbrev pub takes_text : Told → Bool
takes_text (Refused refusal) = has_cell refusal
takes_text told = true

-- the answer tells that, or that there is no memory for its text
abbrev pub Tells : Told → Answer → Type 0
Tells told answer = (answer ≡ told_answer told) ⊎ ((answer ≡ refused_answer OutOfMemory) × IsTrue (takes_text told))
