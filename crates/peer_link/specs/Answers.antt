-- What a peer is answered.
use Rattle.std.specs.Prelude.{◌≡◌, ℕ, false, List, [], ◌∷◌, Option, Some, None, ⊤, codes, length}
use Rattle.std.specs.Io.KnownBytes.{Appends, Keeps, prepend_known}
use Rattle.std.specs.List.{flat_map}
use Rattle.host_names.specs.Digests.{digest_of}
use Rattle.http_wire.specs.Replies.{HeadFields, reply_text}
use Rattle.http_wire.specs.Requests.{RequestParts}
use Rattle.http_wire.specs.Wires.{ServesHead}
use Rattle.peer_link.specs.Paths.{IsPathOf}

-- the head of an answer: of its fields only the length of its body is there
abbrev pub answer_head : (status size : ℕ) → HeadFields
answer_head status size = record {
  status = status;
  content_type = None;
  content_length = size;
  etag = None;
  accept_ranges = false;
  content_range = None;
  allow = None;
  close = false;
}

-- 200 with the bytes of a chunk, or 404 without a body
abbrev pub answer_text : Option (List ℕ) → List ℕ
answer_text (Some chunk) = reply_text (answer_head 200 (length chunk)) chunk
answer_text None = reply_text (answer_head 404 0) []

-- a chunk is the answer only to a GET of a path of it
abbrev pub Answers : RequestParts → Option (List ℕ) → Type 0
Answers request (Some chunk) = (request.method ≡ codes "GET") × IsPathOf request.target (digest_of chunk)
Answers request None = ⊤

-- what was written since is whole answers, one after another
abbrev pub HasAnswered : (held new_held : Option (List ℕ)) → Type 0
HasAnswered held new_held = (answers : List (Option (List ℕ))) × Appends held new_held (flat_map answer_text answers)

-- what is left of a stream to be read, and what was written to it, where that is known
pub record Known : Type 0 where
  pub left : Option (List ℕ)
  pub held : Option (List ℕ)

-- the same where these bytes of it were read and not taken
abbrev pub known : (buffer : List ℕ) → (left held : Option (List ℕ)) → Known
known buffer left held = record { left = prepend_known buffer left; held = held }

-- the requests at the front of a stream have these answers, one after another, and are gone
abbrev pub AreAnswered : (old new : Option (List ℕ)) → List (Option (List ℕ)) → Type 0
AreAnswered old new [] = Keeps old new
AreAnswered old new (answer ∷ answers) =
    (mid : Option (List ℕ)) × (parts : RequestParts) × ServesHead old mid parts × Answers parts answer × AreAnswered mid new answers

-- since then requests were taken from a stream, and their answers were written, each of them whole
abbrev pub HasServed : (first now : Known) → Type 0
HasServed first now =
    (answers : List (Option (List ℕ))) × AreAnswered first.left now.left answers × Appends first.held now.held (flat_map answer_text answers)
