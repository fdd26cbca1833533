-- The head of a reply, and the whole reply, as they are written (RFC 9112, section 4; RFC 9110, section 8 and 14.4).
use Rattle.std.specs.Prelude.{◌≡◌, ℕ, ◌<◌, ◌==◌, ◌&&◌, not, Bool, true, List, [], ◌∷◌, ◌++◌, length, All, Option, Some, None, codes, decimal, unwrap_or}
use Rattle.std.specs.List.{concat, flat_map, list_all}
use Rattle.std.specs.Option.{option_map}
use Rattle.std.specs.Bool.{then_some}
use Rattle.http.specs.StatusCode.{code_digits, reason_phrase}
use Rattle.httparse.specs.Ascii.{crlf_bytes}
use Rattle.http_wire.specs.declared.replies.ContentRange.{ContentRange}
use Rattle.http_wire.specs.declared.replies.ContentRange.TheVariants.{Of, Unsatisfied}
use Rattle.http_wire.specs.declared.reply_heads.Line.{Line}
use Rattle.http_wire.specs.declared.replies.ReplyBody.{ReplyBody}
use Rattle.http_wire.specs.declared.replies.ReplyBody.TheVariants.{Sent, Withheld}
use Rattle.http_wire.specs.declared.replies.ReplyHead.{ReplyHead}

-- the version, the code and its phrase
unfoldable pub status_line : ℕ → List ℕ
status_line code = codes "HTTP/1.1 " ++ (code_digits code ++ (codes " " ++ unwrap_or (reason_phrase code) []))

-- the line of a field, where its value is there: what comes before the value, the value, and what comes after it
abbrev pub field_line : List ℕ → Option (List ℕ) → List ℕ → List (List ℕ)
field_line before None behind = []
field_line before (Some value) behind = (before ++ (value ++ behind)) ∷ []

-- a range of so many bytes, or their number alone
abbrev pub range_text : ContentRange → List ℕ
range_text (Of first last length) =
    codes "bytes " ++ (decimal first ++ (codes "-" ++ (decimal last ++ (codes "/" ++ decimal length))))
range_text (Unsatisfied length) = codes "bytes */" ++ decimal length

-- what a head says, without the places of its texts
pub record HeadFields : Type 0 where
  pub status : ℕ
  pub content_type : Option (List ℕ)
  pub content_length : ℕ
  pub etag : Option (List ℕ)
  pub accept_ranges : Bool
  pub content_range : Option ContentRange
  pub allow : Option (List ℕ)
  pub close : Bool

-- the bytes that are sent after the head, of parts that have these texts
abbrev pub sent_of : {P : Type 0} → (texts : P → List (List ℕ)) → ReplyBody P → List ℕ
sent_of texts (Sent parts) = concat (texts parts)
sent_of texts (Withheld size) = []

-- how many bytes the head says that the body has: those that are sent, or those that a GET would be sent (RFC 9110, sections 8.6
-- and 9.3.2)
abbrev pub size_of : {P : Type 0} → (texts : P → List (List ℕ)) → ReplyBody P → ℕ
size_of texts (Sent parts) = length (concat (texts parts))
size_of texts (Withheld size) = size

-- what a head says before a body of this many bytes
abbrev pub fields_of : ReplyHead → ℕ → HeadFields
fields_of h size = record {
  status = h.status;
  content_type = option_map (λ t. t.text.now) h.content_type;
  content_length = size;
  etag = option_map (λ t. t.text.now) h.etag;
  accept_ranges = h.accept_ranges;
  content_range = h.content_range;
  allow = option_map (λ t. t.text.now) h.allow;
  close = h.close;
}

-- the status line, and those of the fields that are there, in this order
abbrev pub head_lines : HeadFields → List (List ℕ)
head_lines h =
    status_line h.status
    ∷ (field_line (codes "Content-Type: ") h.content_type []
    ++ (field_line (codes "Content-Length: ") (Some (decimal h.content_length)) []
    ++ (field_line (codes "ETag: \"") h.etag (codes "\"")
    ++ (field_line (codes "Accept-Ranges: ") (then_some h.accept_ranges (codes "bytes")) []
    ++ (field_line (codes "Content-Range: ") (option_map range_text h.content_range) []
    ++ (field_line (codes "Allow: ") h.allow []
    ++ field_line (codes "Connection: ") (then_some h.close (codes "close")) []))))))

-- a line with its end
abbrev pub ended_line : List ℕ → List ℕ
ended_line line = line ++ crlf_bytes

-- these lines, and the empty one
abbrev pub head_text : HeadFields → List ℕ
head_text h = flat_map ended_line (head_lines h) ++ crlf_bytes

-- a head and the body after it
abbrev pub reply_text : HeadFields → List ℕ → List ℕ
reply_text h body = head_text h ++ body

-- the same of a head and a body as they are given
abbrev pub sent_reply : {P : Type 0} → (texts : P → List (List ℕ)) → ReplyHead → ReplyBody P → List ℕ
sent_reply texts h body = reply_text (fields_of h (size_of texts body)) (sent_of texts body)

-- a byte that is neither CR nor LF
abbrev pub is_within_line : ℕ → Bool
is_within_line b = not (b == 13) && not (b == 10)

-- a line is not empty, and has neither CR nor LF
pub record IsLine (line : List ℕ) : Type 0 where
  pub some : 0 < length line
  pub one : list_all is_within_line line ≡ true

-- the text is these lines, each with its end, and the empty one
pub record HasLines (text : List ℕ) (lines : List (List ℕ)) : Type 0 where
  pub text_is : text ≡ flat_map ended_line lines ++ crlf_bytes
  pub each : All IsLine lines

-- ---- what private functions say

-- the same as one text, where its value is there; `behind` has the end of the line
abbrev pub line_of : List ℕ → Option (List ℕ) → List ℕ → List ℕ
line_of before None behind = []
line_of before (Some value) behind = before ++ (value ++ behind)

abbrev pub text_of_line : Line → List ℕ
text_of_line l = line_of l.before.now (option_map (λ v. v.now) l.value) l.behind.now
