-- The pieces of a reply's head are its text.
use Rattle.std.proofs.Common.{◌≡◌, ℕ, Bool, true, false, List, [], ◌++◌, Option, Some, None, Bor, refl, ap, ap₂, ◌∙◌, append_assoc, append-nil}
use Rattle.std.specs.Prelude.{unwrap_or, codes, decimal}
use Rattle.std.specs.List.{flat_map}
use Rattle.std.proofs.lemmas.List.Concat.{flat_map-append}
use Rattle.std.specs.Option.{option_map}
use Rattle.std.specs.Bool.{then_some}
use Rattle.http.specs.StatusCode.{code_digits, reason_phrase}
use Rattle.httparse.specs.Ascii.{crlf_bytes}
use Rattle.http_wire.specs.Replies.{HeadFields, ended_line, field_line, head_text, line_of, range_text, status_line}

-- the phrase, or nothing
pub phrase_is : (shown : Option (Bor (List ℕ))) (other : Bor (List ℕ)) (phrase : Option (List ℕ))
    → option_map (λ (s : Bor (List ℕ)). s.now) shown ≡ phrase → other.now ≡ [] → (unwrap_or shown other).now ≡ unwrap_or phrase []
phrase_is None other phrase e none = none ∙ ap (λ p. unwrap_or p []) e
phrase_is (Some s) other phrase e none = ap (λ p. unwrap_or p []) e

-- a text where a flag is set
pub shown_where : (flag : Bool) (text : Bor (List ℕ)) → option_map (λ (s : Bor (List ℕ)). s.now) (then_some flag text) ≡ then_some flag text.now
shown_where true text = refl
shown_where false text = refl

pub status_is : (status : ℕ) (code phrase : List ℕ) → code ≡ code_digits status → phrase ≡ unwrap_or (reason_phrase status) []
    → codes "HTTP/1.1 " ++ (code ++ (codes " " ++ (phrase ++ crlf_bytes))) ≡ ended_line (status_line status)
unfolding status_line
status_is status code phrase e f = rw (e, f) (simp append_assoc)

-- the status lines that are one text
pub ok_is : (status : ℕ) → status ≡ 200 → codes "HTTP/1.1 200 OK" ++ crlf_bytes ≡ ended_line (status_line status)
unfolding status_line
ok_is status is = rw is refl

pub partial_is : (status : ℕ) → status ≡ 206 → codes "HTTP/1.1 206 Partial Content" ++ crlf_bytes ≡ ended_line (status_line status)
unfolding status_line
partial_is status is = rw is refl

-- a line with its end, where it is there
line_is : (before : List ℕ) (value : Option (List ℕ)) (behind : List ℕ) → flat_map ended_line (field_line before value behind) ≡ line_of before value (behind ++ crlf_bytes)
line_is before None behind = refl
line_is before (Some value) behind = append-nil _ ∙ append_assoc before (value ++ behind) crlf_bytes ∙ ap (λ u. before ++ u) (append_assoc value behind crlf_bytes)

-- a line, and the text after it
line_then : (before : List ℕ) (value : Option (List ℕ)) (behind : List ℕ) (lines : List (List ℕ)) (rest : List ℕ) → flat_map ended_line lines ++ crlf_bytes ≡ rest
    → flat_map ended_line (field_line before value behind ++ lines) ++ crlf_bytes ≡ line_of before value (behind ++ crlf_bytes) ++ rest
line_then before value behind lines rest e =
    ap (λ u. u ++ crlf_bytes) (flat_map-append ended_line (field_line before value behind) lines)
    ∙ append_assoc (flat_map ended_line (field_line before value behind)) (flat_map ended_line lines) crlf_bytes
    ∙ ap₂ (λ u v. u ++ v) (line_is before value behind) e

-- the lines of a head, one after another
pub head_is : (h : HeadFields) → head_text h
    ≡ ended_line (status_line h.status)
    ++ (line_of (codes "Content-Type: ") h.content_type crlf_bytes
    ++ (line_of (codes "Content-Length: ") (Some (decimal h.content_length)) crlf_bytes
    ++ (line_of (codes "ETag: \"") h.etag (codes "\"" ++ crlf_bytes)
    ++ (line_of (codes "Accept-Ranges: ") (then_some h.accept_ranges (codes "bytes")) crlf_bytes
    ++ (line_of (codes "Content-Range: ") (option_map range_text h.content_range) crlf_bytes
    ++ (line_of (codes "Allow: ") h.allow crlf_bytes
    ++ (line_of (codes "Connection: ") (then_some h.close (codes "close")) crlf_bytes
    ++ crlf_bytes)))))))
head_is h =
    append_assoc (ended_line (status_line h.status)) _ crlf_bytes
    ∙ ap (λ u. ended_line (status_line h.status) ++ u)
    (line_then (codes "Content-Type: ") h.content_type [] _ _
    (line_then (codes "Content-Length: ") (Some (decimal h.content_length)) [] _ _
    (line_then (codes "ETag: \"") h.etag (codes "\"") _ _
    (line_then (codes "Accept-Ranges: ") (then_some h.accept_ranges (codes "bytes")) [] _ _
    (line_then (codes "Content-Range: ") (option_map range_text h.content_range) [] _ _
    (line_then (codes "Allow: ") h.allow [] _ _
    (ap (λ u. u ++ crlf_bytes) (line_is (codes "Connection: ") (then_some h.close (codes "close")) []))))))))

-- lines one behind another, between the first one and the end
pub lines_joined : (s end a b c d e f g u v w x y z t : List ℕ) → t ≡ a → u ≡ b → v ≡ c → w ≡ d → x ≡ e → y ≡ f → z ≡ g
    → s ++ ((t ++ (u ++ (v ++ (w ++ (x ++ (y ++ (z ++ []))))))) ++ end) ≡ s ++ (a ++ (b ++ (c ++ (d ++ (e ++ (f ++ (g ++ end)))))))
lines_joined s end a b c d e f g u v w x y z t p0 p1 p2 p3 p4 p5 p6 =
    rw (p0, p1, p2, p3, p4, p5, p6) (simp (append_assoc, append-nil))
