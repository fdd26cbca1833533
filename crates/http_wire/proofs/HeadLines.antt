-- The lines of a reply's head hold no line's end.
use Rattle.std.proofs.Common.{◌≡◌, ◌≢◌, ℕ, ◌+◌, ◌/◌, ◌%◌, ◌<◌, ◌==◌, zero, suc, nat_lt, Bool, true, false, cond, List, [], ◌∷◌, ◌++◌, length, Option, Some, None, refl, sym, ap, ◌∙◌, arith, length-append, lit<}
use Rattle.std.specs.Prelude.{All, IsTrue, codes, decimal, unwrap_or}
use Rattle.std.specs.Fmt.{digits, digits_onto, digit_glyph}
use Rattle.std.specs.List.{list_all}
use Rattle.std.specs.Bool.{then_some}
use Rattle.std.specs.Option.{option_map}
use Rattle.std.proofs.lemmas.Bool.{and_from, and_parts, ne_eqb, not_from_false}
use Rattle.std.proofs.lemmas.List.Elements.{All-append, All-cons, All-nil}
use Rattle.std.proofs.lemmas.List.Folds.{list_all-append}
use Rattle.http.specs.StatusCode.{code_digits, reason_phrase}
use Rattle.http_header.specs.Token.{is_value_byte}
use Rattle.http_wire.proofs.Phrases.{Within, phrase_within}
use Rattle.http_wire.specs.EntityTags.{is_entity_tag, is_entity_tag_byte}
use Rattle.http_wire.specs.FieldTexts.{is_field_text}
use Rattle.http_wire.specs.Replies.{HeadFields, IsLine, field_line, head_lines, is_within_line, range_text, status_line}
use Rattle.http_wire.specs.declared.replies.ContentRange.{ContentRange}
use Rattle.http_wire.specs.declared.replies.ContentRange.TheVariants.{Of, Unsatisfied}

-- the same of a text that may be there
abbrev pub WithinIf : Option (List ℕ) → Type 0
WithinIf None = Unit {0}
WithinIf (Some text) = Within text

byte_within : (b : ℕ) → b ≢ 13 → b ≢ 10 → is_within_line b ≡ true
byte_within b cr lf = and_from _ _ (not_from_false _ (ne_eqb b 13 cr)) (not_from_false _ (ne_eqb b 10 lf))

joined : (xs ys : List ℕ) → Within xs → Within ys → Within (xs ++ ys)
joined xs ys p q = list_all-append is_within_line xs ys ∙ and_from _ _ p q

false_true : false ≡ true → ⊥
false_true e = cc

-- ---- texts of fields

value_within : (b : ℕ) → is_value_byte b ≡ true → is_within_line b ≡ true
value_within b value =
    byte_within b (λ e. false_true (ap is_value_byte (sym e) ∙ value)) (λ e. false_true (ap is_value_byte (sym e) ∙ value))

pub text_within : (text : List ℕ) → IsTrue (is_field_text text) → Within text
text_within [] valid = refl
text_within (b ∷ text) valid =
    let parts = and_parts (is_value_byte b) (list_all is_value_byte text) valid in
    and_from _ _ (value_within b parts.0) (text_within text parts.1)

tag_byte_within : (b : ℕ) → is_entity_tag_byte b ≡ true → is_within_line b ≡ true
tag_byte_within b tag =
    byte_within b (λ e. false_true (ap is_entity_tag_byte (sym e) ∙ tag)) (λ e. false_true (ap is_entity_tag_byte (sym e) ∙ tag))

pub tag_within : (text : List ℕ) → IsTrue (is_entity_tag text) → Within text
tag_within [] valid = refl
tag_within (b ∷ text) valid =
    let parts = and_parts (is_entity_tag_byte b) (list_all is_entity_tag_byte text) valid in
    and_from _ _ (tag_byte_within b parts.0) (tag_within text parts.1)

-- ---- numbers

glyph_within : (d : ℕ) → is_within_line (digit_glyph false d) ≡ true
glyph_within d = go (nat_lt d 10)
  where
    go : (b : Bool) → is_within_line (cond b (48 + d) (87 + d)) ≡ true
    go true = byte_within (48 + d) (λ e. omega arith) (λ e. omega arith)
    go false = byte_within (87 + d) (λ e. omega arith) (λ e. omega arith)

either : (b : Bool) (one other : List ℕ) → Within one → Within other → Within (cond b one other)
either true one other p q = p
either false one other p q = q

digits_within : (k n : ℕ) (rest : List ℕ) → Within rest → Within (digits_onto k 10 false n rest)
digits_within zero n rest within = within
digits_within (suc k) n rest within =
    let more : Within (digit_glyph false (n % 10) ∷ rest) = and_from _ _ (glyph_within (n % 10)) within in
    either (n / 10 == 0) _ _ more (digits_within k (n / 10) (digit_glyph false (n % 10) ∷ rest) more)

decimal_within : (n : ℕ) → Within (decimal n)
unfolding digits
decimal_within n = digits_within 64 n [] refl

range_within : (range : ContentRange) → Within (range_text range)
range_within (Of first last size) =
    let end = codes "/" ++ decimal size in
    let rest = codes "-" ++ (decimal last ++ end) in
    joined (codes "bytes ") (decimal first ++ rest) refl (joined (decimal first) rest (decimal_within first)
    (joined (codes "-") (decimal last ++ end) refl (joined (decimal last) end (decimal_within last)
    (joined (codes "/") (decimal size) refl (decimal_within size)))))
range_within (Unsatisfied size) = joined (codes "bytes */") (decimal size) refl (decimal_within size)

range_if_within : (range : Option ContentRange) → WithinIf (option_map range_text range)
range_if_within None = tt
range_if_within (Some range) = range_within range

flag_within : (flag : Bool) (text : List ℕ) → Within text → WithinIf (then_some flag text)
flag_within true text within = within
flag_within false text within = tt

-- ---- lines

code_within : (code : ℕ) → Within (code_digits code)
code_within code =
    let digit : (d : ℕ) → is_within_line (48 + d) ≡ true = λ d. byte_within (48 + d) (λ e. omega arith) (λ e. omega arith) in
    and_from _ _ (digit (code / 100)) (and_from _ _ (digit (code / 10 % 10)) (and_from _ _ (digit (code % 10)) refl))

status_is_line : (code : ℕ) → IsLine (status_line code)
unfolding status_line
status_is_line code =
    let phrase = unwrap_or (reason_phrase code) [] in
    let rest = codes " " ++ phrase in
    record {
      some = omega arith;
      one = joined (codes "HTTP/1.1 ") (code_digits code ++ rest) refl (joined (code_digits code) rest (code_within code)
          (joined (codes " ") phrase refl (phrase_within code)));
    }

field_is_line : (before : List ℕ) (value : Option (List ℕ)) (behind : List ℕ) → 0 < length before → Within before → Within behind → WithinIf value
    → All IsLine (field_line before value behind)
field_is_line before None behind some first last within = All-nil IsLine
field_is_line before (Some value) behind some first last within =
    All-cons IsLine _ [] (record { some = omega (arith, some, length-append before (value ++ behind)); one = joined before _ first (joined value behind within last) })
    (All-nil IsLine)

pub lines_are_lines : (h : HeadFields) → WithinIf h.content_type → WithinIf h.etag → WithinIf h.allow → All IsLine (head_lines h)
lines_are_lines h content_type etag allow =
    let size = Some (decimal h.content_length) in
    All-cons IsLine _ _ (status_is_line h.status)
    (All-append IsLine _ _ (field_is_line (codes "Content-Type: ") h.content_type [] (lit< tt) refl refl content_type)
    (All-append IsLine (field_line (codes "Content-Length: ") size []) _ (field_is_line (codes "Content-Length: ") size [] (lit< tt) refl refl (decimal_within h.content_length))
    (All-append IsLine _ _ (field_is_line (codes "ETag: \"") h.etag (codes "\"") (lit< tt) refl refl etag)
    (All-append IsLine _ _ (field_is_line (codes "Accept-Ranges: ") _ [] (lit< tt) refl refl (flag_within h.accept_ranges (codes "bytes") refl))
    (All-append IsLine _ _ (field_is_line (codes "Content-Range: ") _ [] (lit< tt) refl refl (range_if_within h.content_range))
    (All-append IsLine _ _ (field_is_line (codes "Allow: ") h.allow [] (lit< tt) refl refl allow)
    (field_is_line (codes "Connection: ") _ [] (lit< tt) refl refl (flag_within h.close (codes "close") refl))))))))
