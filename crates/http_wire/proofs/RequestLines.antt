-- Each request head of the grammar, as its bytes, is a head by lines.
use Rattle.std.proofs.Common.{◌≡◌, ◌≢◌, ℕ, ◌+◌, ◌<◌, ◌≤◌, inl, inr, Bool, true, not, List, [], ◌∷◌, ◌++◌, length, length-append, map, refl, sym, ap, ◌∙◌, subst, append_assoc, arith, eqb}
use Rattle.std.specs.Prelude.{All, codes, IsTrue}
use Rattle.std.specs.List.{flat_map, list_all}
use Rattle.std.proofs.lemmas.Bool.{false≢true, and_parts, eqb-false, not-true}
use Rattle.std.proofs.lemmas.List.Elements.{All-append, All-cons, All-nil, All-weaker, All-map}
use Rattle.httparse.specs.Ascii.{line_feed, carriage_return, space, colon}
use Rattle.httparse.specs.Grammar.{is_token_byte, is_uri_byte, is_value_byte, AllPass, LineEnd, crlf, lf, print_end, print_blank, print_version, Field, print_field, IsField, RequestHead, print_request, IsRequestHead}
use Rattle.http_wire.specs.HeadText.{ended, IsEmptyLine, IsTextLine, IsHeadText}

abbrev IsOneLine : List ℕ → Type 0
IsOneLine line = All (λ b. b ≢ line_feed) line

one_line-append : (xs ys : List ℕ) → IsOneLine xs → IsOneLine ys → IsOneLine (xs ++ ys)
one_line-append xs ys = All-append (λ b. b ≢ line_feed) xs ys

one_line-cons : (b : ℕ) (xs : List ℕ) → b ≢ line_feed → IsOneLine xs → IsOneLine (b ∷ xs)
one_line-cons b xs = All-cons (λ b. b ≢ line_feed) b xs

-- a text that is known has no LF by a test
one_line_from_test : (xs : List ℕ) → list_all (λ b. not (eqb b 10)) xs ≡ true → IsOneLine xs
one_line_from_test [] h = All-nil (λ b. b ≢ line_feed)
one_line_from_test (b ∷ xs) h =
    let both = and_parts (not (eqb b 10)) (list_all (λ b. not (eqb b 10)) xs) h in
    one_line-cons b xs (eqb-false b 10 (not-true (eqb b 10) both.0)) (one_line_from_test xs both.1)

token_byte_is_plain : (b : ℕ) → IsTrue (is_token_byte b) → b ≢ line_feed
unfolding is_token_byte
token_byte_is_plain b t e = false≢true (subst (λ c. IsTrue (is_token_byte c)) e t)

uri_byte_is_plain : (b : ℕ) → IsTrue (is_uri_byte b) → b ≢ line_feed
uri_byte_is_plain b t e = false≢true (subst (λ c. IsTrue (is_uri_byte c)) e t)

value_byte_is_plain : (b : ℕ) → IsTrue (is_value_byte b) → b ≢ line_feed
value_byte_is_plain b t e = false≢true (subst (λ c. IsTrue (is_value_byte c)) e t)

one_line_from_pass : (test : ℕ → Bool) → ((b : ℕ) → IsTrue (test b) → b ≢ line_feed) → (xs : List ℕ) → AllPass test xs → IsOneLine xs
one_line_from_pass test plain xs h = All-weaker (λ b. IsTrue (test b)) (λ b. b ≢ line_feed) plain xs h

-- what stands before the LF of a line's end
abbrev end_line : LineEnd → List ℕ
end_line crlf = carriage_return ∷ []
end_line lf = []

end_is : (e : LineEnd) → print_end e ≡ ended (end_line e)
end_is crlf = refl
end_is lf = refl

end_is_empty : (e : LineEnd) → IsEmptyLine (end_line e)
end_is_empty crlf = inr refl
end_is_empty lf = inl refl

end_is_one_line : (e : LineEnd) → IsOneLine (end_line e)
end_is_one_line crlf = one_line-cons 13 [] (λ e. absurd (omega arith)) (All-nil (λ b. b ≢ line_feed))
end_is_one_line lf = All-nil (λ b. b ≢ line_feed)

-- a line of two bytes or more is no empty line
long_is_text : (line : List ℕ) → IsOneLine line → 1 < length line → IsTextLine line
long_is_text line h long = record {
  one_line = h;
  text = λ e. elim e [
    | inl p ↦ (let short = ap length p in omega arith)
    | inr p ↦ (let short = ap length p in omega arith)
  ];
}

ended-move : (xs : List ℕ) (e : LineEnd) → xs ++ print_end e ≡ ended (xs ++ end_line e)
ended-move xs e = ap (λ u. xs ++ u) (end_is e) ∙ sym (append_assoc xs (end_line e) (line_feed ∷ []))

-- ---- the empty lines before

blank_is : (ends : List LineEnd) → print_blank ends ≡ flat_map ended (map end_line ends)
blank_is [] = refl
blank_is (e ∷ ends) = rw (end_is e, blank_is ends) refl

blank_are_empty : (ends : List LineEnd) → All IsEmptyLine (map end_line ends)
blank_are_empty [] = All-nil IsEmptyLine
blank_are_empty (e ∷ ends) = All-cons IsEmptyLine (end_line e) (map end_line ends) (end_is_empty e) (blank_are_empty ends)

-- ---- the fields

abbrev field_line : Field → List ℕ
field_line f = (f.name ++ colon ∷ f.raw) ++ end_line f.end

fields_are : (fields : List Field) → flat_map print_field fields ≡ flat_map ended (map field_line fields)
fields_are [] = refl
fields_are (f ∷ fields) = rw (ended-move (f.name ++ colon ∷ f.raw) f.end, fields_are fields) refl

field_is_text : (f : Field) → IsField f → IsTextLine (field_line f)
field_is_text f h =
    let name = one_line_from_pass is_token_byte token_byte_is_plain f.name h.name.1 in
    let raw = one_line_from_pass is_value_byte value_byte_is_plain f.raw h.raw in
    long_is_text (field_line f)
    (one_line-append (f.name ++ colon ∷ f.raw) (end_line f.end)
    (one_line-append f.name (colon ∷ f.raw) name (one_line-cons colon f.raw (λ e. absurd (omega arith)) raw))
    (end_is_one_line f.end))
    (omega (arith, length-append (f.name ++ colon ∷ f.raw) (end_line f.end), length-append f.name (colon ∷ f.raw), h.name.0))

fields_are_text : (fields : List Field) → All IsField fields → All IsTextLine (map field_line fields)
fields_are_text fields h = All-map IsTextLine field_line fields (All-weaker IsField (λ f. IsTextLine (field_line f)) field_is_text fields h)

-- ---- the start line

abbrev start_line : RequestHead → List ℕ
start_line h = ((h.method ++ space ∷ h.target) ++ space ∷ print_version h.minor) ++ end_line h.line_end

version_is_one_line : (minor : ℕ) → minor ≤ 1 → IsOneLine (print_version minor)
version_is_one_line minor small =
    one_line-append (codes "HTTP/1.") ((48 + minor) ∷ [])
    (one_line_from_test (codes "HTTP/1.") refl)
    (one_line-cons (48 + minor) [] (λ e. absurd (omega arith)) (All-nil (λ b. b ≢ line_feed)))

start_is_text : (h : RequestHead) → IsRequestHead h → IsTextLine (start_line h)
start_is_text h l =
    let method = one_line_from_pass is_token_byte token_byte_is_plain h.method l.method.1 in
    let target = one_line_from_pass is_uri_byte uri_byte_is_plain h.target l.target.1 in
    let words = h.method ++ space ∷ h.target in
    let line = words ++ space ∷ print_version h.minor in
    long_is_text (start_line h)
    (one_line-append line (end_line h.line_end)
    (one_line-append words (space ∷ print_version h.minor)
    (one_line-append h.method (space ∷ h.target) method (one_line-cons space h.target (λ e. absurd (omega arith)) target))
    (one_line-cons space (print_version h.minor) (λ e. absurd (omega arith)) (version_is_one_line h.minor l.minor)))
    (end_is_one_line h.line_end))
    (omega (arith, length-append line (end_line h.line_end), length-append words (space ∷ print_version h.minor), length-append h.method (space ∷ h.target), l.method.0))

-- the whole head
request_is_text : (h : RequestHead) → print_request h
    ≡ flat_map ended (map end_line h.blank) ++ (flat_map ended (start_line h ∷ map field_line h.fields) ++ ended (end_line h.last))
unfolding print_request
request_is_text h =
    rw (← blank_is h.blank, ← fields_are h.fields, ← end_is h.last, ← ended-move ((h.method ++ space ∷ h.target) ++ space ∷ print_version h.minor) h.line_end)
    (simp append_assoc)

pub request_is_head : (h : RequestHead) → IsRequestHead h → IsHeadText (print_request h)
request_is_head h l = record {
  before = map end_line h.blank;
  lines = start_line h ∷ map field_line h.fields;
  last = end_line h.last;
  before_empty = blank_are_empty h.blank;
  some = omega arith;
  lines_text = All-cons IsTextLine (start_line h) (map field_line h.fields) (start_is_text h l) (fields_are_text h.fields l.fields);
  last_empty = end_is_empty h.last;
  text_is = request_is_text h;
}
