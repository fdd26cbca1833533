-- The bytes after the head's end, found byte by byte, are those after the first head by lines, and none are found
-- where there is no such head.
use Rattle.std.proofs.Common.{◌≡◌, ◌≢◌, ℕ, ◌<◌, inl, inr, true, false, List, [], ◌∷◌, ◌++◌, length, length-append, Option, Some, None, refl, sym, ap, ◌∙◌, subst, append_assoc, append-nil, arith, eqb}
use Rattle.std.specs.Prelude.{All}
use Rattle.std.specs.List.{flat_map}
use Rattle.std.proofs.lemmas.Bool.{ne_eqb, cases_eq, cases_Bool, eq-eqb, false≢true, true≢false}
use Rattle.std.proofs.lemmas.List.{flat_map_more}
use Rattle.std.proofs.lemmas.List.Elements.{All-head, All-tail, All-push, All-nil}
use Rattle.httparse.specs.Ascii.{line_feed, carriage_return}
use Rattle.http_wire.specs.declared.scans.State.{State}
use Rattle.http_wire.specs.declared.scans.State.TheVariants.{Before, BeforeReturn, Text, Between, BetweenReturn, Done}
use Rattle.http_wire.specs.HeadText.{ended, IsEmptyLine, IsTextLine, IsHeadText, HasHead}
use Rattle.http_wire.specs.Scanning.{step_of, is_done, rest_from}

-- ---- a head is run through to its end

text_run : (line x : List ℕ) → All (λ b. b ≢ line_feed) line → rest_from Text (line ++ line_feed ∷ x) ≡ rest_from Between x
text_run [] x h = refl
text_run (b ∷ line) x h =
    let other : eqb b 10 ≡ false = ne_eqb b 10 (All-head (λ b. b ≢ line_feed) b line h) in
    rw other (text_run line x (All-tail (λ b. b ≢ line_feed) b line h))

-- after a CR the line goes on, since a CR alone is an empty line
return_run : (line x : List ℕ) → IsTextLine (carriage_return ∷ line)
    → (rest_from BeforeReturn (line ++ line_feed ∷ x) ≡ rest_from Between x)
    × (rest_from BetweenReturn (line ++ line_feed ∷ x) ≡ rest_from Between x)
return_run [] x h = absurd (h.text (inr refl))
return_run (b ∷ line) x h =
    let tail = All-tail (λ b. b ≢ line_feed) carriage_return (b ∷ line) h.one_line in
    let other : eqb b 10 ≡ false = ne_eqb b 10 (All-head (λ b. b ≢ line_feed) b line tail) in
    let rest = text_run line x (All-tail (λ b. b ≢ line_feed) b line tail) in
    (rw other rest, rw other rest)

-- a line of text, from where lines begin
line_run : (line x : List ℕ) → IsTextLine line
    → (rest_from Before (line ++ line_feed ∷ x) ≡ rest_from Between x)
    × (rest_from Between (line ++ line_feed ∷ x) ≡ rest_from Between x)
line_run [] x h = absurd (h.text (inl refl))
line_run (b ∷ line) x h =
    let other : eqb b 10 ≡ false = ne_eqb b 10 (All-head (λ b. b ≢ line_feed) b line h.one_line) in
    elim (cases_eq b 13) [
      | inl e ↦ (let both = return_run line x (subst (λ c. IsTextLine (c ∷ line)) e h) in rw e both)
      | inr ne ↦ (
          let plain : eqb b 13 ≡ false = ne_eqb b 13 ne in
          let rest = text_run line x (All-tail (λ b. b ≢ line_feed) b line h.one_line) in
          (rw (other, plain) rest, rw (other, plain) rest))
    ]

ended-append : (line x : List ℕ) → ended line ++ x ≡ line ++ line_feed ∷ x
ended-append line x = append_assoc line (line_feed ∷ []) x

before_run : (lines : List (List ℕ)) (x : List ℕ) → All IsEmptyLine lines → rest_from Before (flat_map ended lines ++ x) ≡ rest_from Before x
before_run [] x h = refl
before_run (line ∷ lines) x h =
    let rest = before_run lines x (All-tail IsEmptyLine line lines h) in
    rw (append_assoc (ended line) (flat_map ended lines) x)
    (elim (All-head IsEmptyLine line lines h) [ inl e ↦ rw e rest | inr e ↦ rw e rest ])

lines_run : (lines : List (List ℕ)) (x : List ℕ) → All IsTextLine lines → rest_from Between (flat_map ended lines ++ x) ≡ rest_from Between x
lines_run [] x h = refl
lines_run (line ∷ lines) x h =
    ap (rest_from Between) (append_assoc (ended line) (flat_map ended lines) x ∙ ended-append line (flat_map ended lines ++ x))
    ∙ (line_run line (flat_map ended lines ++ x) (All-head IsTextLine line lines h)).1
    ∙ lines_run lines x (All-tail IsTextLine line lines h)

-- the first line of text is run through from the empty lines
some_lines_run : (lines : List (List ℕ)) (x : List ℕ) → 0 < length lines → All IsTextLine lines → rest_from Before (flat_map ended lines ++ x) ≡ rest_from Between x
some_lines_run [] x p h = absurd (omega arith)
some_lines_run (line ∷ lines) x p h =
    ap (rest_from Before) (append_assoc (ended line) (flat_map ended lines) x ∙ ended-append line (flat_map ended lines ++ x))
    ∙ (line_run line (flat_map ended lines ++ x) (All-head IsTextLine line lines h)).0
    ∙ lines_run lines x (All-tail IsTextLine line lines h)

last_run : (last x : List ℕ) → IsEmptyLine last → rest_from Between (ended last ++ x) ≡ Some x
last_run last [] h = elim h [ inl e ↦ rw e refl | inr e ↦ rw e refl ]
last_run last (b ∷ x) h = elim h [ inl e ↦ rw e refl | inr e ↦ rw e refl ]

head_run : (text x : List ℕ) → IsHeadText text → rest_from Before (text ++ x) ≡ Some x
head_run text x h =
    let front = flat_map ended h.before in
    let middle = flat_map ended h.lines in
    let regroup : text ++ x ≡ front ++ (middle ++ (ended h.last ++ x)) =
    ap (λ t. t ++ x) h.text_is ∙ append_assoc front (middle ++ ended h.last) x
    ∙ ap (λ t. front ++ t) (append_assoc middle (ended h.last) x) in
    ap (rest_from Before) regroup
    ∙ before_run h.before (middle ++ (ended h.last ++ x)) h.before_empty
    ∙ some_lines_run h.lines (ended h.last ++ x) h.some h.lines_text
    ∙ last_run h.last x h.last_empty

-- where the stream has a head, the bytes after it are found
pub head_runs : (stream text rest : List ℕ) → HasHead stream text rest → rest_from Before stream ≡ Some rest
head_runs stream text rest h = ap (rest_from Before) h.stream_is ∙ head_run text rest h.head

-- ---- where the end is found, the bytes before it are a head

-- empty lines alone
record OnlyEmpty (bytes : List ℕ) : Type 0 where
  pub before : List (List ℕ)
  pub before_empty : All IsEmptyLine before
  pub bytes_is : bytes ≡ flat_map ended before

-- empty lines, and some lines of text
record Lines (bytes : List ℕ) : Type 0 where
  pub before : List (List ℕ)
  pub lines : List (List ℕ)
  pub before_empty : All IsEmptyLine before
  pub lines_text : All IsTextLine lines
  pub bytes_is : bytes ≡ flat_map ended before ++ flat_map ended lines

-- such lines, and the front of one more that is a line of text already
record PartLine (bytes : List ℕ) : Type 0 where
  pub whole : List ℕ
  pub part : List ℕ
  pub before : Lines whole
  pub part_text : IsTextLine part
  pub bytes_is : bytes ≡ whole ++ part

record SomeLines (bytes : List ℕ) : Type 0 where
  pub all : Lines bytes
  pub some : 0 < length all.lines

-- what the bytes of a head so far are in each state
abbrev Means : State → List ℕ → Type 0
Means Before bytes = OnlyEmpty bytes
Means BeforeReturn bytes = (front : List ℕ) × OnlyEmpty front × (bytes ≡ front ++ carriage_return ∷ [])
Means Text bytes = PartLine bytes
Means Between bytes = SomeLines bytes
Means BetweenReturn bytes = (front : List ℕ) × SomeLines front × (bytes ≡ front ++ carriage_return ∷ [])
Means Done bytes = IsHeadText bytes

more_empty : (bytes line : List ℕ) → OnlyEmpty bytes → IsEmptyLine line → OnlyEmpty (bytes ++ ended line)
more_empty bytes line h e = record {
  before = h.before ++ line ∷ [];
  before_empty = All-push IsEmptyLine h.before line h.before_empty e;
  bytes_is = ap (λ t. t ++ ended line) h.bytes_is ∙ flat_map_more ended [] h.before line;
}

no_lines : (bytes : List ℕ) → OnlyEmpty bytes → Lines bytes
no_lines bytes h = record {
  before = h.before;
  lines = [];
  before_empty = h.before_empty;
  lines_text = All-nil IsTextLine;
  bytes_is = h.bytes_is ∙ sym (append-nil (flat_map ended h.before));
}

more_lines : (bytes line : List ℕ) → Lines bytes → IsTextLine line → SomeLines (bytes ++ ended line)
more_lines bytes line h t = record {
  all = record {
    before = h.before;
    lines = h.lines ++ line ∷ [];
    before_empty = h.before_empty;
    lines_text = All-push IsTextLine h.lines line h.lines_text t;
    bytes_is = ap (λ u. u ++ ended line) h.bytes_is ∙ flat_map_more ended (flat_map ended h.before) h.lines line;
  };
  some = omega (arith, length-append h.lines (line ∷ []));
}

the_head : (bytes last : List ℕ) → SomeLines bytes → IsEmptyLine last → IsHeadText (bytes ++ ended last)
the_head bytes last h e = record {
  before = h.all.before;
  lines = h.all.lines;
  last = last;
  before_empty = h.all.before_empty;
  some = h.some;
  lines_text = h.all.lines_text;
  last_empty = e;
  text_is = ap (λ u. u ++ ended last) h.all.bytes_is ∙ append_assoc (flat_map ended h.all.before) (flat_map ended h.all.lines) (ended last);
}

-- a line of text stays one with a byte more
still_text : (part : List ℕ) (b : ℕ) → IsTextLine part → ¬ (IsEmptyLine (part ++ b ∷ []))
still_text [] b h e = h.text (inl refl)
still_text (c ∷ []) b h e = elim e [ inl p ↦ cc | inr p ↦ cc ]
still_text (c ∷ d ∷ part) b h e = elim e [ inl p ↦ cc | inr p ↦ cc ]

-- a byte that is no LF makes a line of text longer
longer_part : (bytes : List ℕ) (b : ℕ) → PartLine bytes → b ≢ line_feed → PartLine (bytes ++ b ∷ [])
longer_part bytes b h ne = record {
  whole = h.whole;
  part = h.part ++ b ∷ [];
  before = h.before;
  part_text = record {
    one_line = All-push (λ b. b ≢ line_feed) h.part b h.part_text.one_line ne;
    text = still_text h.part b h.part_text;
  };
  bytes_is = ap (λ u. u ++ b ∷ []) h.bytes_is ∙ append_assoc h.whole h.part (b ∷ []);
}

-- a line of text begins, with a byte or after a CR
new_part : (bytes part : List ℕ) → Lines bytes → IsTextLine part → PartLine (bytes ++ part)
new_part bytes part h t = record { whole = bytes; part = part; before = h; part_text = t; bytes_is = refl }

one_byte : (b : ℕ) → b ≢ line_feed → b ≢ carriage_return → IsTextLine (b ∷ [])
one_byte b lf cr = record {
  one_line = All-push (λ b. b ≢ line_feed) [] b (All-nil (λ b. b ≢ line_feed)) lf;
  text = λ e. elim e [ inl p ↦ cc | inr p ↦ cr cc ];
}

two_bytes : (b : ℕ) → b ≢ line_feed → IsTextLine (carriage_return ∷ b ∷ [])
two_bytes b lf = record {
  one_line = All-push (λ b. b ≢ line_feed) (carriage_return ∷ []) b
      (All-push (λ b. b ≢ line_feed) [] carriage_return (All-nil (λ b. b ≢ line_feed)) (λ e. absurd (omega arith))) lf;
  text = λ e. elim e [ inl p ↦ cc | inr p ↦ cc ];
}

-- one more byte
step_means : (s : State) (bytes : List ℕ) (b : ℕ) → is_done s ≡ false → Means s bytes → Means (step_of s b) (bytes ++ b ∷ [])
step_means Before bytes b nd h = elim (cases_eq b 10) [
  | inl lf ↦ (rw (eq-eqb b 10 lf) (subst (λ c. OnlyEmpty (bytes ++ c ∷ [])) (sym lf) (more_empty bytes [] h (inl refl))))
  | inr nlf ↦ rw (ne_eqb b 10 nlf) (elim (cases_eq b 13) [
    | inl cr ↦ rw (eq-eqb b 13 cr) (bytes, h, ap (λ c. bytes ++ c ∷ []) cr)
    | inr ncr ↦ rw (ne_eqb b 13 ncr) (new_part bytes (b ∷ []) (no_lines bytes h) (one_byte b nlf ncr))
  ])
]
step_means BeforeReturn bytes b nd (front, h, e) = elim (cases_eq b 10) [
  | inl lf ↦ rw (eq-eqb b 10 lf) (subst OnlyEmpty (sym (ap (λ u. u ++ b ∷ []) e ∙ append_assoc front (13 ∷ []) (b ∷ []) ∙ ap (λ c. front ++ 13 ∷ c ∷ []) lf))
      (more_empty front (13 ∷ []) h (inr refl)))
  | inr nlf ↦ rw (ne_eqb b 10 nlf) (subst PartLine (sym (ap (λ u. u ++ b ∷ []) e ∙ append_assoc front (13 ∷ []) (b ∷ [])))
      (new_part front (13 ∷ b ∷ []) (no_lines front h) (two_bytes b nlf)))
]
step_means Text bytes b nd h = elim (cases_eq b 10) [
  | inl lf ↦ rw (eq-eqb b 10 lf) (subst SomeLines (sym (ap (λ u. u ++ b ∷ []) h.bytes_is ∙ append_assoc h.whole h.part (b ∷ []) ∙ ap (λ c. h.whole ++ (h.part ++ c ∷ [])) lf))
      (more_lines h.whole h.part h.before h.part_text))
  | inr nlf ↦ rw (ne_eqb b 10 nlf) (longer_part bytes b h nlf)
]
step_means Between bytes b nd h = elim (cases_eq b 10) [
  | inl lf ↦ rw (eq-eqb b 10 lf) (subst (λ c. IsHeadText (bytes ++ c ∷ [])) (sym lf) (the_head bytes [] h (inl refl)))
  | inr nlf ↦ rw (ne_eqb b 10 nlf) (elim (cases_eq b 13) [
    | inl cr ↦ rw (eq-eqb b 13 cr) (bytes, h, ap (λ c. bytes ++ c ∷ []) cr)
    | inr ncr ↦ rw (ne_eqb b 13 ncr) (new_part bytes (b ∷ []) h.all (one_byte b nlf ncr))
  ])
]
step_means BetweenReturn bytes b nd (front, h, e) = elim (cases_eq b 10) [
  | inl lf ↦ rw (eq-eqb b 10 lf) (subst IsHeadText (sym (ap (λ u. u ++ b ∷ []) e ∙ append_assoc front (13 ∷ []) (b ∷ []) ∙ ap (λ c. front ++ 13 ∷ c ∷ []) lf))
      (the_head front (13 ∷ []) h (inr refl)))
  | inr nlf ↦ rw (ne_eqb b 10 nlf) (subst PartLine (sym (ap (λ u. u ++ b ∷ []) e ∙ append_assoc front (13 ∷ []) (b ∷ [])))
      (new_part front (13 ∷ b ∷ []) h.all (two_bytes b nlf)))
]
step_means Done bytes b nd h = absurd (true≢false nd)

done_means : (s : State) (bytes : List ℕ) → is_done s ≡ true → Means s bytes → IsHeadText bytes
done_means Before bytes d h = absurd (false≢true d)
done_means BeforeReturn bytes d h = absurd (false≢true d)
done_means Text bytes d h = absurd (false≢true d)
done_means Between bytes d h = absurd (false≢true d)
done_means BetweenReturn bytes d h = absurd (false≢true d)
done_means Done bytes d h = h

-- where an end is found after some bytes, they and those before the end are a head
found : (s : State) (bytes x rest : List ℕ) → Means s bytes → rest_from s x ≡ Some rest
    → (text : List ℕ) × IsHeadText (bytes ++ text) × (x ≡ text ++ rest)
found s bytes [] rest h e = elim (cases_Bool (is_done s)) [
  | inl d ↦ (let same : Some [] ≡ Some rest = rw d at e in ([], subst IsHeadText (sym (append-nil bytes)) (done_means s bytes d h), cc))
  | inr d ↦ (let same : ◌≡◌ {A = Option (List ℕ)} None (Some rest) = rw d at e in cc)
]
found s bytes (b ∷ x) rest h e = elim (cases_Bool (is_done s)) [
  | inl d ↦ (let same : Some (b ∷ x) ≡ Some rest = rw d at e in ([], subst IsHeadText (sym (append-nil bytes)) (done_means s bytes d h), cc))
  | inr d ↦ (
      let on : rest_from (step_of s b) x ≡ Some rest = rw d at e in
      let later = found (step_of s b) (bytes ++ b ∷ []) x rest (step_means s bytes b d h) on in
      (b ∷ later.0, subst IsHeadText (append_assoc bytes (b ∷ []) later.0) later.1, ap (λ u. b ∷ u) later.2))
]

-- where an end is found, the stream has a head
pub head_found : (stream rest : List ℕ) → rest_from Before stream ≡ Some rest → (text : List ℕ) × HasHead stream text rest
head_found stream rest e =
    let nothing : OnlyEmpty [] = record { before = []; before_empty = All-nil IsEmptyLine; bytes_is = refl } in
    let head = found Before [] stream rest nothing e in
    (head.0, record { head = head.1; stream_is = head.2 })
