-- Where bytes occur in texts, and in parts of texts.
use Rattle.std.proofs.Common.{◌≡◌, ℕ, ◌+◌, ◌<◌, ◌≤◌, List, [], ◌++◌, length, take, drop, sym, ap, ◌∙◌, arith, append_assoc, append-nil, Option, Some, None, Bool, IsTrue, is_some, subst, ◌-◌}
use Rattle.std.proofs.Math.Seq.{take-append_seam, drop-append_seam}
use Rattle.std.proofs.lemmas.List.{length-append, take-append-drop}
use Rattle.std.specs.Prelude.{slice_range}
use Rattle.std.specs.Str.Iter.{HasSubslice}
use Rattle.memchr.specs.Find.{FindsNeedle}
use Rattle.memchr.proofs.lemmas.MatchLemmas.{OccursAt-part, OccursAt-from_part}

-- the text has these bytes, one after another
abbrev pub OccursIn : List ℕ → List ℕ → Type 0
OccursIn bytes text = HasSubslice text bytes

-- ---- places

-- a place from which on the text is these bytes
pub record IsPlace (bytes text : List ℕ) (k : ℕ) : Type 0 where
  pub fits : k + length bytes ≤ length text
  pub reads : take (length bytes) (drop k text) ≡ bytes

pub place_of : (bytes text : List ℕ) → OccursIn bytes text → (k : ℕ) × IsPlace bytes text k
place_of bytes text o =
    let before = o.0 in let after = o.1 in
    let size : length text ≡ length before + (length bytes + length after) =
    ap length o.2 ∙ length-append before (bytes ++ after) ∙ ap (λ n. length before + n) (length-append bytes after) in
    let rest : drop (length before) text ≡ bytes ++ after = ap (drop (length before)) o.2 ∙ drop-append_seam before (bytes ++ after) in
    (length before, record { fits = omega arith; reads = ap (take (length bytes)) rest ∙ take-append_seam bytes after })

pub from_place : (bytes text : List ℕ) (k : ℕ) → take (length bytes) (drop k text) ≡ bytes → OccursIn bytes text
from_place bytes text k reads =
    let after = drop (length bytes) (drop k text) in
    (take k text, after, sym (ap (λ l. take k text ++ (l ++ after)) (sym reads) ∙ ap (λ l. take k text ++ l) (take-append-drop (length bytes) (drop k text)) ∙ take-append-drop k text))

-- ---- joined texts

pub occurs_within : (bytes before text after : List ℕ) → OccursIn bytes text → OccursIn bytes (before ++ (text ++ after))
occurs_within bytes before text after o = (
  before ++ o.0,
  o.1 ++ after,
  ap (λ l. before ++ (l ++ after)) o.2 ∙ ap (λ l. before ++ l) (append_assoc o.0 (bytes ++ o.1) after ∙ ap (λ l. o.0 ++ l) (append_assoc bytes o.1 after))
      ∙ sym (append_assoc before o.0 (bytes ++ (o.1 ++ after))),
)

pub occurs_before : (bytes a b : List ℕ) → OccursIn bytes a → OccursIn bytes (a ++ b)
occurs_before bytes a b o = occurs_within bytes [] a b o

pub occurs_after : (bytes a b : List ℕ) → OccursIn bytes b → OccursIn bytes (a ++ b)
occurs_after bytes a b o = rw (sym (append-nil b)) (occurs_within bytes a b [] o)

-- ---- parts of texts

-- what is in a part of a text is in the text
pub occurs_in_whole : (bytes text : List ℕ) (a b : ℕ) → OccursIn bytes (slice_range text a b) → OccursIn bytes text
occurs_in_whole bytes text a b o =
    let part = slice_range text a b in
    subst (OccursIn bytes) (ap (λ l. take a text ++ l) (take-append-drop (b - a) (drop a text)) ∙ take-append-drop a text) (occurs_within bytes (take a text) part (drop (b - a) (drop a text)) o)

-- bytes that have others are where those are
pub occurs_through : (mark bytes text : List ℕ) → OccursIn mark bytes → OccursIn bytes text → OccursIn mark text
occurs_through mark bytes text in_bytes o = subst (OccursIn mark) (sym o.2) (occurs_within mark o.0 bytes o.1 in_bytes)

-- ---- a search

pub found_exactly : (bytes text : List ℕ) (found : Option ℕ) (is : Bool) → FindsNeedle text bytes 0 found → is ≡ is_some found → (IsTrue is → OccursIn bytes text) × (OccursIn bytes text → IsTrue is)
found_exactly bytes text None is none e = (
  (λ yes. absurd (cc)),
  (λ o. let p = place_of bytes text o in absurd (none p.0 (omega arith) (omega (arith, p.1.fits)) (OccursAt-from_part text bytes p.0 p.1.fits p.1.reads))),
)
found_exactly bytes text (Some k) is at e = ((λ yes. from_place bytes text k (OccursAt-part text bytes k at.1)), (λ o. e))
