-- Lemmas on how much of a text went out.
use Rattle.std.proofs.Common.{◌≡◌, ℕ, ◌+◌, ◌-◌, ◌^◌, ◌<◌, ◌≤◌, min, List, [], ◌++◌, length, length-append, take, drop, get_or, Option, slice_range, sym, ap, ◌∙◌, subst, append_assoc, append-nil, arith}
use Rattle.std.specs.Io.KnownBytes.{Appends}
use Rattle.std.specs.List.{flat_map}
use Rattle.std.proofs.lemmas.List.Concat.{flat_map-append}
use Rattle.std.proofs.Math.Seq.{take-append-add}
use Rattle.std.proofs.KnownBytes.{Appends-trans}
use Rattle.std.proofs.lemmas.List.{take-append-drop, length-take-le, drop_more}
use Rattle.std.proofs.lemmas.Slice.{between_to_end}
use Rattle.http_wire.specs.Sending.{Sent}

-- the front, and what a write took behind it
pub take_further : (bytes : List ℕ) (at count : ℕ) → at ≤ length bytes
    → take (at + count) bytes ≡ take at bytes ++ take count (slice_range bytes at (length bytes))
take_further bytes at count h =
    ap (take (at + count)) (sym (take-append-drop at bytes))
    ∙ ap (λ n. take (n + count) (take at bytes ++ drop at bytes)) (sym (length-take-le at bytes h))
    ∙ take-append-add (take at bytes) (drop at bytes) count
    ∙ ap (λ u. take at bytes ++ take count u) (sym (between_to_end bytes at (length bytes) (omega arith)))

-- a write behind what was written
pub writes_further : (start held new : Option (List ℕ)) (bytes : List ℕ) (at count : ℕ) → at ≤ length bytes
    → Appends start held (take at bytes) → Appends held new (take count (slice_range bytes at (length bytes)))
    → Appends start new (take (at + count) bytes)
writes_further start held new bytes at count h before more =
    subst (Appends start new) (sym (take_further bytes at count h)) (Appends-trans start held new _ _ before more)

-- with more behind it, still some is left
pub some_left : (rest more : List ℕ) → 0 < length rest → 0 < length (rest ++ more)
some_left rest more h = omega (arith, h, length-append rest more)

-- one more piece is put
pub sent_more : (start held : Option (List ℕ)) (text : List ℕ) (count : ℕ) (rest more : List ℕ) → Sent start held text count rest
    → Sent start held (text ++ more) count (rest ++ more)
sent_more start held text count rest more h = record {
  gone = h.gone;
  text_is = ap (λ u. u ++ more) h.text_is ∙ append_assoc h.gone rest more;
  count_is = h.count_is;
  appended = h.appended;
}

-- a front of what was put goes out
pub sent_some : (start held new : Option (List ℕ)) (text : List ℕ) (count : ℕ) (rest : List ℕ) (n : ℕ) → Sent start held text count rest
    → n ≤ length rest → Appends held new (take n rest) → Sent start new text (min (count + n) (2 ^ 64 - 1)) (drop n rest)
sent_some start held new text count rest n h fits more = record {
  gone = h.gone ++ take n rest;
  text_is = h.text_is ∙ ap (λ u. h.gone ++ u) (sym (take-append-drop n rest)) ∙ sym (append_assoc h.gone (take n rest) (drop n rest));
  count_is = omega (arith, h.count_is, length-append h.gone (take n rest), length-take-le n rest fits);
  appended = Appends-trans start held new h.gone (take n rest) h.appended more;
}

-- all that was put goes out
pub sent_all : (start held new : Option (List ℕ)) (text : List ℕ) (count : ℕ) (rest : List ℕ) → Sent start held text count rest
    → Appends held new rest → Sent start new text (min (count + length rest) (2 ^ 64 - 1)) []
sent_all start held new text count rest h more = record {
  gone = h.gone ++ rest;
  text_is = h.text_is ∙ sym (append-nil (h.gone ++ rest));
  count_is = omega (arith, h.count_is, length-append h.gone rest);
  appended = Appends-trans start held new h.gone rest h.appended more;
}

-- where nothing is left, the whole text went out
pub sent_whole : (start held : Option (List ℕ)) (text : List ℕ) (count : ℕ) → Sent start held text count [] → Appends start held text
sent_whole start held text count h = subst (Appends start held) (sym (h.text_is ∙ append-nil h.gone)) h.appended

-- the texts of the items up to one, of that one, and of those behind it
pub texts_split : {A : Type 0} (text : A → List ℕ) (items : List A) (i : ℕ) (d : A) → i < length items
    → flat_map text items ≡ (flat_map text (take i items) ++ text (get_or items i d)) ++ flat_map text (drop (i + 1) items)
texts_split text items i d h =
    ap (flat_map text) (sym (take-append-drop i items))
    ∙ flat_map-append text (take i items) (drop i items)
    ∙ ap (λ u. flat_map text (take i items) ++ flat_map text u) (drop_more items i d h)
    ∙ sym (append_assoc (flat_map text (take i items)) (text (get_or items i d)) (flat_map text (drop (i + 1) items)))
