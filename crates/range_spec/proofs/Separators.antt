-- Commas and blanks ask for nothing.
use Rattle.std.proofs.Common.{◌≡◌, ℕ, List, [], ◌∷◌, ◌++◌, refl, ap, append_assoc, ◌∙◌, sym, subst, inl, inr, arith, true, false, Result, Ok, Err, length, length-append, ◌+◌, ◌<◌, ◌≤◌}
use Rattle.std.specs.Prelude.{is_ok, OnErr, OnOk}
use Rattle.std.proofs.lemmas.List.{append-nil}
use Rattle.range_spec.specs.declared.grammar.Spec.{Spec}
use Rattle.range_spec.specs.Asks.{IsSpecText, IsBlank, IsElement, AreElements}
use Rattle.range_spec.specs.Reading.{AreBlanksBefore, BeginsOther, IsBlankByte, IsReadTo, IsSeparator, SetAsksFor}
use Rattle.range_spec.proofs.Bytes.{blank_no_comma}
use Rattle.range_spec.proofs.Fronts.{all_append}
use Rattle.range_spec.proofs.Elements.{after_element, element_no_comma, join-cons}
use Rattle.range_spec.proofs.SpecTexts.{spec_begins}

-- ---- the empty text

pub nothing_asked : SetAsksFor [] []
nothing_asked = record { element = []; others = []; parts = refl; asked = ([], [], tt, refl, refl) }

spec_somewhere : (before own after : List ℕ) (spec : Spec) → IsSpecText own spec → [] ≡ before ++ own ++ after → ⊥
spec_somewhere [] own after spec is e = subst (BeginsOther IsSeparator) (sym e) (spec_begins own after spec is)
spec_somewhere (b ∷ before) own after spec is e = cc

empty_element : (specs : List Spec) → IsElement [] specs → specs ≡ []
empty_element [] p = refl
empty_element (spec ∷ []) p = absurd (spec_somewhere p.0 p.1 p.2 spec p.4 p.6)
empty_element (spec ∷ other ∷ more) p = absurd p

-- elements of which the first is empty
others_asked : (xs : List (List ℕ)) (specs : List Spec) → (asked : AreElements ([] ∷ xs) specs) → specs ≡ asked.1
others_asked xs specs asked = asked.4 ∙ ap (λ t. t ++ asked.1) (empty_element asked.0 asked.2)

nothing_in : (x : List ℕ) (xs : List (List ℕ)) (specs : List Spec) → [] ≡ x ++ after_element xs → AreElements (x ∷ xs) specs → specs ≡ []
nothing_in [] [] specs e asked = others_asked [] specs asked ∙ asked.3
nothing_in [] (y ∷ xs) specs e asked = cc
nothing_in (c ∷ x) xs specs e asked = cc

pub nothing_asks : (specs : List Spec) → SetAsksFor [] specs → specs ≡ []
nothing_asks specs p = nothing_in p.element p.others specs (p.parts ∙ join-cons p.element p.others) p.asked

-- ---- a comma

pub comma_more : (rest : List ℕ) (specs : List Spec) → SetAsksFor rest specs → SetAsksFor (44 ∷ rest) specs
comma_more rest specs p = record {
  element = [];
  others = p.element ∷ p.others;
  parts = ap (λ t. 44 ∷ t) p.parts;
  asked = ([], specs, tt, p.asked, refl);
}

comma_in : (rest x : List ℕ) (xs : List (List ℕ)) (specs : List Spec) → 44 ∷ rest ≡ x ++ after_element xs → AreElements (x ∷ xs) specs → SetAsksFor rest specs
comma_in rest [] [] specs e asked = cc
comma_in rest [] (y ∷ xs) specs e asked = record {
  element = y;
  others = xs;
  parts = cc;
  asked = subst (AreElements (y ∷ xs)) (sym (others_asked (y ∷ xs) specs asked)) asked.3;
}
comma_in rest (c ∷ x) xs specs e asked = let comma : c ≡ 44 = cc in absurd ((element_no_comma (c ∷ x) asked.0 asked.2).0 comma)

pub comma_only : (rest : List ℕ) (specs : List Spec) → SetAsksFor (44 ∷ rest) specs → SetAsksFor rest specs
comma_only rest specs p = comma_in rest p.element p.others specs (p.parts ∙ join-cons p.element p.others) p.asked

-- ---- a blank

blank_element : (b : ℕ) (text : List ℕ) (specs : List Spec) → IsBlankByte b → IsElement text specs → IsElement (b ∷ text) specs
blank_element b text [] blank p = (blank, p)
blank_element b text (spec ∷ []) blank p = (b ∷ p.0, p.1, p.2, (blank, p.3), p.4, p.5, ap (λ t. b ∷ t) p.6)
blank_element b text (spec ∷ other ∷ more) blank p = p

blank_more : (b : ℕ) (rest : List ℕ) (specs : List Spec) → IsBlankByte b → SetAsksFor rest specs → SetAsksFor (b ∷ rest) specs
blank_more b rest specs blank p = record {
  element = b ∷ p.element;
  others = p.others;
  parts = ap (λ t. b ∷ t) (p.parts ∙ join-cons p.element p.others) ∙ sym (join-cons (b ∷ p.element) p.others);
  asked = (p.asked.0, p.asked.1, blank_element b p.element p.asked.0 blank p.asked.2, p.asked.3, p.asked.4);
}

less_before : (b : ℕ) (text before own after : List ℕ) (spec : Spec) → IsBlankByte b → IsBlank before → IsSpecText own spec → IsBlank after → b ∷ text ≡ before ++ own ++ after
    → IsElement text (spec ∷ [])
less_before b text [] own after spec blank front is end e = absurd (subst (BeginsOther IsSeparator) (sym e) (spec_begins own after spec is) (inr blank))
less_before b text (c ∷ before) own after spec blank front is end e = (before, own, after, front.1, is, end, cc)

less_element : (b : ℕ) (text : List ℕ) (specs : List Spec) → IsBlankByte b → IsElement (b ∷ text) specs → IsElement text specs
less_element b text [] blank p = p.1
less_element b text (spec ∷ []) blank p = less_before b text p.0 p.1 p.2 spec blank p.3 p.4 p.5 p.6
less_element b text (spec ∷ other ∷ more) blank p = p

blank_in : (b : ℕ) (rest x : List ℕ) (xs : List (List ℕ)) (specs : List Spec) → IsBlankByte b → b ∷ rest ≡ x ++ after_element xs → AreElements (x ∷ xs) specs → SetAsksFor rest specs
blank_in b rest [] [] specs blank e asked = cc
blank_in b rest [] (y ∷ xs) specs blank e asked = let comma : b ≡ 44 = cc in absurd (blank_no_comma b blank comma)
blank_in b rest (c ∷ x) xs specs blank e asked =
    let same : b ≡ c = cc in
    let others : rest ≡ x ++ after_element xs = cc in
    record {
      element = x;
      others = xs;
      parts = others ∙ sym (join-cons x xs);
      asked = (asked.0, asked.1, less_element c x asked.0 (subst IsBlankByte same blank) asked.2, asked.3, asked.4);
    }

blank_only : (b : ℕ) (rest : List ℕ) (specs : List Spec) → IsBlankByte b → SetAsksFor (b ∷ rest) specs → SetAsksFor rest specs
blank_only b rest specs blank p = blank_in b rest p.element p.others specs blank (p.parts ∙ join-cons p.element p.others) p.asked

-- ---- what is read

read_further : (text : List ℕ) (xs : List Spec) (rest : List ℕ) (ys : List Spec) (end : List ℕ) → IsReadTo text xs rest → IsReadTo rest ys end → IsReadTo text (xs ++ ys) end
read_further text xs rest ys end first second = record {
  more = λ specs p. subst (SetAsksFor text) (sym (append_assoc xs ys specs)) (first.more (ys ++ specs) (second.more specs p));
  only = λ specs p.
      let one = first.only specs p in
      let two = second.only one.0 one.1 in
      (two.0, two.1, one.2 ∙ ap (λ t. xs ++ t) two.2 ∙ sym (append_assoc xs ys two.0));
}

separator_read : (b : ℕ) (rest : List ℕ) → IsSeparator b → IsReadTo (b ∷ rest) [] rest
separator_read b rest (inl comma) = record {
  more = λ specs p. subst (λ c. SetAsksFor (c ∷ rest) specs) (sym comma) (comma_more rest specs p);
  only = λ specs p. (specs, comma_only rest specs (subst (λ c. SetAsksFor (c ∷ rest) specs) comma p), refl);
}
separator_read b rest (inr blank) = record {
  more = λ specs p. blank_more b rest specs blank p;
  only = λ specs p. (specs, blank_only b rest specs blank p, refl);
}

-- one more separator
pub separator_found : (text rest : List ℕ) (b : ℕ) (after : List ℕ) → IsReadTo text [] rest → rest ≡ b ∷ after → IsSeparator b → IsReadTo text [] after
separator_found text rest b after read e separator = read_further text [] rest [] after read (subst (λ t. IsReadTo t [] after) (sym e) (separator_read b after separator))

-- one more blank after a spec
pub blank_found : (text rest : List ℕ) (b : ℕ) (after : List ℕ) → AreBlanksBefore text rest → rest ≡ b ∷ after → IsBlankByte b → AreBlanksBefore text after
blank_found text rest b after read e blank = record {
  blanks = read.blanks ++ b ∷ [];
  parts = read.parts ∙ ap (λ t. read.blanks ++ t) e ∙ sym (append_assoc read.blanks (b ∷ []) after);
  blank = all_append IsBlankByte read.blanks (b ∷ []) read.blank (blank, tt);
}

-- a spec, and the separators after its element
pub spec_found : (set : List ℕ) (found : List Spec) (rest : List ℕ) (spec : Spec) (after end : List ℕ) (all : List Spec) → IsReadTo set found rest → IsReadTo rest (spec ∷ []) after
    → all ≡ found ++ spec ∷ [] → IsReadTo after [] end → IsReadTo set all end
spec_found set found rest spec after end all read one pushed skipped =
    subst (λ specs. IsReadTo set specs end) (append-nil (found ++ spec ∷ []) ∙ sym pushed)
    (read_further set (found ++ spec ∷ []) after [] end (read_further set found rest (spec ∷ []) after read one) skipped)

pub if_ok : {T E : Type 0} (r : Result T E) (P : Type 0) → true ≡ is_ok r → OnOk r P → P
if_ok (Ok x) P ok on = on
if_ok (Err x) P ok on = cc

pub if_err : {T E : Type 0} (r : Result T E) (P : Type 0) → false ≡ is_ok r → OnErr r P → P
if_err (Ok x) P err on = cc
if_err (Err x) P err on = on

-- one spec more than there is room for
pub read_past : (set : List ℕ) (found : List Spec) (rest : List ℕ) (spec : Spec) (after : List ℕ) → IsReadTo set found rest → IsReadTo rest (spec ∷ []) after → 16 ≤ length found
    → (specs : List Spec) → SetAsksFor set specs → 16 < length specs
read_past set found rest spec after read one full specs p =
    let others = read.only specs p in
    let more = one.only others.0 others.1 in
    let size : length specs ≡ length found + (1 + length more.0) = ap length (others.2 ∙ ap (λ t. found ++ t) more.2) ∙ length-append found (spec ∷ more.0) ∙ (omega arith) in
    omega arith
