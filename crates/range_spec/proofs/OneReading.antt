-- A value asks for one list of specs.
use Rattle.std.proofs.Common.{◌≡◌, ℕ, List, [], ◌∷◌, ◌++◌, refl, ap, append_assoc, ◌∙◌, sym, subst, inr, Option, Some, None}
use Rattle.std.specs.Prelude.{◌↔◌, IsSome, IfSome}
use Rattle.std.specs.List.{join_with_byte}
use Rattle.std.proofs.lemmas.List.{append-nil}
use Rattle.range_spec.specs.declared.grammar.Spec.{Spec}
use Rattle.range_spec.specs.Asks.{IsBlank, IsElement, AreElements, AsksRanges, IsAskable}
use Rattle.range_spec.specs.Reading.{BeginsNo, BeginsOther, IsBlankByte, IsDigit, IsReadTo, IsSeparator, IsValueOf, SetAsksFor}
use Rattle.range_spec.specs.Understood.{IsUnderstoodAs}
use Rattle.range_spec.specs.declared.grammar.Asked.{Asked}
use Rattle.range_spec.specs.declared.grammar.Asked.TheVariants.{Ignore, Specs}
use Rattle.range_spec.proofs.Bytes.{IsNoComma, digit_no_separator}
use Rattle.range_spec.proofs.Elements.{after_element, element_no_comma, join-cons}
use Rattle.range_spec.proofs.Fronts.{fronts_agree}
use Rattle.range_spec.proofs.Separators.{nothing_asked, nothing_asks}
use Rattle.range_spec.proofs.SpecTexts.{one_spec, spec_begins}
use Rattle.range_spec.proofs.Values.{set_asks, value_asks, value_of}

-- ---- one element

blank_no_digit : (text : List ℕ) → IsBlank text → BeginsNo IsDigit text
blank_no_digit [] blank = tt
blank_no_digit (b ∷ text) blank = λ digit. digit_no_separator b digit (inr blank.0)

begins_no_blank : (text : List ℕ) → BeginsOther IsSeparator text → BeginsNo IsBlankByte text
begins_no_blank [] begins = absurd begins
begins_no_blank (b ∷ text) begins = λ blank. begins (inr blank)

-- blanks have no spec among them
not_blank : (before rest : List ℕ) → IsBlank (before ++ rest) → BeginsOther IsSeparator rest → ⊥
not_blank [] [] blank begins = begins
not_blank [] (b ∷ rest) blank begins = begins (inr blank.0)
not_blank (c ∷ before) rest blank begins = not_blank before rest blank.1 begins

blank_element : (text : List ℕ) (spec : Spec) → IsBlank text → IsElement text (spec ∷ []) → ⊥
blank_element text spec blank p = not_blank p.0 (p.1 ++ p.2) (subst IsBlank (p.6 ∙ append_assoc p.0 p.1 p.2) blank) (spec_begins p.1 p.2 spec p.4)

one_element : (text : List ℕ) (specs others : List Spec) → IsElement text specs → IsElement text others → specs ≡ others
one_element text [] [] p q = refl
one_element text [] (t ∷ []) p q = absurd (blank_element text t p q)
one_element text (s ∷ []) [] p q = absurd (blank_element text s q p)
one_element text (s ∷ []) (t ∷ []) p q =
    let both = fronts_agree IsBlankByte p.0 q.0 (p.1 ++ p.2) (q.1 ++ q.2) p.3 q.3
    (begins_no_blank (p.1 ++ p.2) (spec_begins p.1 p.2 s p.4)) (begins_no_blank (q.1 ++ q.2) (spec_begins q.1 q.2 t q.4))
    (sym (p.6 ∙ append_assoc p.0 p.1 p.2) ∙ q.6 ∙ append_assoc q.0 q.1 q.2) in
    ap (λ spec. spec ∷ []) (one_spec p.1 q.1 p.2 q.2 s t p.4 q.4 (blank_no_digit p.2 p.5) (blank_no_digit q.2 q.5) both.1).0
one_element text (s ∷ s' ∷ ss) others p q = absurd p
one_element text [] (t ∷ t' ∷ ts) p q = absurd q
one_element text (s ∷ []) (t ∷ t' ∷ ts) p q = absurd q

-- ---- one range-set

begins_no_more : (xs : List (List ℕ)) → BeginsNo IsNoComma (after_element xs)
begins_no_more [] = tt
begins_no_more (x ∷ xs) = λ no. no refl

one_list : (xs ys : List (List ℕ)) (specs others : List Spec) → AreElements xs specs → AreElements ys others → after_element xs ≡ after_element ys → specs ≡ others
one_list [] [] specs others p q e = p ∙ sym q
one_list [] (y ∷ ys) specs others p q e = cc
one_list (x ∷ xs) [] specs others p q e = cc
one_list (x ∷ xs) (y ∷ ys) specs others p q e =
    let joined : join_with_byte 44 (x ∷ xs) ≡ join_with_byte 44 (y ∷ ys) = cc in
    let both = fronts_agree IsNoComma x y (after_element xs) (after_element ys) (element_no_comma x p.0 p.2) (element_no_comma y q.0 q.2)
    (begins_no_more xs) (begins_no_more ys) (sym (join-cons x xs) ∙ joined ∙ join-cons y ys) in
    let own : p.0 ≡ q.0 = one_element x p.0 q.0 p.2 (subst (λ t. IsElement t q.0) (sym both.0) q.2) in
    let rest : p.1 ≡ q.1 = one_list xs ys p.1 q.1 p.3 q.3 both.1 in
    p.4 ∙ ap (λ t. t ++ p.1) own ∙ ap (λ t. q.0 ++ t) rest ∙ sym q.4

one_set : (text : List ℕ) (specs others : List Spec) → SetAsksFor text specs → SetAsksFor text others → specs ≡ others
one_set text specs others p q =
    one_list (p.element ∷ p.others) (q.element ∷ q.others) specs others p.asked q.asked (ap (λ t. 44 ∷ t) (sym p.parts ∙ q.parts))

-- ---- one value

pub one_reading : (text : List ℕ) (specs others : List Spec) → AsksRanges text specs → AsksRanges text others → specs ≡ others
one_reading text specs others p q =
    let v = value_of text specs p in
    one_set _ specs others (set_asks text _ specs v p) (set_asks text _ others v q)

-- ---- the answer

-- a range-set that was read to its end asks for what was found
all_found : (set : List ℕ) (found specs : List Spec) → IsReadTo set found [] → SetAsksFor set specs → specs ≡ found
all_found set found specs read p =
    let o = read.only specs p in
    o.2 ∙ ap (λ t. found ++ t) (nothing_asks o.0 o.1) ∙ append-nil found

found_asked : (set : List ℕ) (found : List Spec) → IsReadTo set found [] → SetAsksFor set found
found_asked set found read = subst (SetAsksFor set) (append-nil found) (read.more [] nothing_asked)

-- what was found is answered where it may be asked for
pub answered : (text set : List ℕ) (found : List Spec) (answer : Option (List Spec)) → IsValueOf text set → IsReadTo set found []
    → (IsSome answer ↔ IsAskable found) → IfSome answer (λ specs. specs ≡ found) → (specs : List Spec) → (answer ≡ Some specs) ↔ AsksRanges text specs
answered text set found None v read askable is specs =
    ((λ e. cc), (λ p. cc (askable.1 (subst IsAskable (all_found set found specs read (set_asks text set specs v p)) p.askable))))
answered text set found (Some list) v read askable is specs = (
  (λ e. let same : found ≡ specs = cc in subst (AsksRanges text) same (value_asks text set found v (found_asked set found read) (askable.0 refl))),
  (λ p. let all : specs ≡ found = all_found set found specs read (set_asks text set specs v p) in cc),
)

-- a value has one answer
pub one_answer : (text : List ℕ) (one another : Asked) → IsUnderstoodAs text one → IsUnderstoodAs text another → one ≡ another
one_answer text one (Specs specs) p q = (p specs).1 ((q specs).0 refl)
one_answer text (Specs specs) Ignore p q = sym ((q specs).1 ((p specs).0 refl))
one_answer text Ignore Ignore p q = refl
