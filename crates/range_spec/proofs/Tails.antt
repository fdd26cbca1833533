-- The reading of one element with a spec.
use Rattle.std.proofs.Common.{◌≡◌, ℕ, List, [], ◌∷◌, ◌++◌, refl, ap, append_assoc, ◌∙◌, sym, subst}
use Rattle.range_spec.specs.declared.grammar.Spec.{Spec}
use Rattle.range_spec.specs.Asks.{AreElements}
use Rattle.range_spec.specs.Reading.{AreBlanksBefore, BeginsNo, BeginsOther, EndsElement, IsBlankByte, IsDigit, IsReadTo, IsSeparator, IsSpecBefore, SetAsksFor}
use Rattle.range_spec.proofs.Elements.{IsFrontElement, after_element, front_element, join-cons, tail_no_blank, tail_no_digit}
use Rattle.range_spec.proofs.Fronts.{fronts_agree}
use Rattle.range_spec.proofs.Separators.{comma_more, comma_only, nothing_asked, nothing_asks}
use Rattle.range_spec.proofs.SpecTexts.{one_spec, spec_begins}

-- what a tail asks for is asked for by the elements after the comma
record IsTailOf (rest : List ℕ) (specs : List Spec) : Type 0 where
  elements : List (List ℕ)
  parts : rest ≡ after_element elements
  asked : AreElements elements specs

tail_of : (rest : List ℕ) (specs : List Spec) → EndsElement rest → SetAsksFor rest specs → IsTailOf rest specs
tail_of [] specs tail p = record { elements = []; parts = refl; asked = nothing_asks specs p }
tail_of (b ∷ rest) specs comma p =
    let q = comma_only rest specs (subst (λ c. SetAsksFor (c ∷ rest) specs) comma p) in
    let parts = q.parts in
    record { elements = q.element ∷ q.others; parts = cc; asked = q.asked }

set_of_tail : (elements : List (List ℕ)) (specs : List Spec) → AreElements elements specs → SetAsksFor (after_element elements) specs
set_of_tail [] specs p = subst (SetAsksFor []) (sym p) nothing_asked
set_of_tail (x ∷ xs) specs p = comma_more _ specs (record { element = x; others = xs; parts = refl; asked = p })

-- in each reading the element has this spec, and the same follows it
read_alike : (text middle rest : List ℕ) (spec : Spec) (specs : List Spec) → IsSpecBefore text spec middle → BeginsNo IsDigit middle → AreBlanksBefore middle rest → BeginsNo IsBlankByte rest
    → (f : IsFrontElement text specs) → (spec ≡ f.spec) × (rest ≡ after_element f.elements)
read_alike text middle rest spec specs s ended b no_blank f =
    let same = one_spec s.own f.own middle (f.blanks ++ after_element f.elements) spec f.spec s.spec_is f.spec_is ended (tail_no_digit f.blanks f.elements f.blank) (sym s.parts ∙ f.parts) in
    let tails = fronts_agree IsBlankByte b.blanks f.blanks rest (after_element f.elements) b.blank f.blank no_blank (tail_no_blank f.elements) (sym b.parts ∙ same.1) in
    (same.0, tails.1)

-- a spec, blanks, and a comma or the end
pub element_read : (text middle rest : List ℕ) (spec : Spec) → IsSpecBefore text spec middle → BeginsNo IsDigit middle → AreBlanksBefore middle rest → BeginsNo IsBlankByte rest → EndsElement rest
    → IsReadTo text (spec ∷ []) rest
element_read text middle rest spec s ended b no_blank tail = record {
  more = λ specs p.
      let t = tail_of rest specs tail p in
      record {
        element = s.own ++ b.blanks;
        others = t.elements;
        parts =
            s.parts ∙ ap (λ t. s.own ++ t) (b.parts ∙ ap (λ t. b.blanks ++ t) t.parts) ∙ sym (append_assoc s.own b.blanks (after_element t.elements))
            ∙ sym (join-cons (s.own ++ b.blanks) t.elements);
        asked = (spec ∷ [], specs, ([], s.own, b.blanks, tt, s.spec_is, b.blank, refl), t.asked, refl);
      };
  only = λ specs p.
      let f = front_element text specs (subst (BeginsOther IsSeparator) (sym s.parts) (spec_begins s.own middle spec s.spec_is)) p in
      let alike = read_alike text middle rest spec specs s ended b no_blank f in
      (f.others, subst (λ t. SetAsksFor t f.others) (sym alike.1) (set_of_tail f.elements f.others f.asked), f.specs_are ∙ ap (λ s. s ∷ f.others) (sym alike.0));
}

-- no spec at the front
pub no_spec_read : (text : List ℕ) → BeginsOther IsSeparator text → ((spec : Spec) (rest : List ℕ) → IsSpecBefore text spec rest → ⊥) → (specs : List Spec) → SetAsksFor text specs → ⊥
no_spec_read text begins none specs p =
    let f = front_element text specs begins p in
    none f.spec _ (record { own = f.own; parts = f.parts; spec_is = f.spec_is })

-- neither a comma nor the end
tail_ends : (xs : List (List ℕ)) → EndsElement (after_element xs)
tail_ends [] = tt
tail_ends (x ∷ xs) = refl

pub no_end_read : (text middle rest : List ℕ) (spec : Spec) → IsSpecBefore text spec middle → BeginsNo IsDigit middle → AreBlanksBefore middle rest → BeginsNo IsBlankByte rest
    → (EndsElement rest → ⊥) → (specs : List Spec) → SetAsksFor text specs → ⊥
no_end_read text middle rest spec s ended b no_blank other specs p =
    let f = front_element text specs (subst (BeginsOther IsSeparator) (sym s.parts) (spec_begins s.own middle spec s.spec_is)) p in
    other (subst EndsElement (sym (read_alike text middle rest spec specs s ended b no_blank f).1) (tail_ends f.elements))
