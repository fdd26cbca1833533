-- The element at the front of a range-set.
use Rattle.std.proofs.Common.{◌≡◌, ℕ, List, [], ◌∷◌, ◌++◌, refl, ap, append_assoc, ◌∙◌, sym, subst, inl, inr}
use Rattle.std.specs.List.{AllByRecursion, join_with_byte}
use Rattle.std.proofs.lemmas.List.{append-nil}
use Rattle.range_spec.specs.declared.grammar.Spec.{Spec}
use Rattle.range_spec.specs.Asks.{IsSpecText, IsBlank, IsElement, AreElements}
use Rattle.range_spec.specs.Reading.{BeginsNo, BeginsOther, IsBlankByte, IsDigit, IsSeparator, SetAsksFor}
use Rattle.range_spec.proofs.Bytes.{IsNoComma, blank_no_comma, digit_no_separator}
use Rattle.range_spec.proofs.Fronts.{all_append, all_weaker}
use Rattle.range_spec.proofs.SpecTexts.{spec_no_comma}

-- an element has no comma
blank_no_commas : (text : List ℕ) → IsBlank text → AllByRecursion IsNoComma text
blank_no_commas text blank = all_weaker IsBlankByte IsNoComma blank_no_comma text blank

pub element_no_comma : (text : List ℕ) (specs : List Spec) → IsElement text specs → AllByRecursion IsNoComma text
element_no_comma text [] p = blank_no_commas text p
element_no_comma text (spec ∷ []) p =
    rw p.6 (all_append IsNoComma (p.0 ++ p.1) p.2 (all_append IsNoComma p.0 p.1 (blank_no_commas p.0 p.3) (spec_no_comma p.1 spec p.4)) (blank_no_commas p.2 p.5))
element_no_comma text (spec ∷ other ∷ more) p = absurd p

-- what follows an element: a comma and the elements after it
abbrev pub after_element : List (List ℕ) → List ℕ
after_element [] = []
after_element (x ∷ xs) = 44 ∷ join_with_byte 44 (x ∷ xs)

pub join-cons : (x : List ℕ) (xs : List (List ℕ)) → join_with_byte 44 (x ∷ xs) ≡ x ++ after_element xs
join-cons x [] = sym (append-nil x)
join-cons x (y ∷ xs) = refl

-- after blanks there is no digit then
pub tail_no_digit : (blanks : List ℕ) (xs : List (List ℕ)) → IsBlank blanks → BeginsNo IsDigit (blanks ++ after_element xs)
tail_no_digit [] [] blank = tt
tail_no_digit [] (x ∷ xs) blank = λ digit. digit_no_separator 44 digit (inl refl)
tail_no_digit (b ∷ blanks) xs blank = λ digit. digit_no_separator b digit (inr blank.0)

pub tail_no_blank : (xs : List (List ℕ)) → BeginsNo IsBlankByte (after_element xs)
tail_no_blank [] = tt
tail_no_blank (x ∷ xs) = λ blank. blank_no_comma 44 blank refl

-- an element whose text begins with no separator
pub record IsFrontElement (text : List ℕ) (specs : List Spec) : Type 0 where
  pub spec : Spec
  pub own : List ℕ
  pub blanks : List ℕ
  pub elements : List (List ℕ)
  pub others : List Spec
  pub spec_is : IsSpecText own spec
  pub blank : IsBlank blanks
  pub asked : AreElements elements others
  pub parts : text ≡ own ++ (blanks ++ after_element elements)
  pub specs_are : specs ≡ spec ∷ others

no_element : (x : List ℕ) (xs : List (List ℕ)) → IsBlank x → BeginsOther IsSeparator (x ++ after_element xs) → ⊥
no_element [] [] blank begins = begins
no_element [] (y ∷ xs) blank begins = begins (inl refl)
no_element (b ∷ x) xs blank begins = begins (inr blank.0)

element_with_spec : (text before own blanks : List ℕ) (spec : Spec) (xs : List (List ℕ)) (others : List Spec) → BeginsOther IsSeparator text → IsBlank before → IsSpecText own spec → IsBlank blanks
    → AreElements xs others → text ≡ (before ++ own ++ blanks) ++ after_element xs → IsFrontElement text (spec ∷ others)
element_with_spec text [] own blanks spec xs others begins front is blank asked e = record {
  spec = spec;
  own = own;
  blanks = blanks;
  elements = xs;
  others = others;
  spec_is = is;
  blank = blank;
  asked = asked;
  parts = e ∙ append_assoc own blanks (after_element xs);
  specs_are = refl;
}
element_with_spec text (b ∷ before) own blanks spec xs others begins front is blank asked e = absurd (subst (BeginsOther IsSeparator) e begins (inr front.0))

front_of : (text x : List ℕ) (xs : List (List ℕ)) (own others : List Spec) → BeginsOther IsSeparator text → IsElement x own → AreElements xs others → text ≡ x ++ after_element xs
    → IsFrontElement text (own ++ others)
front_of text x xs [] others begins p asked e = absurd (no_element x xs p (subst (BeginsOther IsSeparator) e begins))
front_of text x xs (spec ∷ []) others begins p asked e =
    element_with_spec text p.0 p.1 p.2 spec xs others begins p.3 p.4 p.5 asked (e ∙ ap (λ t. t ++ after_element xs) p.6)
front_of text x xs (spec ∷ other ∷ more) others begins p asked e = absurd p

pub front_element : (text : List ℕ) (specs : List Spec) → BeginsOther IsSeparator text → SetAsksFor text specs → IsFrontElement text specs
front_element text specs begins p =
    subst (IsFrontElement text) (sym p.asked.4)
    (front_of text p.element p.others p.asked.0 p.asked.1 begins p.asked.2 p.asked.3 (p.parts ∙ join-cons p.element p.others))
