-- The text of a spec: what is before its dash, and what is after it.
use Rattle.std.proofs.Common.{◌≡◌, ◌≢◌, ℕ, List, [], ◌∷◌, ◌++◌, length, refl, ap, arith, append_assoc, ◌∙◌, sym, subst, inl, inr, Option, Some, None}
use Rattle.std.specs.Prelude.{codes, IfSome}
use Rattle.std.specs.List.{AllByRecursion}
use Rattle.std.proofs.lemmas.List.{append_cancel_left, append-nil}
use Rattle.range_spec.specs.declared.grammar.Spec.{Spec}
use Rattle.range_spec.specs.declared.grammar.Spec.TheVariants.{From, Suffix}
use Rattle.range_spec.specs.Asks.{IsSpecText}
use Rattle.range_spec.specs.Reading.{BeginsNo, BeginsOther, IsDigit, IsPositionBefore, IsPositionIfAny, IsSeparator, IsSpecBefore}
use Rattle.range_spec.proofs.Bytes.{IsNoComma, all_digits, digit_no_comma, digit_no_separator}
use Rattle.range_spec.proofs.Fronts.{fronts_agree, all_append, all_weaker}

-- the spec with these positions before and after its dash
abbrev spec_with : Option ℕ → Option ℕ → Option Spec
spec_with (Some first) last = Some (From first last)
spec_with None (Some n) = Some (Suffix n)
spec_with None None = None

-- a text that is a spec's, and then the rest
record HasParts (text : List ℕ) (spec : Spec) (rest : List ℕ) : Type 0 where
  before : List ℕ
  after : List ℕ
  first : Option ℕ
  last : Option ℕ
  parts : text ≡ before ++ (codes "-" ++ (after ++ rest))
  first_is : IsPositionIfAny before first
  last_is : IsPositionIfAny after last
  spec_is : spec_with first last ≡ Some spec

parts_of : (text rest : List ℕ) (spec : Spec) → IsSpecText text spec → HasParts (text ++ rest) spec rest
parts_of text rest (From f None) p = record {
  before = p.0;
  after = [];
  first = Some f;
  last = None;
  parts = ap (λ t. t ++ rest) p.2 ∙ append_assoc p.0 (codes "-") rest;
  first_is = p.1;
  last_is = refl;
  spec_is = refl;
}
parts_of text rest (From f (Some l)) p = record {
  before = p.0;
  after = p.1;
  first = Some f;
  last = Some l;
  parts = ap (λ t. t ++ rest) p.4 ∙ append_assoc (p.0 ++ codes "-") p.1 rest ∙ append_assoc p.0 (codes "-") (p.1 ++ rest);
  first_is = p.2;
  last_is = p.3;
  spec_is = refl;
}
parts_of text rest (Suffix n) p = record {
  before = [];
  after = p.0;
  first = None;
  last = Some n;
  parts = ap (λ t. t ++ rest) p.2;
  first_is = refl;
  last_is = p.1;
  spec_is = refl;
}

digits_if_any : (digits : List ℕ) (position : Option ℕ) → IsPositionIfAny digits position → AllByRecursion IsDigit digits
digits_if_any digits None p = subst (AllByRecursion IsDigit) (sym p) tt
digits_if_any digits (Some n) p = all_digits digits p.numeral.1

one_position : (digits : List ℕ) (m n : Option ℕ) → IsPositionIfAny digits m → IsPositionIfAny digits n → m ≡ n
one_position digits None None p q = refl
one_position digits None (Some n) p q = absurd (omega (arith, q.numeral.0, ap length p))
one_position digits (Some m) None p q = absurd (omega (arith, p.numeral.0, ap length q))
one_position digits (Some m) (Some n) p q = ap (λ k. Some k) (p.value ∙ sym q.value)

-- two such texts that are equal are of one spec
pub one_spec : (text text' rest rest' : List ℕ) (spec spec' : Spec) → IsSpecText text spec → IsSpecText text' spec' → BeginsNo IsDigit rest → BeginsNo IsDigit rest'
    → text ++ rest ≡ text' ++ rest' → (spec ≡ spec') × (rest ≡ rest')
one_spec text text' rest rest' spec spec' is is' ended ended' e =
    let p = parts_of text rest spec is in
    let q = parts_of text' rest' spec' is' in
    let firsts = fronts_agree IsDigit p.before q.before (codes "-" ++ (p.after ++ rest)) (codes "-" ++ (q.after ++ rest')) (digits_if_any _ _ p.first_is) (digits_if_any _ _ q.first_is)
    (omega arith) (omega arith) (sym p.parts ∙ e ∙ q.parts) in
    let lasts = fronts_agree IsDigit p.after q.after rest rest' (digits_if_any _ _ p.last_is) (digits_if_any _ _ q.last_is) ended ended'
    (append_cancel_left (codes "-") (p.after ++ rest) (q.after ++ rest') firsts.1) in
    let first : p.first ≡ q.first = one_position q.before p.first q.first (subst (λ t. IsPositionIfAny t p.first) firsts.0 p.first_is) q.first_is in
    let last : p.last ≡ q.last = one_position q.after p.last q.last (subst (λ t. IsPositionIfAny t p.last) lasts.0 p.last_is) q.last_is in
    let both : spec_with p.first p.last ≡ spec_with q.first q.last = cc in
    let same : Some spec ≡ Some spec' = sym p.spec_is ∙ both ∙ q.spec_is in
    (cc, lasts.1)

-- a spec's text begins with a digit or a dash
dash_begins : (digits rest : List ℕ) → AllByRecursion IsDigit digits → BeginsOther IsSeparator (digits ++ (codes "-" ++ rest))
dash_begins [] rest all = λ s. elim s [ inl e ↦ omega (arith, e) | inr blank ↦ elim blank [ inl e ↦ omega (arith, e) | inr e ↦ omega (arith, e) ] ]
dash_begins (d ∷ ds) rest all = digit_no_separator d all.0

pub spec_begins : (text rest : List ℕ) (spec : Spec) → IsSpecText text spec → BeginsOther IsSeparator (text ++ rest)
spec_begins text rest spec is =
    let p = parts_of text rest spec is in
    subst (BeginsOther IsSeparator) (sym p.parts) (dash_begins p.before (p.after ++ rest) (digits_if_any p.before p.first p.first_is))

-- and has no comma
digits_no_comma : (digits : List ℕ) (position : Option ℕ) → IsPositionIfAny digits position → AllByRecursion IsNoComma digits
digits_no_comma digits position is = all_weaker IsDigit IsNoComma digit_no_comma digits (digits_if_any digits position is)

pub spec_no_comma : (text : List ℕ) (spec : Spec) → IsSpecText text spec → AllByRecursion IsNoComma text
spec_no_comma text spec is =
    let p = parts_of text [] spec is in
    subst (AllByRecursion IsNoComma) (sym p.parts ∙ append-nil text)
    (all_append IsNoComma p.before (codes "-" ++ (p.after ++ [])) (digits_no_comma p.before p.first p.first_is)
    ((λ e. omega (arith, e)), all_append IsNoComma p.after [] (digits_no_comma p.after p.last p.last_is) tt))

-- ---- what is read

spec_text : (a b : List ℕ) (first last : Option ℕ) → IsPositionIfAny a first → IsPositionIfAny b last → IfSome (spec_with first last) (IsSpecText (a ++ codes "-" ++ b))
spec_text a b (Some f) None h k = (a, h, ap (λ t. a ++ codes "-" ++ t) k ∙ append-nil (a ++ codes "-"))
spec_text a b (Some f) (Some l) h k = (a, b, h, k, refl)
spec_text a b None (Some n) h k = (b, k, ap (λ t. t ++ codes "-" ++ b) h)
spec_text a b None None h k = tt

-- a dash between these positions
pub spec_before : (text middle after rest : List ℕ) (first last : Option ℕ) (spec : Spec) → IsPositionBefore text first middle → middle ≡ codes "-" ++ after
    → IsPositionBefore after last rest → spec_with first last ≡ Some spec → IsSpecBefore text spec rest
spec_before text middle after rest first last spec p dash q is = record {
  own = p.digits ++ codes "-" ++ q.digits;
  parts =
      p.parts ∙ ap (λ t. p.digits ++ t) (dash ∙ ap (λ t. codes "-" ++ t) q.parts)
      ∙ sym (append_assoc (p.digits ++ codes "-") q.digits rest ∙ append_assoc p.digits (codes "-") (q.digits ++ rest));
  spec_is = subst (λ o. IfSome o (IsSpecText (p.digits ++ codes "-" ++ q.digits))) is (spec_text p.digits q.digits first last p.position_is q.position_is);
}

-- what follows the digits at the front is the same in each reading
read_alike : (text middle rest : List ℕ) (first : Option ℕ) (spec : Spec) → (p : IsPositionBefore text first middle) → BeginsNo IsDigit middle → (q : HasParts text spec rest)
    → (first ≡ q.first) × (middle ≡ codes "-" ++ (q.after ++ rest))
read_alike text middle rest first spec p ended q =
    let both = fronts_agree IsDigit p.digits q.before middle (codes "-" ++ (q.after ++ rest)) (digits_if_any p.digits first p.position_is) (digits_if_any q.before q.first q.first_is)
    ended (omega arith) (sym p.parts ∙ q.parts) in
    (one_position q.before first q.first (subst (λ t. IsPositionIfAny t first) both.0 p.position_is) q.first_is, both.1)

parts_before : (text rest : List ℕ) (spec : Spec) → IsSpecBefore text spec rest → HasParts text spec rest
parts_before text rest spec s = subst (λ t. HasParts t spec rest) (sym s.parts) (parts_of s.own rest spec s.spec_is)

-- no dash
pub no_dash : (text middle : List ℕ) (first : Option ℕ) → IsPositionBefore text first middle → BeginsNo IsDigit middle → ((more : List ℕ) → middle ≢ codes "-" ++ more)
    → (spec : Spec) (rest : List ℕ) → IsSpecBefore text spec rest → ⊥
no_dash text middle first p ended none spec rest s = none _ (read_alike text middle rest first spec p ended (parts_before text rest spec s)).1

-- no position, neither before the dash nor after it
no_spec : (digits rest : List ℕ) (first last : Option ℕ) (spec : Spec) → None ≡ first → IsPositionIfAny digits last → BeginsNo IsDigit (digits ++ rest) → spec_with first last ≡ Some spec → ⊥
no_spec digits rest (Some f) last spec n is ended e = cc
no_spec digits rest None None spec n is ended e = cc
no_spec [] rest None (Some l) spec n is ended e = omega (arith, is.numeral.0)
no_spec (d ∷ digits) rest None (Some l) spec n is ended e = ended is.numeral.1.0

pub no_positions : (text middle after end : List ℕ) → IsPositionBefore text None middle → BeginsNo IsDigit middle → middle ≡ codes "-" ++ after
    → IsPositionBefore after None end → BeginsNo IsDigit end → (spec : Spec) (rest : List ℕ) → IsSpecBefore text spec rest → ⊥
no_positions text middle after end p ended dash q ended' spec rest s =
    let parts = parts_before text rest spec s in
    let alike = read_alike text middle rest None spec p ended parts in
    let after_is : after ≡ parts.after ++ rest = append_cancel_left (codes "-") after (parts.after ++ rest) (sym dash ∙ alike.1) in
    let end_is : after ≡ end = q.parts ∙ ap (λ t. t ++ end) q.position_is in
    no_spec parts.after rest parts.first parts.last spec alike.0 parts.last_is (subst (BeginsNo IsDigit) (sym end_is ∙ after_is) ended') parts.spec_is
