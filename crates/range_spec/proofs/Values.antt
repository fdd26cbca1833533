-- A value: its unit, and its range-set.
use Rattle.std.proofs.Common.{◌≡◌, ◌≢◌, ℕ, ◌≤◌, List, [], ◌∷◌, ◌++◌, length, take, drop, refl, ap, arith, append_assoc, ◌∙◌, sym, subst, Option, Some, None}
use Rattle.std.specs.Prelude.{codes, MatchOption, IfNone}
use Rattle.std.specs.List.{join_with_byte}
use Rattle.std.specs.Str.{str_to_ascii_lowercase}
use Rattle.std.specs.Char.{to_ascii_lowercase}
use Rattle.std.proofs.lemmas.List.{append_cancel_left, drop_at, length-map, take_at}
use Rattle.range_spec.specs.declared.grammar.Spec.{Spec}
use Rattle.range_spec.specs.Asks.{AreElements, AsksRanges, IsAskable}
use Rattle.range_spec.specs.Reading.{IsValueOf, SetAsksFor}

unit_is : (text set : List ℕ) → (v : IsValueOf text set) → v.unit ≡ take 5 text
unit_is text set v =
    let five : length v.unit ≡ 5 = sym (length-map v.unit to_ascii_lowercase) ∙ ap length v.bytes_unit in
    sym (ap (take 5) (v.parts ∙ append_assoc v.unit (codes "=") set) ∙ take_at v.unit (codes "=" ++ set) 5 five)

rest_is : (text set : List ℕ) → IsValueOf text set → drop 5 text ≡ codes "=" ++ set
rest_is text set v =
    let five : length v.unit ≡ 5 = sym (length-map v.unit to_ascii_lowercase) ∙ ap length v.bytes_unit in
    ap (drop 5) (v.parts ∙ append_assoc v.unit (codes "=") set) ∙ drop_at v.unit (codes "=" ++ set) 5 five

-- it has one range-set
one_value : (text set set' : List ℕ) → IsValueOf text set → IsValueOf text set' → set ≡ set'
one_value text set set' p q = append_cancel_left (codes "=") set set' (sym (rest_is text set p) ∙ rest_is text set' q)

-- where it is no value
pub other_unit : (text unit : List ℕ) → unit ≡ take 5 text → (str_to_ascii_lowercase unit ≡ codes "bytes" → ⊥) → (set : List ℕ) → IsValueOf text set → ⊥
other_unit text unit is other set v = other (ap str_to_ascii_lowercase (is ∙ sym (unit_is text set v)) ∙ v.bytes_unit)

pub no_equals : (text rest : List ℕ) → rest ≡ drop 5 text → ((more : List ℕ) → rest ≢ codes "=" ++ more) → (set : List ℕ) → IsValueOf text set → ⊥
no_equals text rest is none set v = none set (is ∙ rest_is text set v)

pub if_none : {A : Type 0} (o : Option A) (P : Type 0) (Q : A → Type 0) (N : Type 0) → MatchOption o P Q → (P → N) → IfNone o N
if_none None P Q N m f = f m
if_none (Some x) P Q N m f = tt

-- ---- what it asks for

pub value_of : (text : List ℕ) (specs : List Spec) → (p : AsksRanges text specs) → IsValueOf text (join_with_byte 44 p.elements)
value_of text specs p = record { unit = p.unit; parts = p.parts; bytes_unit = p.bytes_unit }

set_of : (elements : List (List ℕ)) (specs : List Spec) → AreElements elements specs → 1 ≤ length specs → SetAsksFor (join_with_byte 44 elements) specs
set_of [] specs p some = let none : length specs ≡ 0 = ap length p in absurd (omega (arith, some, none))
set_of (x ∷ xs) specs p some = record { element = x; others = xs; parts = refl; asked = p }

pub set_asks : (text set : List ℕ) (specs : List Spec) → IsValueOf text set → AsksRanges text specs → SetAsksFor set specs
set_asks text set specs v p =
    subst (λ t. SetAsksFor t specs) (one_value text (join_with_byte 44 p.elements) set (value_of text specs p) v) (set_of p.elements specs p.asked p.askable.some)

pub value_asks : (text set : List ℕ) (specs : List Spec) → IsValueOf text set → SetAsksFor set specs → IsAskable specs → AsksRanges text specs
value_asks text set specs v p askable = record {
  unit = v.unit;
  elements = p.element ∷ p.others;
  parts = v.parts ∙ ap (λ t. v.unit ++ codes "=" ++ t) p.parts;
  bytes_unit = v.bytes_unit;
  asked = p.asked;
  askable = askable;
}
