-- The kinds of bytes exclude each other.
use Rattle.std.proofs.Common.{◌≡◌, ℕ, ◌<◌, List, [], ◌∷◌, subst, arith, inl, inr}
use Rattle.std.specs.List.{AllByRecursion}
use Rattle.std.specs.Char.{digit_value}
use Rattle.std.specs.Str.Parse.{AllDigits}
use Rattle.range_spec.specs.Reading.{IsBlankByte, IsDigit, IsSeparator}

abbrev pub IsNoComma : ℕ → Type 0
IsNoComma byte = byte ≡ 44 → ⊥

pub digit_no_separator : (b : ℕ) → IsDigit b → IsSeparator b → ⊥
digit_no_separator b d s = elim s [
  | inl e ↦ (let h : digit_value 44 < 10 = subst IsDigit e d in omega (arith, h))
  | inr blank ↦ elim blank [
    | inl e ↦ (let h : digit_value 32 < 10 = subst IsDigit e d in omega (arith, h))
    | inr e ↦ (let h : digit_value 9 < 10 = subst IsDigit e d in omega (arith, h))
  ]
]

pub digit_no_comma : (b : ℕ) → IsDigit b → IsNoComma b
digit_no_comma b d e = digit_no_separator b d (inl e)

pub blank_no_comma : (b : ℕ) → IsBlankByte b → IsNoComma b
blank_no_comma b blank e = elim blank [ inl f ↦ omega (arith, e, f) | inr f ↦ omega (arith, e, f) ]

pub all_digits : (ds : List ℕ) → AllDigits 10 ds → AllByRecursion IsDigit ds
all_digits [] h = tt
all_digits (d ∷ ds) h = (h.0, all_digits ds h.1)
