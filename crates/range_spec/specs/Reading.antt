-- What the functions that read a value say of the text that they are given and of what follows.
use Rattle.std.specs.Prelude.{◌≡◌, ◌⊎◌, ℕ, ◌<◌, List, [], ◌∷◌, ◌++◌, Option, Some, None, codes, length}
use Rattle.std.specs.List.{AllByRecursion, join_with_byte}
use Rattle.std.specs.Char.{digit_value}
use Rattle.std.specs.Str.{str_to_ascii_lowercase}
use Rattle.std.specs.Str.Parse.{AllDigits, digits_value}
use Rattle.range_spec.specs.declared.grammar.Spec.{Spec}
use Rattle.range_spec.specs.Asks.{AreElements, IsBlank, IsPosition, IsSpecText}

-- ---- bytes

abbrev pub IsDigit : ℕ → Type 0
IsDigit byte = digit_value byte < 10

-- a space or a tab, as blank texts have them
abbrev pub IsBlankByte : ℕ → Type 0
IsBlankByte byte = (byte ≡ 32) ⊎ (byte ≡ 9)

-- what may stand between two specs: a comma, a space or a tab
abbrev pub IsSeparator : ℕ → Type 0
IsSeparator byte = (byte ≡ 44) ⊎ IsBlankByte byte

-- the text doesn't begin with a byte of this kind
abbrev pub BeginsNo : (ℕ → Type 0) → List ℕ → Type 0
BeginsNo P [] = Unit {0}
BeginsNo P (byte ∷ rest) = P byte → ⊥

-- the text begins with a byte of another kind
abbrev pub BeginsOther : (ℕ → Type 0) → List ℕ → Type 0
BeginsOther P [] = ⊥
BeginsOther P (byte ∷ rest) = P byte → ⊥

-- an element ends before the text: with the whole, or at a comma
abbrev pub EndsElement : List ℕ → Type 0
EndsElement [] = Unit {0}
EndsElement (byte ∷ rest) = byte ≡ 44

-- ---- what is at the front

-- the text is a digit with this value, and then the rest
pub record IsDigitBefore (text : List ℕ) (value : ℕ) (rest : List ℕ) : Type 0 where
  pub byte : ℕ
  pub parts : text ≡ byte ∷ rest
  pub value_is : digit_value byte ≡ value
  pub small : value < 10

-- the text is eight digits with this value, and then the rest
pub record AreDigitsBefore (text : List ℕ) (value : ℕ) (rest : List ℕ) : Type 0 where
  pub digits : List ℕ
  pub parts : text ≡ digits ++ rest
  pub eight : length digits ≡ 8
  pub decimal : AllDigits 10 digits
  pub value_is : digits_value 10 digits ≡ value

-- the digits of this position, or none where there is no position
abbrev pub IsPositionIfAny : List ℕ → Option ℕ → Type 0
IsPositionIfAny digits (Some position) = IsPosition digits position
IsPositionIfAny digits None = digits ≡ []

-- the text is those digits, and then the rest
pub record IsPositionBefore (text : List ℕ) (position : Option ℕ) (rest : List ℕ) : Type 0 where
  pub digits : List ℕ
  pub parts : text ≡ digits ++ rest
  pub position_is : IsPositionIfAny digits position

-- the text is that of this spec, and then the rest
pub record IsSpecBefore (text : List ℕ) (spec : Spec) (rest : List ℕ) : Type 0 where
  pub own : List ℕ
  pub parts : text ≡ own ++ rest
  pub spec_is : IsSpecText own spec

-- the text is commas and blanks, and then the rest
pub record AreSeparatorsBefore (text rest : List ℕ) : Type 0 where
  pub separators : List ℕ
  pub parts : text ≡ separators ++ rest
  pub all : AllByRecursion IsSeparator separators

-- the text is blanks, and then the rest
pub record AreBlanksBefore (text rest : List ℕ) : Type 0 where
  pub blanks : List ℕ
  pub parts : text ≡ blanks ++ rest
  pub blank : IsBlank blanks

-- ---- range-sets

-- the value is the unit, an equals sign and this range-set
pub record IsValueOf (text set : List ℕ) : Type 0 where
  pub unit : List ℕ
  pub parts : text ≡ unit ++ codes "=" ++ set
  pub bytes_unit : str_to_ascii_lowercase unit ≡ codes "bytes"

-- the text is elements separated by commas, one at least, which ask for these specs
pub record SetAsksFor (text : List ℕ) (specs : List Spec) : Type 0 where
  pub element : List ℕ
  pub others : List (List ℕ)
  pub parts : text ≡ join_with_byte 44 (element ∷ others)
  pub asked : AreElements (element ∷ others) specs

-- the text asks for these specs, and then for what the rest asks for
pub record IsReadTo (text : List ℕ) (found : List Spec) (rest : List ℕ) : Type 0 where
  pub more : (specs : List Spec) → SetAsksFor rest specs → SetAsksFor text (found ++ specs)
  pub only : (specs : List Spec) → SetAsksFor text specs → (others : List Spec) × SetAsksFor rest others × (specs ≡ found ++ others)
