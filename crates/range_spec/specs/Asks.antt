-- What the value of a Range field asks for, by RFC 9110, sections 14.1.1 and 14.1.2:
--     ranges-specifier = range-unit "=" range-set
--     int-range = first-pos "-" [ last-pos ]
--     suffix-range = "-" suffix-length
-- The unit is `bytes`, in any case. Commas separate the elements of the set, and an empty one asks for nothing (section 5.6.1).
use Rattle.std.specs.Prelude.{◌≡◌, ℕ, ◌-◌, ◌^◌, ◌≤◌, ◌⊎◌, min, List, [], ◌∷◌, ◌++◌, length, codes, Some, None}
use Rattle.std.specs.List.{All, AllByRecursion, join_with_byte}
use Rattle.std.specs.Str.{str_to_ascii_lowercase}
use Rattle.std.specs.Str.Parse.{IsNumeral, digits_value}
use Rattle.range_spec.specs.declared.grammar.Spec.{Spec}
use Rattle.range_spec.specs.declared.grammar.Spec.TheVariants.{From, Suffix}

-- no last position is below its first, each as it counts: a greater one counts as the greatest `u64`
abbrev pub IsInOrder : Spec → Type 0
IsInOrder (From first (Some last)) = first ≤ last
IsInOrder (From first None) = Unit {0}
IsInOrder (Suffix n) = Unit {0}

-- what a value may ask for: 1 to 16 specs, each in order; longer lists are not understood
pub record IsAskable (specs : List Spec) : Type 0 where
  pub some : 1 ≤ length specs
  pub few : length specs ≤ 16
  pub in_order : All IsInOrder specs

-- one or more decimal digits, and the position that they give: their value, or the greatest `u64` where that is less
pub record IsPosition (digits : List ℕ) (position : ℕ) : Type 0 where
  pub numeral : IsNumeral 10 digits
  pub value : position ≡ min (digits_value 10 digits) (2 ^ 64 - 1)

-- the text of one int-range or suffix-range
abbrev pub IsSpecText : List ℕ → Spec → Type 0
IsSpecText text (From first None) = (a : List ℕ) × IsPosition a first × (text ≡ a ++ codes "-")
IsSpecText text (From first (Some last)) =
    (a : List ℕ) × (b : List ℕ) × IsPosition a first × IsPosition b last × (text ≡ a ++ codes "-" ++ b)
IsSpecText text (Suffix n) = (a : List ℕ) × IsPosition a n × (text ≡ codes "-" ++ a)

-- the text is spaces and tabs
abbrev pub IsBlank : List ℕ → Type 0
IsBlank text = AllByRecursion (λ (byte : ℕ). (byte ≡ 32) ⊎ (byte ≡ 9)) text

-- an element is blanks around nothing or around one spec, and this is what it asks for
abbrev pub IsElement : List ℕ → List Spec → Type 0
IsElement text [] = IsBlank text
IsElement text (spec ∷ []) =
    (before : List ℕ) × (middle : List ℕ) × (after : List ℕ)
    × IsBlank before × IsSpecText middle spec × IsBlank after × (text ≡ before ++ middle ++ after)
IsElement text (spec ∷ other ∷ more) = ⊥

-- these elements ask for these specs, in order
abbrev pub AreElements : List (List ℕ) → List Spec → Type 0
AreElements [] specs = specs ≡ []
AreElements (element ∷ elements) specs =
    (own : List Spec) × (others : List Spec) × IsElement element own × AreElements elements others × (specs ≡ own ++ others)

-- the whole value: `bytes`, an equals sign, and elements separated by commas, which ask for a list that may be asked for
pub record AsksRanges (text : List ℕ) (specs : List Spec) : Type 0 where
  pub unit : List ℕ
  pub elements : List (List ℕ)
  pub parts : text ≡ unit ++ codes "=" ++ join_with_byte 44 elements
  pub bytes_unit : str_to_ascii_lowercase unit ≡ codes "bytes"
  pub asked : AreElements elements specs
  pub askable : IsAskable specs
