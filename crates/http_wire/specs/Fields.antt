-- The fields of a head, and the length of the body that they announce (RFC 9110, section 8.6; RFC 9112, section 6).
use Rattle.std.specs.Prelude.{◌≡◌, ◌≢◌, ℕ, ◌^◌, ◌<◌, ◌≤◌, Bool, List, [], ◌∷◌, Result, Ok, Err, map, filter, codes}
use Rattle.std.specs.Str.{str_eq_ignore_ascii_case}
use Rattle.std.specs.Str.Parse.{IsNumeral, digits_value}
use Rattle.http_wire.specs.declared.faults.LengthFault.{LengthFault}
use Rattle.http_wire.specs.declared.faults.LengthFault.TheVariants.{CodingRefused, LengthBad, BodyTooLarge}

-- the field has that name, ASCII case ignored
abbrev pub is_named : List ℕ → List ℕ × List ℕ → Bool
is_named name field = str_eq_ignore_ascii_case field.0 name

-- the values of the fields of that name, in order
abbrev pub values_of : List ℕ → List (List ℕ × List ℕ) → List (List ℕ)
values_of name fields = map (λ (f : List ℕ × List ℕ). f.1) (filter (is_named name) fields)

-- the text is digits alone, and writes the number n, which fits 64 bits
pub record WritesLength (text : List ℕ) (n : ℕ) : Type 0 where
  pub numeral : IsNumeral 10 text
  pub value : n ≡ digits_value 10 text
  pub fits : n < 2 ^ 64

-- these values of Content-Length say that the body has n bytes: none says that there is no body, two say nothing
abbrev pub SayLength : List (List ℕ) → ℕ → Type 0
SayLength [] n = n ≡ 0
SayLength (value ∷ []) n = WritesLength value n
SayLength (value ∷ other ∷ values) n = ⊥

-- the fields announce a body of n bytes, which is within the limit
pub record AnnouncesBody (fields : List (List ℕ × List ℕ)) (limit n : ℕ) : Type 0 where
  pub uncoded : values_of (codes "transfer-encoding") fields ≡ []
  pub says : SayLength (values_of (codes "content-length") fields) n
  pub within : n ≤ limit

-- how long the body is that the fields announce, or the first reason why none is read: a transfer coding, values that
-- say no length, a length over the limit
abbrev pub IsBodyLength : Result ℕ LengthFault → List (List ℕ × List ℕ) → ℕ → Type 0
IsBodyLength (Ok n) fields limit = AnnouncesBody fields limit n
IsBodyLength (Err CodingRefused) fields limit = values_of (codes "transfer-encoding") fields ≢ []
IsBodyLength (Err LengthBad) fields limit =
    (values_of (codes "transfer-encoding") fields ≡ []) × ((n : ℕ) → ¬ (SayLength (values_of (codes "content-length") fields) n))
IsBodyLength (Err BodyTooLarge) fields limit =
    (values_of (codes "transfer-encoding") fields ≡ [])
    × ((n : ℕ) × SayLength (values_of (codes "content-length") fields) n × (limit < n))
