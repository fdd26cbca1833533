-- Lemmas on the values of the fields of one name.
use Rattle.std.proofs.Common.{◌≡◌, ℕ, Bool, true, false, List, ◌∷◌, refl}
use Rattle.std.specs.Prelude.{◌↔◌}
use Rattle.std.specs.Str.{str_to_ascii_lowercase}
use Rattle.std.proofs.lemmas.Bool.{iff_false, false_from_ne_true}
use Rattle.std.proofs.lemmas.Slice.Eq.{bytes_eq-Decides}
use Rattle.http_wire.specs.Fields.{is_named, values_of}

-- a test that is false says that the field has another name
pub other_name : (name : List ℕ) (field : List ℕ × List ℕ) (b : Bool)
    → ((b ≡ true) ↔ (str_to_ascii_lowercase field.0 ≡ str_to_ascii_lowercase name)) → b ≡ false → is_named name field ≡ false
other_name name field b test differs =
    let decides = bytes_eq-Decides (str_to_ascii_lowercase field.0) (str_to_ascii_lowercase name) in
    false_from_ne_true (is_named name field) (λ yes. iff_false test differs (decides.0 yes))

-- a field of another name adds no value
pub values_of-other : (name : List ℕ) (field : List ℕ × List ℕ) (fields : List (List ℕ × List ℕ))
    → is_named name field ≡ false → values_of name (field ∷ fields) ≡ values_of name fields
values_of-other name field fields differs = rw differs refl
