-- The objects that bodies are.
use Rattle.std.proofs.Common.{◌≡◌, ℕ, true, List, Option, None, refl}
use Rattle.std.specs.Prelude.{option_and_then}
use Rattle.std.specs.Str.{IsUtf8, is_utf8}
use Rattle.std.proofs.lemmas.Bool.{false_from_ne_true}
use Rattle.std.proofs.lemmas.Str.{IsUtf8-from_is_utf8, is_utf8-from_IsUtf8}
use Rattle.serde_json.specs.Data.{Data, null, boolean, number, string, array, object}
use Rattle.serde_json.specs.Find.{as_object, get, get_member}
use Rattle.serde_json.specs.Read.{read}
use Rattle.host_api.specs.Bodies.{object_of}

-- a text has the members of the value that is read
pub object_of_text : (body text : List ℕ) (found : Option Data) → text ≡ body → IsUtf8 body → read text ≡ found → object_of body ≡ option_and_then as_object found
object_of_text body text found same utf8 is = rw (is_utf8-from_IsUtf8 body utf8, ← same, is) refl

-- what was read as text is UTF-8
pub text_is_utf8 : (body : List ℕ) → IsUtf8 body → is_utf8 body ≡ true
text_is_utf8 body utf8 = is_utf8-from_IsUtf8 body utf8

-- what is no text has none
pub object_of_bytes : (body : List ℕ) → (IsUtf8 body → ⊥) → object_of body ≡ None
object_of_bytes body none = rw (false_from_ne_true (is_utf8 body) (λ test. none (IsUtf8-from_is_utf8 body test))) refl

-- a member is looked up in what is an object
pub get_in_object : (key : List ℕ) (d : Data) → get key d ≡ option_and_then (get_member key) (as_object d)
get_in_object key null = refl
get_in_object key (boolean b) = refl
get_in_object key (number n) = refl
get_in_object key (string s) = refl
get_in_object key (array ds) = refl
get_in_object key (object ms) = refl
