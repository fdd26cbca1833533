-- The hex digits of a digest, and the type of several parts, can be the value of a field.
use Rattle.std.proofs.Common.{◌≡◌, ◌∙◌, ℕ, zero, suc, ◌+◌, ◌==◌, ◌<◌, ◌&&◌, ◌||◌, Bool, not, nat_le, true, List, [], ◌∷◌, ◌++◌, codes, decimal, Ok, refl, sym, subst, arith}
use Rattle.std.specs.Prelude.{IsTrue}
use Rattle.std.specs.List.{list_all}
use Rattle.std.proofs.lemmas.Bool.{and_from, and_parts}
use Rattle.std.proofs.lemmas.Fmt.{decimal_digit}
use Rattle.std.proofs.lemmas.List.Sums.{list_all-from_AllPass}
use Rattle.hex.specs.Hex.{decode_sized, encode_lower, is_hex_digit}
use Rattle.hex.proofs.HexLemmas.{decode_of-ok, decode_sized-ok, decode_sized-twice}
use Rattle.http_wire.specs.FieldTexts.{is_field_text}
use Rattle.host_names.specs.declared.digests.Digest.{Digest}
use Rattle.host_replies.specs.PartsTypes.{IsOfEight, parts_type}

-- the test of a byte of a field's value, written out
abbrev is_visible : ℕ → Bool
is_visible b = b == 9 || (nat_le 32 b && not (b == 127))

digit_is_visible : (b : ℕ) → is_hex_digit b ≡ true → is_visible b ≡ true
digit_is_visible b digit = grind (arith)

digits_are_valid : (text : List ℕ) → list_all is_hex_digit text ≡ true → IsTrue (is_field_text text)
digits_are_valid [] digits = refl
digits_are_valid (b ∷ text) digits =
    let parts = and_parts (is_hex_digit b) (list_all is_hex_digit text) digits in
    and_from (is_visible b) (is_field_text text) (digit_is_visible b parts.0) (digits_are_valid text parts.1)

pub digest_is_digits : (text bytes : List ℕ) → decode_sized text 20 ≡ Ok bytes → list_all is_hex_digit text ≡ true
digest_is_digits text bytes is =
    let whole = sym (decode_sized-twice text 20 (decode_sized-ok text 20 bytes is)) ∙ is in
    list_all-from_AllPass is_hex_digit text (decode_of-ok text bytes whole).1

digest_is_valid : (text bytes : List ℕ) → decode_sized text 20 ≡ Ok bytes → IsTrue (is_field_text text)
digest_is_valid text bytes is = digits_are_valid text (digest_is_digits text bytes is)

-- ---- the type of several parts

joined_is_valid : (a b : List ℕ) → IsTrue (is_field_text a) → IsTrue (is_field_text b) → IsTrue (is_field_text (a ++ b))
joined_is_valid [] b left right = right
joined_is_valid (c ∷ a) b left right =
    let parts = and_parts (is_visible c) (is_field_text a) left in
    and_from (is_visible c) (is_field_text (a ++ b)) parts.0 (joined_is_valid a b parts.1 right)

digit_is_valid : (n : ℕ) → n < 8 → IsTrue (is_field_text ((48 + n) ∷ []))
digit_is_valid zero small = refl
digit_is_valid (suc zero) small = refl
digit_is_valid (suc (suc zero)) small = refl
digit_is_valid (suc (suc (suc zero))) small = refl
digit_is_valid (suc (suc (suc (suc zero)))) small = refl
digit_is_valid (suc (suc (suc (suc (suc zero))))) small = refl
digit_is_valid (suc (suc (suc (suc (suc (suc zero)))))) small = refl
digit_is_valid (suc (suc (suc (suc (suc (suc (suc zero))))))) small = refl
digit_is_valid (suc (suc (suc (suc (suc (suc (suc (suc n)))))))) small = absurd (omega (arith, small))

number_is_valid : (n : ℕ) → n < 8 → IsTrue (is_field_text (decimal n))
number_is_valid n small = subst (λ t. IsTrue (is_field_text t)) (sym (decimal_digit n (omega (arith, small)))) (digit_is_valid n small)

pub parts_type_is_valid : (digest : Digest) (text hex : List ℕ) → IsOfEight digest text → hex ≡ encode_lower digest.0 → decode_sized hex 20 ≡ Ok digest.0
    → IsTrue (is_field_text (parts_type text))
parts_type_is_valid digest text hex (number, small, is) digits undone =
    let tag : IsTrue (is_field_text (encode_lower digest.0)) = subst (λ t. IsTrue (is_field_text t)) digits (digest_is_valid hex digest.0 undone) in
    let rest = joined_is_valid (decimal number) (codes "-" ++ encode_lower digest.0) (number_is_valid number small) (joined_is_valid (codes "-") (encode_lower digest.0) refl tag) in
    subst (λ t. IsTrue (is_field_text (parts_type t))) (sym is)
    (joined_is_valid (codes "multipart/byteranges; boundary=") (codes "fh" ++ (decimal number ++ (codes "-" ++ encode_lower digest.0))) refl (joined_is_valid (codes "fh") (decimal number ++ (codes "-" ++ encode_lower digest.0)) refl rest))
