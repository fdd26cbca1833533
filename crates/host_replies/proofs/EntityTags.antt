-- The hex digits of a digest can be an entity tag.
use Rattle.std.proofs.Common.{◌≡◌, ℕ, true, List, [], ◌∷◌, Ok, refl, arith}
use Rattle.std.specs.Prelude.{IsTrue}
use Rattle.std.specs.List.{list_all}
use Rattle.std.proofs.lemmas.Bool.{and_from, and_parts}
use Rattle.hex.specs.Hex.{decode_sized, is_hex_digit}
use Rattle.http_wire.specs.EntityTags.{is_entity_tag, is_entity_tag_byte}
use Rattle.host_replies.proofs.FieldTexts.{digest_is_digits}

digit_is_tag_byte : (b : ℕ) → is_hex_digit b ≡ true → is_entity_tag_byte b ≡ true
digit_is_tag_byte b digit = grind (arith)

digits_are_tag : (text : List ℕ) → list_all is_hex_digit text ≡ true → IsTrue (is_entity_tag text)
digits_are_tag [] digits = refl
digits_are_tag (b ∷ text) digits =
    let parts = and_parts (is_hex_digit b) (list_all is_hex_digit text) digits in
    and_from (is_entity_tag_byte b) (is_entity_tag text) (digit_is_tag_byte b parts.0) (digits_are_tag text parts.1)

pub digest_is_tag : (text bytes : List ℕ) → decode_sized text 20 ≡ Ok bytes → IsTrue (is_entity_tag text)
digest_is_tag text bytes is = digits_are_tag text (digest_is_digits text bytes is)
