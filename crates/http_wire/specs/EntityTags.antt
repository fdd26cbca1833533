-- Which texts can be between the quotes of an entity tag (RFC 9110, section 8.8.3).
use Rattle.std.specs.Prelude.{ℕ, ◌==◌, ◌&&◌, ◌||◌, nat_le, Bool, List}
use Rattle.std.specs.List.{list_all}

-- etagc: a visible byte of ASCII that is no quote, or one past ASCII
abbrev pub is_entity_tag_byte : ℕ → Bool
is_entity_tag_byte b = b == 33 || (nat_le 35 b && nat_le b 126) || nat_le 128 b

-- each byte is one that an entity tag may have
abbrev pub is_entity_tag : List ℕ → Bool
is_entity_tag text = list_all is_entity_tag_byte text
