-- Which texts are made of the bytes that values of fields may have (RFC 9110, section 5.5).
use Rattle.std.specs.Prelude.{ℕ, Bool, List}
use Rattle.std.specs.List.{list_all}
use Rattle.http_header.specs.Token.{is_value_byte}

-- each byte is visible, past ASCII, a space or a tab, so that none is CR or LF
abbrev pub is_field_text : List ℕ → Bool
is_field_text text = list_all is_value_byte text
