-- Whether a request asks for its connection to end (RFC 9110, sections 5.6.1 and 7.6.1; RFC 9112, section 9.6).
use Rattle.std.specs.Prelude.{ℕ, Bool, List, ◌==◌, codes}
use Rattle.std.specs.List.{list_any, slice_split}
use Rattle.std.specs.Str.{byte, str_eq_ignore_ascii_case}
use Rattle.httparse.specs.Grammar.{trim_ows}
use Rattle.http_wire.specs.Fields.{values_of}

-- the element is close, ASCII case ignored, with or without white space around it
abbrev pub is_close : List ℕ → Bool
is_close element = str_eq_ignore_ascii_case (trim_ows element) (codes "close")

-- one of the value's elements, which commas part, is close
abbrev pub lists_close : List ℕ → Bool
lists_close value = list_any is_close (slice_split (λ c. c == byte ",") value)

abbrev pub asks_close : List (List ℕ × List ℕ) → Bool
asks_close fields = list_any lists_close (values_of (codes "connection") fields)
