-- Whether the client of a request waits for an interim reply before it sends the body (RFC 9110, sections 10.1.1 and 15.2.1).
use Rattle.std.specs.Prelude.{◌≡◌, ◌≢◌, ℕ, Bool, true, false, List, [], ◌∷◌, codes}
use Rattle.std.specs.Str.{str_eq_ignore_ascii_case}
use Rattle.http_wire.specs.Fields.{SayLength, values_of}
use Rattle.http_wire.specs.Requests.{RequestParts}

-- these values of Expect are one that asks for it, ASCII case ignored; with several none counts
abbrev pub asks_continue : List (List ℕ) → Bool
asks_continue [] = false
asks_continue (value ∷ []) = str_eq_ignore_ascii_case value (codes "100-continue")
asks_continue (value ∷ other ∷ values) = false

-- a head of HTTP/1.1 that asks for it, and says how long the body is
pub record ExpectsContinue (parts : RequestParts) : Type 0 where
  pub version : parts.minor ≢ 0
  pub asks : asks_continue (values_of (codes "expect") parts.fields) ≡ true
  pub some : values_of (codes "content-length") parts.fields ≢ []
  pub says : (n : ℕ) × SayLength (values_of (codes "content-length") parts.fields) n

-- the interim reply
abbrev pub continue_text : List ℕ
continue_text = codes "HTTP/1.1 100 Continue\r\n\r\n"
