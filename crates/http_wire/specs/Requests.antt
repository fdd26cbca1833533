-- What a request's head says (RFC 9112, sections 2 to 5), by the grammar of `httparse`.
use Rattle.std.specs.Prelude.{◌≡◌, ◌≢◌, ℕ, ◌≤◌, List, Result, Ok, Err, map, length, slice_get, Some, if◌then◌else◌, ◌==◌}
use Rattle.http.specs.declared.version.Version.{Version}
use Rattle.http.specs.declared.version.TheConstants.Version.{HTTP_10, HTTP_11}
use Rattle.httparse.specs.Grammar.{RequestHead, IsRequestHead, print_request}
use Rattle.httparse.specs.Spans.{RequestExceeds, name_and_value}
use Rattle.http_wire.specs.declared.faults.HeadFault.{HeadFault}
use Rattle.http_wire.specs.declared.faults.HeadFault.TheVariants as head_fault

-- how many fields a head has at most
abbrev pub field_limit : ℕ
field_limit = 64

-- a head as its reader sees it: a field is a name and a value without the white space around it
pub record RequestParts : Type 0 where
  pub method : List ℕ
  pub target : List ℕ
  pub minor : ℕ
  pub fields : List (List ℕ × List ℕ)

abbrev pub parts_of : RequestHead → RequestParts
parts_of h = record { method = h.method; target = h.target; minor = h.minor; fields = map name_and_value h.fields }

-- the version whose minor number that is, 0 or 1
abbrev pub version_of : ℕ → Version
version_of minor = if minor == 0 then HTTP_10 else HTTP_11

-- a head that is served: of the grammar, with a target that begins with a slash, and with fields that fit
pub record IsServed (h : RequestHead) : Type 0 where
  pub lawful : IsRequestHead h
  pub path : slice_get h.target 0 ≡ Some 47
  pub room : length h.fields ≤ field_limit

-- the text is such a head, and these are its parts
pub record Says (text : List ℕ) (parts : RequestParts) : Type 0 where
  pub head : RequestHead
  pub served : IsServed head
  pub text_is : text ≡ print_request head
  pub parts_are : parts ≡ parts_of head

-- some head that is served prints the text
abbrev pub SaysSomething : List ℕ → Type 0
SaysSomething text = (parts : RequestParts) × Says text parts

-- no head of the grammar prints the text, or one whose fields fit and whose target begins with no slash
abbrev pub IsBadHead : List ℕ → Type 0
IsBadHead text = (head : RequestHead) → IsRequestHead head → text ≡ print_request head
    → (length head.fields ≤ field_limit) × (slice_get head.target 0 ≢ Some 47)

-- ---- what private functions say

-- what the reading of a whole head gives, where there is memory for it
abbrev pub IsParsedAs : Result RequestParts HeadFault → List ℕ → Type 0
IsParsedAs (Ok parts) text = Says text parts
IsParsedAs (Err head_fault.Ended) text = ⊥
IsParsedAs (Err head_fault.ReadFault) text = ⊥
IsParsedAs (Err head_fault.HeadTooLarge) text = RequestExceeds field_limit text
IsParsedAs (Err head_fault.BadHead) text = IsBadHead text
IsParsedAs (Err head_fault.OutOfMemory) text = ⊥
