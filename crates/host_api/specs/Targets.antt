-- The target of a request, in its parts (RFC 9112, section 3.2; RFC 3986, sections 3.3 to 3.5).
use Rattle.std.specs.Prelude.{ℕ, Bool, true, false, List, [], ◌∷◌, ◌++◌, Option, Some, None, option_map, drop, nat_eq, ◌==◌, ◌&&◌, if◌then◌else◌, codes}
use Rattle.std.specs.List.{list_any, before_first, ends_with}
use Rattle.std.specs.Str.{byte, bytes_eq, is_utf8}
use Rattle.percent_encoding.specs.Percent.{percent_decode}
use Rattle.host_names.specs.Path.{is_path, with_slash}

-- the text from the first such byte on
abbrev pub from_first : ℕ → List ℕ → List ℕ
from_first b [] = []
from_first b (c ∷ text) = if c == b then c ∷ text else from_first b text

-- the target without its query (RFC 3986, section 3.4)
abbrev pub path_of : List ℕ → List ℕ
path_of target = before_first (λ b. b == byte "?") target

-- whether there is a `#`: a target has no fragment (RFC 3986, section 3.5)
abbrev pub has_hash : List ℕ → Bool
has_hash text = list_any (λ b. b == byte "#") text

-- ---- patterns

-- what is between two slashes: a word, the name of a site or of an alias, or a number
pub data Part : Type 0 where
  word : List ℕ → Part
  site : Part
  alias : Part
  number : Part

-- what a target has in the places that its pattern leaves open; a rest that is there begins with a slash
pub record Bindings : Type 0 where
  pub site_text : List ℕ
  pub alias_text : List ℕ
  pub number_text : List ℕ
  pub rest : List ℕ

-- nothing is found in open places but this rest
abbrev pub rest_alone : List ℕ → Bindings
rest_alone text = record { site_text = []; alias_text = []; number_text = []; rest = text }

-- what is found with the segment in the place of a part
abbrev pub with_part : Part → List ℕ → Bindings → Bindings
with_part (word w) segment b = b
with_part site segment b = record b { site_text = segment }
with_part alias segment b = record b { alias_text = segment }
with_part number segment b = record b { number_text = segment }

-- what the parts after it found, if the segment is of the part
abbrev pub bound : Part → List ℕ → Option Bindings → Option Bindings
bound (word w) segment found = if bytes_eq segment w then found else None
bound site segment found = option_map (λ (b : Bindings). record b { site_text = segment }) found
bound alias segment found = option_map (λ (b : Bindings). record b { alias_text = segment }) found
bound number segment found = option_map (λ (b : Bindings). record b { number_text = segment }) found

-- the text is segments of these parts, each after a slash, and after them nothing, or a rest that begins with a slash
abbrev pub fit : List Part → Bool → List ℕ → Option Bindings
fit [] false [] = Some (rest_alone [])
fit [] false (b ∷ text) = None
fit [] true [] = None
fit [] true (b ∷ text) = if b == byte "/" then Some (rest_alone (b ∷ text)) else None
fit (part ∷ parts) has_rest [] = None
fit (part ∷ parts) has_rest (b ∷ text) =
    if b == byte "/"
    then bound part (before_first (λ c. c == byte "/") text) (fit parts has_rest (from_first (byte "/") text))
    else None

-- ---- paths

-- the text, if it is UTF-8 and a path
abbrev pub if_path : List ℕ → Option (List ℕ)
if_path text = if is_utf8 text && is_path text then Some text else None

-- a path that ends in a slash names the page index.html in it
abbrev pub with_index : List ℕ → List ℕ
with_index text = if ends_with nat_eq text (codes "/") then text ++ codes "index.html" else text

-- the path of a file that is read: the rest, its escapes decoded once (RFC 3986, section 2.1)
abbrev pub read_path : List ℕ → Option (List ℕ)
read_path rest = if_path (with_index (percent_decode rest))

-- the path of a file that is written: what follows the slash of the rest, its escapes decoded once
abbrev pub written_path : List ℕ → Option (List ℕ)
written_path rest = if_path (with_slash (percent_decode (drop 1 rest)))
