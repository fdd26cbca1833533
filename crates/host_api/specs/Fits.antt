-- What it means that the path of a target fits a pattern (RFC 3986, section 3.3: segments are separated by slashes).
use Rattle.std.specs.Prelude.{◌≡◌, ⊤, ℕ, Bool, true, false, List, [], ◌∷◌, ◌++◌, IsTrue, not, ◌==◌}
use Rattle.std.specs.List.{flat_map, list_all}
use Rattle.std.specs.Str.{byte}
use Rattle.host_api.specs.Targets.{Part, word, site, alias, number, Bindings, rest_alone, with_part}

-- these segments, each after a slash
abbrev pub slashed : List (List ℕ) → List ℕ
slashed segments = flat_map (λ segment. byte "/" ∷ segment) segments

-- the text is no more than one segment
abbrev pub HasNoSlash : List ℕ → Type 0
HasNoSlash text = IsTrue (list_all (λ b. not (b == byte "/")) text)

-- a word is put in for itself alone, and any text for a name or a number
abbrev pub IsFor : Part → List ℕ → Type 0
IsFor (word w) segment = segment ≡ w
IsFor site segment = ⊤
IsFor alias segment = ⊤
IsFor number segment = ⊤

-- one segment for each part, in order, each without a slash
abbrev pub AreFor : List Part → List (List ℕ) → Type 0
AreFor [] [] = ⊤
AreFor [] (segment ∷ segments) = ⊥
AreFor (part ∷ parts) [] = ⊥
AreFor (part ∷ parts) (segment ∷ segments) = HasNoSlash segment × IsFor part segment × AreFor parts segments

-- a rest begins with a slash; a pattern that has none is followed by nothing
abbrev pub MayFollow : Bool → List ℕ → Type 0
MayFollow false rest = rest ≡ []
MayFollow true rest = (path : List ℕ) × (rest ≡ byte "/" ∷ path)

-- what a target has in the open places, where these segments are for the parts and this rest follows
abbrev pub said : List Part → List (List ℕ) → List ℕ → Bindings
said [] segments rest = rest_alone rest
said (part ∷ parts) [] rest = rest_alone rest
said (part ∷ parts) (segment ∷ segments) rest = with_part part segment (said parts segments rest)

-- the path is the pattern, with segments put in for its parts and followed by a rest, which say this
abbrev pub Fits : List Part → Bool → List ℕ → Bindings → Type 0
Fits parts has_rest path bindings =
    (segments : List (List ℕ)) × (rest : List ℕ) × (path ≡ slashed segments ++ rest)
    × AreFor parts segments × MayFollow has_rest rest × (bindings ≡ said parts segments rest)
