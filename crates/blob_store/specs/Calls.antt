-- Calls of a shelf: what it was given, and what it answered.
use Rattle.std.specs.Prelude.{◌≡◌, ◌≢◌, ◌⊎◌, ℕ, List, [], ◌∷◌, ◌++◌, Option, Some, None, Result, MatchResult, ⊤, AllPairs, Contains, length, map}
use Rattle.std.specs.FinMap.{get}
use Rattle.std.specs.List.{AllByRecursion}
use Rattle.host_names.specs.declared.digests.Digest.{Digest}
use Rattle.host_names.specs.Digests.{digest_of}
use Rattle.byte_view.specs.Contents.{Contents}
use Rattle.byte_view.specs.Cuts.{cut, names_of}
use Rattle.blob_store.specs.declared.shelves.ShelfName.{ShelfName}
use Rattle.blob_store.specs.declared.shelves.ShelfName.TheVariants.{Part, Table}
use Rattle.blob_store.specs.declared.shelves.ShelfFault.{ShelfFault}
use Rattle.blob_store.specs.Tables.{text_of}

-- it was given bytes under a name, and took them or failed; it was asked for a name, and answered or failed
pub data Call : Type 0 where
  Put : (name : ShelfName) (bytes : List ℕ) → Call
  PutFails : (name : ShelfName) (bytes : List ℕ) (fault : ShelfFault) → Call
  Got : (name : ShelfName) (answer : Option (List ℕ)) → Call
  GetFails : (name : ShelfName) (fault : ShelfFault) → Call

-- what a shelf has of a file: each piece under its name, in order, and then the table
abbrev pub part_of : List ℕ → ShelfName × List ℕ
part_of piece = (Part (digest_of piece), piece)

abbrev pub table_of : List ℕ → ShelfName × List ℕ
table_of file = (Table (digest_of file), text_of (length file) (names_of file))

abbrev pub things_of : List ℕ → List (ShelfName × List ℕ)
things_of file = map part_of (cut file) ++ table_of file ∷ []

-- a shelf is given things one after another and no other call: all of them, or up to the first at which it fails
abbrev pub PutsInTurn : {S : Type 0} → (did : S → Call → S → Type 0) → S → List (ShelfName × List ℕ) → Option ShelfFault → S → Type 0
PutsInTurn did old [] fault new = (fault ≡ None) × (new ≡ old)
PutsInTurn {S} did old (thing ∷ things) fault new =
    ((why : ShelfFault) × (fault ≡ Some why) × did old (PutFails thing.0 thing.1 why) new)
    ⊎ ((mid : S) × did old (Put thing.0 thing.1) mid × PutsInTurn did mid things fault new)

-- some of these pieces: of each name that isn't stored one, and of the others none
pub record AreOnceEach (stored : List Digest) (pieces some : List (List ℕ)) : Type 0 where
  pub among : AllByRecursion (Contains pieces) some
  pub each : AllByRecursion (λ piece. Contains stored (digest_of piece) ⊎ Contains (map digest_of some) (digest_of piece)) pieces
  pub apart : AllPairs (λ name other. name ≢ other) (map digest_of some)
  pub fresh : AllByRecursion (λ name. ¬ (Contains stored name)) (map digest_of some)

-- of the pieces of a file one is put of each name that isn't stored, and of the others none, and then its table, and no other call is made; all of it,
-- or up to the first of these at which the shelf fails
abbrev pub PutsOthers : {S : Type 0} → (did : S → Call → S → Type 0) → List Digest → S → List ℕ → Option ShelfFault → S → Type 0
PutsOthers did stored old file fault new =
    (pieces : List (List ℕ)) × AreOnceEach stored (cut file) pieces × PutsInTurn did old (map part_of pieces ++ table_of file ∷ []) fault new

-- a name is that of a piece of a file that is known
abbrev pub IsKnownName : Contents → Digest → Type 0
IsKnownName known name = (digest : Digest) × (file : List ℕ) × (get known digest ≡ Some file) × Contains (names_of file) name

-- each of these is
abbrev pub AreKnownNames : Contents → List Digest → Type 0
AreKnownNames known names = (name : Digest) → Contains names name → IsKnownName known name

-- a file is put on a shelf, where some of the names of pieces of known files are stored
abbrev pub PutsFile : {S : Type 0} → (did : S → Call → S → Type 0) → Contents → S → List ℕ → Option ShelfFault → S → Type 0
PutsFile did known old file fault new = (stored : List Digest) × AreKnownNames known stored × PutsOthers did stored old file fault new

-- ---- what private functions say

-- what holds without a fault, and with each one, of what a call that may fail leaves
abbrev pub HoldsOfFault : {F : Type 0} → Result ⊤ F → (Option F → Type 0) → Type 0
HoldsOfFault result holds = MatchResult result (λ _. holds None) (λ fault. holds (Some fault))

-- a piece is put on a shelf, unless its name is one of those that are stored, or of those before it
abbrev pub PutsNew : {S : Type 0} → (did : S → Call → S → Type 0) → S → (stored before : List Digest) → ShelfName × List ℕ → Digest → Option ShelfFault → S → Type 0
PutsNew did old stored before thing name fault new =
    ((Contains stored name ⊎ Contains before name) × (fault ≡ None) × (new ≡ old))
    ⊎ ((¬ (Contains stored name)) × (¬ (Contains before name)) × PutsInTurn did old (thing ∷ []) fault new)
