-- Shelves that keep what is put on them.
use Rattle.std.specs.Prelude.{◌≡◌, ◌≢◌, ◌⊎◌, ℕ, Bool, IsTrue, List, Option, Some}
use Rattle.std.specs.FinMap.{get}
use Rattle.std.specs.List.{AllByRecursion}
use Rattle.byte_view.specs.Contents.{Contents}
use Rattle.host_names.specs.declared.digests.Digest.{Digest}
use Rattle.blob_store.specs.declared.shelves.ShelfName.{ShelfName}
use Rattle.blob_store.specs.declared.shelves.ShelfFault.{ShelfFault}
use Rattle.blob_store.specs.Calls.{Call, Put, PutFails, Got, GetFails, things_of}

-- a name, and the bytes that are put under it
abbrev pub Thing : Type 0
Thing = ShelfName × List ℕ

-- a call after which a shelf is honest
abbrev pub Where : {S : Type 0} → (honest : S → Bool) → (did : S → Call → S → Type 0) → S → Call → S → Type 0
Where honest did old call new = did old call new × IsTrue (honest new)

-- a shelf always keeps what is put on it, where `has` tells what it has under each name: a put gives one name its bytes, and what is asked for
-- is what is there. A put that fails leaves under that name what was there, or gives it its bytes, and asking changes nothing, whether it
-- fails or not
pub record AlwaysKeeps {S : Type 0} (did : S → Call → S → Type 0) (has : S → ShelfName → Option (List ℕ)) : Type 0 where
  pub put : (old new : S) (name : ShelfName) (bytes : List ℕ) → did old (Put name bytes) new → has new name ≡ Some bytes
  pub others : (old new : S) (name other : ShelfName) (bytes : List ℕ) → did old (Put name bytes) new → other ≢ name → has new other ≡ has old other
  pub got : (old new : S) (name : ShelfName) (answer : Option (List ℕ)) → did old (Got name answer) new → answer ≡ has old name
  pub stays : (old new : S) (name other : ShelfName) (answer : Option (List ℕ)) → did old (Got name answer) new → has new other ≡ has old other
  pub put_fails : (old new : S) (name : ShelfName) (bytes : List ℕ) (fault : ShelfFault) → did old (PutFails name bytes fault) new
      → (has new name ≡ has old name) ⊎ (has new name ≡ Some bytes)
  pub put_fails_others : (old new : S) (name other : ShelfName) (bytes : List ℕ) (fault : ShelfFault) → did old (PutFails name bytes fault) new → other ≢ name
      → has new other ≡ has old other
  pub get_fails : (old new : S) (name other : ShelfName) (fault : ShelfFault) → did old (GetFails name fault) new → has new other ≡ has old other

-- it does as long as it is honest: where it is after a call, it was before, and the call is that of a shelf that always does
pub record Keeps {S : Type 0} (did : S → Call → S → Type 0) (honest : S → Bool) (has : S → ShelfName → Option (List ℕ)) : Type 0 where
  pub before : (old new : S) (call : Call) → did old call new → IsTrue (honest new) → IsTrue (honest old)
  pub kept : AlwaysKeeps (Where honest did) has

-- it has all these things
abbrev pub HasAll : {S : Type 0} → (has : S → ShelfName → Option (List ℕ)) → S → List Thing → Type 0
HasAll has shelf things = AllByRecursion (λ (thing : Thing). has shelf thing.0 ≡ Some thing.1) things

-- it has a file: each of its pieces, and its table
abbrev pub HasFile : {S : Type 0} → (has : S → ShelfName → Option (List ℕ)) → S → List ℕ → Type 0
HasFile has shelf file = HasAll has shelf (things_of file)

-- things of one name are the same in both; so no piece of the one file has the digest of another piece of the other
abbrev pub Agree : List Thing → List Thing → Type 0
Agree things others = AllByRecursion (λ (thing : Thing). AllByRecursion (λ (other : Thing). thing.0 ≡ other.0 → thing.1 ≡ other.1) others) things

-- it has each of these files
abbrev pub HasEach : {S : Type 0} → (has : S → ShelfName → Option (List ℕ)) → S → Contents → Type 0
HasEach has shelf files = (digest : Digest) (file : List ℕ) → get files digest ≡ Some file → HasFile has shelf file

-- things of a file and of each of these files agree
abbrev pub AgreeWithKnown : Contents → List ℕ → Type 0
AgreeWithKnown files file = (digest : Digest) (other : List ℕ) → get files digest ≡ Some other → Agree (things_of other) (things_of file)
