-- A read of a chunk through the caches of a node: what is found in them, or else who is asked, and what is kept.
use Rattle.std.specs.Prelude.{◌≡◌, ◌⊎◌, ℕ, List, None, Some, Result, Ok, Err}
use Rattle.host_names.specs.declared.digests.Digest.{Digest}
use Rattle.chunk_reads.specs.declared.faults.ReadFault.{ReadFault}
use Rattle.chunk_reads.specs.declared.faults.ReadFault.TheVariants.{OutOfMemory}
use Rattle.chunk_lru.specs.Rules.{held, looked_up}
use Rattle.chunk_group.specs.declared.caches.Caches.{Caches}
use Rattle.chunk_group.specs.declared.loads.Giver.{Giver}
use Rattle.chunk_group.specs.declared.solo_groups.Node.{Node}
use Rattle.chunk_group.specs.Kept.{Drew, IsKept}
use Rattle.chunk_group.specs.Loads.{Fetched, IsAsked, Loaded}

-- the chunk is in a cache, and nobody is asked: it is answered, and becomes the first of its cache; or there was no memory for a share of it
pub record IsHit {S L C : Type 0} (old : Node S L C) (key : Digest) (answer : Result (List ℕ) ReadFault) (new : Node S L C) : Type 0 where
  pub chunk : List ℕ
  pub held : held key old.caches.cache ≡ Some chunk
  pub same : (new.suppliers ≡ old.suppliers) × (new.caches.coin ≡ old.caches.coin)
  pub answered : ((answer ≡ Ok chunk) × (new.caches.cache ≡ looked_up key old.caches.cache)) ⊎ ((answer ≡ Err OutOfMemory) × (new.caches.cache ≡ old.caches.cache))

-- what was given is passed on: a chunk, of which is kept what the rule says; or there was no memory for it, and nothing is kept; or a fault
abbrev pub IsPassedOn : {C : Type 0} → Drew C → Giver → Result (List ℕ) ReadFault → Caches C → Result (List ℕ) ReadFault → Caches C → Type 0
IsPassedOn drew giver (Ok chunk) old answer new = ((answer ≡ Ok chunk) × IsKept drew giver chunk old new) ⊎ ((answer ≡ Err OutOfMemory) × (new ≡ old))
IsPassedOn drew giver (Err fault) old answer new = (answer ≡ Err fault) × (new ≡ old)

-- it is in neither cache: what is given for it is passed on
pub record IsMiss {S L C : Type 0} (loaded : Loaded S) (fetched : Fetched L) (drew : Drew C) (owns : ℕ → Type 0) (me : ℕ) (old : Node S L C) (key : Digest) (answer : Result (List ℕ) ReadFault) (new : Node S L C) : Type 0 where
  pub missed : held key old.caches.cache ≡ None
  pub giver : Giver
  pub given : Result (List ℕ) ReadFault
  pub asked : IsAsked loaded fetched owns me giver old.suppliers key given new.suppliers
  pub answered : IsPassedOn drew giver given old.caches answer new.caches

-- a read of a key, its answer, and what the node is then
abbrev pub Fills : {S L C : Type 0} → Loaded S → Fetched L → Drew C → (owns : Digest → ℕ → Type 0) → ℕ → Node S L C → Digest → Result (List ℕ) ReadFault → Node S L C → Type 0
Fills loaded fetched drew owns me old key answer new = IsHit old key answer new ⊎ IsMiss loaded fetched drew (owns key) me old key answer new
