-- Nodes that are alone.
use Rattle.std.specs.Prelude.{◌≡◌, ◌⊎◌, ℕ, List, None, Result, Ok, Err, length}
use Rattle.host_names.specs.declared.digests.Digest.{Digest}
use Rattle.chunk_reads.specs.declared.faults.ReadFault.{ReadFault}
use Rattle.chunk_reads.specs.declared.faults.ReadFault.TheVariants.{OutOfMemory}
use Rattle.chunk_lru.specs.Caches.{Cache}
use Rattle.chunk_lru.specs.Rules.{held}
use Rattle.chunk_lru.specs.declared.caches.Which.TheVariants.{Main}
use Rattle.chunk_group.specs.declared.solo_groups.SoloGroup.{SoloGroup}
use Rattle.chunk_group.specs.Kept.{KeptIn}
use Rattle.chunk_group.specs.Loads.{IsGiven, Loaded}

-- the ring has one name, which is this node's
abbrev pub IsLone : {H S L C : Type 0} → SoloGroup H S L C → Type 0
IsLone group = (length group.place.ring.names ≡ 1) × (group.place.me ≡ 0)

-- ---- what proofs say

-- what the source gave is answered: a chunk, which is kept in main, or there was no memory to keep it; or there was none to answer it, and it
-- isn't kept; or a fault
abbrev pub IsAnswered : Result (List ℕ) ReadFault → Cache → Result (List ℕ) ReadFault → Cache → Type 0
IsAnswered (Ok chunk) old answer new = ((answer ≡ Ok chunk) × KeptIn Main chunk old new) ⊎ ((answer ≡ Err OutOfMemory) × (new ≡ old))
IsAnswered (Err fault) old answer new = (answer ≡ Err fault) × (new ≡ old)

-- a key that the caches haven't is asked of the source
pub record IsAskedOfSource {H S L C : Type 0} (loaded : Loaded S) (old : SoloGroup H S L C) (key : Digest) (answer : Result (List ℕ) ReadFault) (new : SoloGroup H S L C) : Type 0 where
  pub missed : held key old.node.caches.cache ≡ None
  pub given : Result (List ℕ) ReadFault
  pub gave : IsGiven loaded old.node.suppliers.source key given new.node.suppliers.source
  pub answered : IsAnswered given old.node.caches.cache answer new.node.caches.cache
