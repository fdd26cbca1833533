-- Reads through a node, whose place in the ring stays.
use Rattle.std.specs.Prelude.{◌≡◌, ℕ, List}
use Rattle.chunk_group.specs.declared.solo_groups.SoloGroup.{SoloGroup}
use Rattle.chunk_group.specs.Fills.{Fills}
use Rattle.chunk_reads.specs.Reading.{Reads}
use Rattle.chunk_group.specs.Kept.{Drew}
use Rattle.chunk_group.specs.Loads.{Fetched, Loaded}
use Rattle.chunk_group.specs.Owners.{Owns}

-- a read of a key through a node of one thread, its answer, and what the node is then
abbrev pub ReadsOf : {H S L C : Type 0} → Loaded S → Fetched L → Drew C → (hashed : H → List ℕ → ℕ) → Reads (SoloGroup H S L C)
ReadsOf loaded fetched drew hashed old key answer new =
    Fills loaded fetched drew (Owns hashed old.place.ring) old.place.me old.node key answer new.node × (new.place ≡ old.place)
