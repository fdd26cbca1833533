-- Who is asked for a chunk that the caches haven't, and what is made of the answers.
use Rattle.std.specs.Prelude.{◌≡◌, ◌≢◌, ◌⊎◌, ℕ, List, Option, Some, Result, Ok, Err}
use Rattle.host_names.specs.declared.digests.Digest.{Digest}
use Rattle.host_names.specs.Digests.{digest_of}
use Rattle.chunk_reads.specs.declared.faults.ReadFault.{ReadFault}
use Rattle.chunk_reads.specs.declared.faults.ReadFault.TheVariants.{Damaged}
use Rattle.chunk_group.specs.declared.loads.Giver.{Giver}
use Rattle.chunk_group.specs.declared.loads.Giver.TheVariants.{Source, Peer}
use Rattle.chunk_group.specs.declared.loads.Suppliers.{Suppliers}
use Rattle.chunk_group.specs.Owners.{IsOther}

-- how links and sources answer a key
abbrev pub Fetched : Type 0 → Type 1
Fetched L = L → ℕ → Digest → Option (List ℕ) → L → Type 0

abbrev pub Loaded : Type 0 → Type 1
Loaded S = S → Digest → Result (List ℕ) ReadFault → S → Type 0

-- a peer gave nothing, or bytes of another name
abbrev pub IsNoChunk : {L : Type 0} → Fetched L → L → ℕ → Digest → L → Type 0
IsNoChunk fetched old peer key new =
    (given : Option (List ℕ)) × fetched old peer key given new × ((bytes : List ℕ) → given ≡ Some bytes → digest_of bytes ≢ key)

-- it is left to the source: this node owns the key, and no peer was asked; or the peer that owns it was asked, and gave no chunk of it
abbrev pub IsLeft : {L : Type 0} → Fetched L → (owns : ℕ → Type 0) → ℕ → L → Digest → L → Type 0
IsLeft fetched owns me old key new =
    (owns me × (new ≡ old)) ⊎ ((peer : ℕ) × IsOther owns me peer × IsNoChunk fetched old peer key new)

-- the source gave a fault: its own, or bytes of another name, which are damaged
abbrev pub IsGivenFault : {S : Type 0} → Loaded S → S → Digest → ReadFault → S → Type 0
IsGivenFault loaded old key fault new =
    loaded old key (Err fault) new ⊎ ((fault ≡ Damaged) × ((bytes : List ℕ) × (digest_of bytes ≢ key) × loaded old key (Ok bytes) new))

-- what the source gave for a key: the chunk of it, or a fault
abbrev pub IsGiven : {S : Type 0} → Loaded S → S → Digest → Result (List ℕ) ReadFault → S → Type 0
IsGiven loaded old key (Ok bytes) new = (digest_of bytes ≡ key) × loaded old key (Ok bytes) new
IsGiven loaded old key (Err fault) new = IsGivenFault loaded old key fault new

-- what is given for a key, and by whom: by the peer that owns it, and then the source isn't asked; or by the source, to which it is left
abbrev pub IsAsked : {S L : Type 0} → Loaded S → Fetched L → (owns : ℕ → Type 0) → ℕ → Giver → Suppliers S L → Digest → Result (List ℕ) ReadFault → Suppliers S L → Type 0
IsAsked loaded fetched owns me Peer old key given new =
    (peer : ℕ) × (bytes : List ℕ) × IsOther owns me peer × fetched old.link peer key (Some bytes) new.link × (digest_of bytes ≡ key) × (given ≡ Ok bytes)
    × (new.source ≡ old.source)
IsAsked loaded fetched owns me Source old key given new = IsLeft fetched owns me old.link key new.link × IsGiven loaded old.source key given new.source
