-- Chunks in the order of their last use, the latest first. Each is its bytes.
use Rattle.std.specs.Prelude.{ℕ, ◌+◌, ◌-◌, ◌≡◌, Bool, List, [], ◌∷◌, None, Option, if◌then◌else◌, is_some, length, map, take}
use Rattle.std.specs.List.{AllByRecursion, cons_option, find, sum_by}
use Rattle.std.specs.Set.{remove_key}
use Rattle.std.specs.Str.{bytes_eq}
use Rattle.host_names.specs.Digests.{digest_of}
use Rattle.host_names.specs.declared.digests.Digest.{Digest}

-- whether a chunk has this name
abbrev pub has_name : Digest → List ℕ → Bool
has_name name chunk = bytes_eq name.0 (digest_of chunk).0

-- the chunk of a name, if it is there
abbrev pub found : Digest → List (List ℕ) → Option (List ℕ)
found name chunks = find (has_name name) chunks

-- that chunk goes to the front, if it is there, and the others stay in their order
abbrev pub to_front : Digest → List (List ℕ) → List (List ℕ)
to_front name chunks = cons_option (found name chunks) (remove_key (has_name name) chunks)

-- a chunk is inserted: where its name is there, the chunk that is held goes to the front, else the new one is there
abbrev pub inserted : List ℕ → List (List ℕ) → List (List ℕ)
inserted chunk chunks = if is_some (found (digest_of chunk) chunks) then to_front (digest_of chunk) chunks else chunk ∷ chunks

-- all but the one that was used the longest ago
abbrev pub without_last : List (List ℕ) → List (List ℕ)
without_last chunks = take (length chunks - 1) chunks

-- no two have one name: none is found under the name of one before it
abbrev pub HaveOwnNames : List (List ℕ) → Type 0
HaveOwnNames [] = Unit {0}
HaveOwnNames (chunk ∷ chunks) = (found (digest_of chunk) chunks ≡ None) × HaveOwnNames chunks

-- what they count together: 40 for each, and its bytes
abbrev pub size_of : List (List ℕ) → ℕ
size_of chunks = sum_by (λ chunk. 40 + length chunk) chunks

-- chunks in this order, and how many there may be
pub record Recent : Type 0 where
  pub chunks : List (List ℕ)
  pub room : ℕ

abbrev pub recent : List (List ℕ) → ℕ → Recent
recent chunks room = record { chunks = chunks; room = room }

-- the chunks of entries, each under a key
abbrev pub chunks_of : {Share : Type 0} → (Share → List ℕ) → List (List ℕ × Share) → List (List ℕ)
chunks_of bytes entries = map (λ e. bytes e.1) entries

-- each chunk is under the bytes of its name
abbrev pub AreNamed : {Share : Type 0} → (Share → List ℕ) → List (List ℕ × Share) → Type 0
AreNamed bytes entries = AllByRecursion (λ e. e.0 ≡ (digest_of (bytes e.1)).0) entries
