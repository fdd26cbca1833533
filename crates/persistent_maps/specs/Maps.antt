-- How a sorted map is kept.
use Rattle.std.specs.Prelude.{◌≡◌, ◌≢◌, ℕ, suc, Bool, false, List, [], ◌∷◌, ◌++◌, All, Option, Some, None, get_or}
use Rattle.std.specs.List.Sorted.{IsStrictlySortedBy}
use Rattle.std.specs.Map.{keys_of}
use Rattle.std.specs.declared.cmp.Ordering.{Ordering}
use Rattle.std.specs.Ordering.{is_le}
use Rattle.shared_blocks.specs.Blocks.{joined}

-- each block has items
abbrev pub HaveItems : {T : Type 0} → List (List T) → Type 0
HaveItems blocks = All (λ block. block ≢ []) blocks

-- the keys strictly rise through all blocks, each of which has items
pub record AreBlocks {K V : Type 0} (cmp : K → K → Ordering) (blocks : List (List (K × V))) : Type 0 where
  pub filled : HaveItems blocks
  pub sorted : IsStrictlySortedBy cmp (keys_of (joined blocks))

-- whether the first key is at most this one
abbrev pub starts_by : {K V : Type 0} → (K → K → Ordering) → K → List (K × V) → Bool
starts_by cmp key [] = false
starts_by cmp key (e ∷ es) = is_le (cmp e.0 key)

-- the first key of some blocks
abbrev pub first_key : {K V : Type 0} → List (List (K × V)) → Option K
first_key [] = None
first_key ([] ∷ blocks) = None
first_key ((e ∷ es) ∷ blocks) = Some e.0

-- whether the first key passes a test
abbrev pub starts : {K V : Type 0} → (K → Bool) → List (K × V) → Bool
starts test [] = false
starts test (e ∷ es) = test e.0
