-- Whether two values are the same.
use Rattle.std.specs.Prelude.{ℕ, List, Bool, true, false, ◌&&◌, ◌==◌, Option, Some, None}
use Rattle.std.specs.Option.{option_eq}
use Rattle.std.specs.Cmp.Lexicographic.{pointwise}
use Rattle.std.specs.Str.{bytes_eq}
use mathlib.Core.Bool.{beq}
use Rattle.host_names.specs.Digests.{digest_of}
use Rattle.host_names.specs.declared.digests.Digest.{Digest}
use Rattle.site_state.specs.declared.values.Draft.{Draft}
use Rattle.site_state.specs.declared.values.Value.{Value}
use Rattle.site_state.specs.declared.values.Value.TheVariants as value
use Rattle.site_state.specs.Files.{Paths}
use Rattle.site_state.specs.Listings.{Listed}

-- the same paths, with the same at each
abbrev pub paths_eq : {X : Type 0} → (X → X → Bool) → Paths X → Paths X → Bool
paths_eq eq = pointwise (λ a b. bytes_eq a.0 b.0 && eq a.1 b.1)

-- the same bytes
abbrev pub digest_eq : Digest → Digest → Bool
digest_eq a b = bytes_eq a.0 b.0

-- both patches or neither, with the same digests and removals at the same paths
abbrev pub listing_eq : Listed → Listed → Bool
listing_eq a b = beq a.0 b.0 && paths_eq (option_eq digest_eq) a.1 b.1

-- the same listing, and published by itself both or neither
abbrev pub draft_eq : Draft → Draft → Bool
draft_eq a b = beq a.auto b.auto && listing_eq a.files b.files

-- of the same kind, and the same
abbrev pub value_eq : Value → Value → Bool
value_eq (value.Live a) (value.Live b) = bytes_eq a b
value_eq (value.Kept a) (value.Kept b) = paths_eq bytes_eq a b
value_eq (value.Alias m) (value.Alias n) = m == n
value_eq (value.Draft a) (value.Draft b) = draft_eq a b
value_eq a b = false

-- of cells' contents: both nothing, or the same value
abbrev pub same_value : Option Value → Option Value → Bool
same_value None None = true
same_value (Some a) (Some b) = value_eq a b
same_value a b = false

-- ---- the same, as far as digests tell

-- files of one digest
abbrev pub one_digest : List ℕ → List ℕ → Bool
one_digest a b = digest_eq (digest_of a) (digest_of b)

-- of the same kind, and the same but for their files, of which each has the digest of its counterpart
abbrev pub value_alike : Value → Value → Bool
value_alike (value.Live a) (value.Live b) = one_digest a b
value_alike (value.Kept a) (value.Kept b) = paths_eq one_digest a b
value_alike (value.Alias m) (value.Alias n) = m == n
value_alike (value.Draft a) (value.Draft b) = draft_eq a b
value_alike a b = false

-- of cells' contents: both nothing, or such values
abbrev pub are_alike : Option Value → Option Value → Bool
are_alike = option_eq value_alike
