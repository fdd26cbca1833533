-- Lists of paths with something at each, in the order of the paths.
use Rattle.std.specs.Prelude.{ℕ, List, map, Option}
use Rattle.std.specs.Cmp.Lexicographic.{slice_cmp}
use Rattle.std.specs.FinMap.{find}
use Rattle.std.specs.List.Sorted.{IsStrictlySortedBy}
use Rattle.std.specs.Ordering.{nat_cmp}

-- something at each of some paths
abbrev pub Paths : Type 0 → Type 0
Paths X = List (List ℕ × X)

-- the paths strictly rise, so that each is there once
abbrev pub IsByPath : {X : Type 0} → Paths X → Type 0
IsByPath files = IsStrictlySortedBy (slice_cmp nat_cmp) (map (λ e. e.0) files)

-- what is at a path
abbrev pub at_path : {X : Type 0} → Paths X → List ℕ → Option X
at_path files path = find (slice_cmp nat_cmp) path files
