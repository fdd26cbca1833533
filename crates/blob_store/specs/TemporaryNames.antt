-- Who has which temporary name.
use Rattle.std.specs.Prelude.{◌≡◌, ◌≢◌, ◌++◌, ℕ, List, Bool, true, false, codes, decimal, get_or}
use Rattle.std.specs.Path.{path_join}

-- the path of the temporary name of a number in a folder
abbrev pub temporary_path : (folder : List ℕ) → (number : ℕ) → List ℕ
temporary_path folder number = path_join folder (codes "blob-" ++ decimal number ++ codes ".tmp")

-- whether somebody has a number
abbrev pub is_taken : List Bool → ℕ → Bool
is_taken taken number = get_or taken number false

-- all but this number stay as they are
abbrev pub StayBut : (old : List Bool) (number : ℕ) (new : List Bool) → Type 0
StayBut old number new = (other : ℕ) → other ≢ number → is_taken new other ≡ is_taken old other

-- a number that nobody had is somebody's
abbrev pub IsTaken : (old : List Bool) (number : ℕ) (new : List Bool) → Type 0
IsTaken old number new = (is_taken old number ≡ false) × (is_taken new number ≡ true) × StayBut old number new

-- a number is nobody's any more
abbrev pub IsFreed : (old : List Bool) (number : ℕ) (new : List Bool) → Type 0
IsFreed old number new = (is_taken new number ≡ false) × StayBut old number new
