-- Bases of logs: what the changes up to the first entry left, with digests in place of files, so that a base can be read before any file is.
use Rattle.std.specs.Prelude.{◌≡◌, ℕ, ◌≤◌, List, [], map, Bool, true, false, IsTrue, is_some, Option, Some, None, unwrap_or}
use Rattle.std.specs.List.{AllByRecursion}
use Rattle.std.specs.FinMap as finmap
use Rattle.byte_view.specs.Contents.{Contents}
use Rattle.host_names.specs.Cells.{cell_cmp}
use Rattle.host_names.specs.Digests.{digest_of}
use Rattle.host_names.specs.declared.cells.Cell.{Cell}
use Rattle.host_names.specs.declared.cells.Cell.TheVariants as cell
use Rattle.host_names.specs.declared.digests.Digest.{Digest}
use Rattle.host_names.specs.declared.names.AliasName.{AliasName}
use Rattle.host_names.specs.declared.names.SiteName.{SiteName}
use Rattle.site_state.specs.Files.{Paths}
use Rattle.site_state.specs.States.{State}
use Rattle.site_state.specs.declared.values.Value.{Value}
use Rattle.site_state.specs.declared.values.Value.TheVariants as value
use Rattle.change_log.specs.declared.names.Name.{Name}
use Rattle.change_log.specs.declared.names.Name.TheVariants as name

-- a finite map from cells to names
abbrev pub Names : Type 0
Names = finmap.FinMap cell_cmp Name

-- ---- the state that names stand for

-- the file of the digest, if it was uploaded
abbrev pub file_of : Contents → Digest → List ℕ
file_of uploads digest = unwrap_or (finmap.get uploads digest) []

-- the value with the file of each digest in place of it
abbrev pub value_of : Contents → Name → Value
value_of uploads (name.Live digest) = value.Live (file_of uploads digest)
value_of uploads (name.Kept files) = value.Kept (map (λ f. (f.0, file_of uploads f.1)) files)
value_of uploads (name.Alias n) = value.Alias n
value_of uploads (name.Draft draft) = value.Draft draft

-- the state with the value of each name in its cell
abbrev pub resolved : Contents → Names → State
resolved uploads names = finmap.from_entries (map (λ e. (e.0, value_of uploads e.1)) (finmap.entries names))

-- ---- the names of a state

-- the value with the digest of each file in place of it
abbrev pub name_of : Value → Name
name_of (value.Live file) = name.Live (digest_of file)
name_of (value.Kept tree) = name.Kept (map (λ f. (f.0, digest_of f.1)) tree)
name_of (value.Alias n) = name.Alias n
name_of (value.Draft draft) = name.Draft draft

-- the names of what is in the cells of the state
abbrev pub names_of : State → Names
names_of state = finmap.from_entries (map (λ e. (e.0, name_of e.1)) (finmap.entries state))

-- ---- which names there may be

-- the number of the deploy whose cell it is
abbrev pub deploy_of : Cell → Option ℕ
deploy_of (cell.Kept site n) = Some n
deploy_of (cell.Draft site n) = Some n
deploy_of c = None

-- whether the name is of the cell's kind
abbrev pub is_of_kind : Cell → Name → Bool
is_of_kind (cell.Live site path) (name.Live digest) = true
is_of_kind (cell.Kept site n) (name.Kept files) = true
is_of_kind (cell.Alias site alias) (name.Alias n) = true
is_of_kind (cell.Draft site n) (name.Draft draft) = true
is_of_kind c v = false

-- a file of the digest was uploaded
abbrev pub IsKnown : Contents → Digest → Type 0
IsKnown uploads digest = is_some (finmap.get uploads digest) ≡ true

-- so was each file that is served or kept
abbrev pub HasKnown : Contents → Name → Type 0
HasKnown uploads (name.Live digest) = IsKnown uploads digest
HasKnown uploads (name.Kept files) = AllByRecursion (λ f. IsKnown uploads f.1) files
HasKnown uploads (name.Alias n) = Unit {0}
HasKnown uploads (name.Draft draft) = Unit {0}

-- What the changes up to the one of this number may have left, over these uploads: each name is of its cell's kind, each alias names a kept
-- deploy of its site, each deploy has a number from 1 to this one, no two have the same, and each file that is served or kept was uploaded.
pub record IsBase (uploads : Contents) (base : ℕ) (names : Names) : Type 0 where
  pub of_kind : (c : Cell) (v : Name) → finmap.get names c ≡ Some v → IsTrue (is_of_kind c v)
  pub named : (site : SiteName) (alias : AliasName) (n : ℕ) → finmap.get names (cell.Alias site alias) ≡ Some (name.Alias n)
      → is_some (finmap.get names (cell.Kept site n)) ≡ true
  pub within : (c : Cell) (v : Name) (n : ℕ) → finmap.get names c ≡ Some v → deploy_of c ≡ Some n → (1 ≤ n) × (n ≤ base)
  pub once : (c d : Cell) (v w : Name) (n : ℕ) → finmap.get names c ≡ Some v → finmap.get names d ≡ Some w → deploy_of c ≡ Some n
      → deploy_of d ≡ Some n → c ≡ d
  pub known : (c : Cell) (v : Name) → finmap.get names c ≡ Some v → HasKnown uploads v
