-- The state of the host: what is in each cell.
use Rattle.std.specs.Prelude.{ℕ, List, [], ◌∷◌, Bool, true, false, ◌&&◌, Option, Some, None, IsTrue, filter}
use Rattle.std.specs.FinMap as map
use Rattle.std.specs.Str.{bytes_eq}
use Rattle.host_names.specs.Cells.{cell_cmp}
use Rattle.host_names.specs.Folders.{is_below}
use Rattle.host_names.specs.declared.names.SiteName.{SiteName}
use Rattle.host_names.specs.declared.names.AliasName.{AliasName}
use Rattle.host_names.specs.declared.cells.Cell.{Cell}
use Rattle.host_names.specs.declared.cells.Cell.TheVariants as cell
use Rattle.site_state.specs.declared.values.Draft.{Draft}
use Rattle.site_state.specs.declared.values.Value.{Value}
use Rattle.site_state.specs.declared.values.Value.TheVariants as value
use Rattle.site_state.specs.Files.{Paths}

-- a finite map from cells to values
abbrev pub State : Type 0
State = map.FinMap cell_cmp Value

-- a file's bytes are where a file is served, a deploy's files where it is kept, a number where an alias
-- is, and an open deploy where a draft is
abbrev pub is_of_kind : Cell → Value → Bool
is_of_kind (cell.Live site path) (value.Live file) = true
is_of_kind (cell.Kept site n) (value.Kept tree) = true
is_of_kind (cell.Alias site name) (value.Alias n) = true
is_of_kind (cell.Draft site n) (value.Draft draft) = true
is_of_kind c v = false

-- whether this may be written into the cell: a value of its kind, or nothing
abbrev pub may_stand : Cell → Option Value → Bool
may_stand c (Some v) = is_of_kind c v
may_stand c None = true

-- what is in each cell is of the cell's kind
abbrev pub AreOfKind : State → Type 0
AreOfKind state = (c : Cell) → IsTrue (may_stand c (map.get state c))

-- the state with this in the cell, or with nothing in it
abbrev pub with_cell : State → Cell → Option Value → State
with_cell state c (Some v) = map.insert state c v
with_cell state c None = map.remove state c

-- the state with these in their cells
abbrev pub with_cells : State → List (Cell × Option Value) → State
with_cells state [] = state
with_cells state (e ∷ cells) = with_cells (with_cell state e.0 e.1) cells

-- what is in a path's cell, as a file
abbrev pub as_file : Option Value → Option (List ℕ)
as_file (Some (value.Live file)) = Some file
as_file v = None

-- the file that is served at the path
abbrev pub live_at : State → SiteName → List ℕ → Option (List ℕ)
live_at state site path = as_file (map.get state (cell.Live site path))

-- what is in a kept deploy's cell, as files
abbrev pub as_tree : Option Value → Option (Paths (List ℕ))
as_tree (Some (value.Kept tree)) = Some tree
as_tree v = None

-- the files of the deploy that is kept under the number
abbrev pub kept_at : State → SiteName → ℕ → Option (Paths (List ℕ))
kept_at state site n = as_tree (map.get state (cell.Kept site n))

-- what is in an alias's cell, as a number
abbrev pub as_number : Option Value → Option ℕ
as_number (Some (value.Alias n)) = Some n
as_number v = None

-- the number of the deploy that the alias names
abbrev pub alias_at : State → SiteName → AliasName → Option ℕ
alias_at state site name = as_number (map.get state (cell.Alias site name))

-- what is in a draft's cell, as an open deploy
abbrev pub as_draft : Option Value → Option Draft
as_draft (Some (value.Draft draft)) = Some draft
as_draft v = None

-- the deploy that is open under the number
abbrev pub draft_at : State → SiteName → ℕ → Option Draft
draft_at state site n = as_draft (map.get state (cell.Draft site n))

-- whether the cell is a path of the site, at which a file may be served
abbrev pub is_live_of : SiteName → Cell → Bool
is_live_of site (cell.Live other path) = bytes_eq site.0 other.0
is_live_of site c = false

-- the files that the site serves, each in its cell, by path
abbrev pub live_entries : State → SiteName → List (Cell × Value)
live_entries state site = filter (λ e. is_live_of site e.0) (map.entries state)

-- whether the cell is a path of the site below the folder
abbrev pub is_live_below : SiteName → List ℕ → Cell → Bool
is_live_below site folder (cell.Live other path) = bytes_eq site.0 other.0 && is_below folder path
is_live_below site folder c = false

-- the files that the site serves below the folder, each in its cell, by path
abbrev pub entries_below : State → SiteName → List ℕ → List (Cell × Value)
entries_below state site folder = filter (λ e. is_live_below site folder e.0) (map.entries state)

-- whether the cell is an alias of the site
abbrev pub is_alias_of : SiteName → Cell → Bool
is_alias_of site (cell.Alias other name) = bytes_eq site.0 other.0
is_alias_of site c = false

-- the aliases of the site, each in its cell, by name
abbrev pub alias_entries : State → SiteName → List (Cell × Value)
alias_entries state site = filter (λ e. is_alias_of site e.0) (map.entries state)
