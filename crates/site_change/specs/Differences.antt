-- What differs between two readings of cells.
use Rattle.std.specs.Prelude.{◌≡◌, ◌≢◌, ℕ, ◌+◌, ◌<◌, List, ◌++◌, map, length, Bool, true, false, not, Option, Some, None, option_to_list, if◌then◌else◌}
use Rattle.std.specs.FinMap as finmap
use Rattle.std.specs.FinMap.{find}
use Rattle.std.specs.List.{AllByRecursion, list_all, list_any}
use Rattle.std.specs.List.Sorted.{IsStrictlySortedBy}
use Rattle.byte_view.specs.Contents.{Contents}
use Rattle.host_names.specs.Cells.{cell_cmp, is_live, text_of}
use Rattle.host_names.specs.Folders.{is_below}
use Rattle.host_names.specs.declared.names.SiteName.{SiteName}
use Rattle.host_names.specs.declared.cells.Cell.{Cell}
use Rattle.host_names.specs.declared.cells.Cell.TheVariants as cell
use Rattle.host_names.specs.declared.digests.Digest.{Digest}
use Rattle.site_state.specs.Files.{Paths}
use Rattle.site_state.specs.States.{State, is_live_of}
use Rattle.site_state.specs.Values.{same_value, are_alike}
use Rattle.site_state.specs.declared.values.Value.{Value}
use Rattle.site_state.specs.declared.values.Value.TheVariants as value
use Rattle.site_state.specs.declared.changes.Change.{Change}
use Rattle.site_change.specs.Changes.{same_cell, is_listed, is_too_long, with_listed}
use Rattle.site_change.specs.Uploaded.{HasUploaded, IsUploadedTree, AreUploaded}

-- what is in each cell
abbrev pub Reading : Type 0
Reading = Cell → Option Value

-- the cell passes the test, and one reading has one thing in it and the other another
abbrev pub IsChangeIn : (Cell → Bool) → Reading → Reading → Change → Type 0
IsChangeIn test before after change =
    (test change.cell ≡ true) × (change.before ≡ before change.cell) × (change.after ≡ after change.cell) × (change.before ≢ change.after)

-- Of the cells that pass the test, the changes are those of all in which the two readings differ, by cell.
pub record AreChangesIn (test : Cell → Bool) (before after : Reading) (changes : List Change) : Type 0 where
  pub ordered : IsStrictlySortedBy cell_cmp (map (λ change. change.cell) changes)
  pub each : AllByRecursion (IsChangeIn test before after) changes
  pub others : (c : Cell) → test c ≡ true → list_all (λ change. not (same_cell c change.cell)) changes ≡ true → after c ≡ before c

-- what a list of cells with their values has in each cell
abbrev pub in_list : List (Cell × Value) → Reading
in_list entries c = find cell_cmp c entries

-- the cells of a site that serves these files
abbrev pub live_cells : SiteName → Paths (List ℕ) → List (Cell × Value)
live_cells site files = map (λ f. (cell.Live site f.0, value.Live f.1)) files

-- The changes of a site's live cells, from these files to those of a tree.
abbrev pub AreLiveChanges : SiteName → List (Cell × Value) → Paths (List ℕ) → List Change → Type 0
AreLiveChanges site live tree = AreChangesIn (is_live_of site) (in_list live) (in_list (live_cells site tree))

-- Entries of a site's live cells and files of a tree, each in the order of the paths, and all among the same uploads.
pub record AreSides (site : SiteName) (live : List (Cell × Value)) (tree : Paths (List ℕ)) : Type 0 where
  pub live_sorted : IsStrictlySortedBy cell_cmp (map (λ e. e.0) live)
  pub live_only : AllByRecursion (λ e. is_live_of site e.0 ≡ true) live
  pub tree_sorted : IsStrictlySortedBy cell_cmp (map (λ e. e.0) (live_cells site tree))
  pub uploads : Contents
  pub live_uploaded : AllByRecursion (λ e. HasUploaded uploads e.1) live
  pub tree_uploaded : IsUploadedTree uploads tree

-- A step along both: what it changes, and what is left of each.
pub record IsStep (site : SiteName) (live : List (Cell × Value)) (tree : Paths (List ℕ)) (change : Option Change) (live_left : List (Cell × Value))
    (tree_left : Paths (List ℕ)) : Type 0 where
  pub shorter : length live_left + length tree_left < length live + length tree
  pub sides : AreSides site live_left tree_left
  pub changes : (rest : List Change) → AreLiveChanges site live_left tree_left rest → AreLiveChanges site live tree (option_to_list change ++ rest)

-- Where digests tell no difference between what is in a cell and the value with files that is to be there, there is none.
abbrev pub Comparable : Option Value → Option Value → Type 0
Comparable before (Some (value.Live file)) = are_alike before (Some (value.Live file)) ≡ true → before ≡ Some (value.Live file)
Comparable before (Some (value.Kept tree)) = are_alike before (Some (value.Kept tree)) ≡ true → before ≡ Some (value.Kept tree)
Comparable before (Some (value.Alias n)) = Unit {0}
Comparable before (Some (value.Draft draft)) = Unit {0}
Comparable before None = Unit {0}

-- The files of the state and those of the tree are all among the same uploads.
pub record AreTogether (state : State) (tree : Paths (List ℕ)) : Type 0 where
  pub uploads : Contents
  pub served_or_kept : AreUploaded uploads state
  pub listed : IsUploadedTree uploads tree

-- what changes in a cell
abbrev pub change_at : Cell → Option Value → Option Value → Option Change
change_at c before after = if same_value before after then None else Some (record { cell = c; before = before; after = after })

-- The changes of the listed paths of a site, where each comes to serve what is listed for it.
abbrev pub AreListedChanges : SiteName → Contents → Paths (Option Digest) → State → List Change → Type 0
AreListedChanges site uploads files state =
    AreChangesIn (is_listed site files) (finmap.get state) (finmap.get (with_listed site uploads files state))

-- the cell is a path below the folder
abbrev pub IsBelowPath : List ℕ → Cell → Type 0
IsBelowPath folder c = (is_live c ≡ true) × (is_below folder (text_of c) ≡ true)

-- Each of the files is below the one folder, and none of their paths in the other is too long.
pub record AreMovable (source target : List ℕ) (files : List (Cell × Value)) : Type 0 where
  pub below : AllByRecursion (λ e. IsBelowPath source e.0) files
  pub short : list_any (is_too_long source target) files ≡ false
