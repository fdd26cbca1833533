-- Laws of changes.
use Rattle.std.specs.Prelude.{◌≡◌, ◌≢◌, ◌⊎◌, ℕ, List, ◌∷◌, ◌++◌, map, Contains, Bool, true, false, Option, Some, None, option_map, if◌then◌else◌}
use Rattle.std.specs.FinMap as map
use Rattle.byte_view.specs.Contents.{Contents}
use Rattle.host_names.specs.declared.digests.Digest.{Digest}
use Rattle.host_names.specs.declared.names.SiteName.{SiteName}
use Rattle.host_names.specs.declared.cells.Cell.{Cell}
use Rattle.host_names.specs.declared.cells.Cell.TheVariants as cell
use Rattle.site_state.specs.Files.{Paths, at_path}
use Rattle.site_state.specs.States.{State, live_at, is_live_of, is_live_below}
use Rattle.site_state.specs.declared.values.Value.TheVariants as value
use Rattle.site_change.specs.declared.commands.Command.{Command}
use Rattle.site_change.specs.Changes.{refusal, applied, touches, changes, run_from, AvoidAll, IsWithin}

-- The cell is the draft, the kept deploy of the same number, or any path of the site.
abbrev pub IsPartOfDeploy : SiteName → ℕ → Cell → Type 0
IsPartOfDeploy site m c = (c ≡ cell.Draft site m) ⊎ (c ≡ cell.Kept site m) ⊎ ((path : List ℕ) × (c ≡ cell.Live site path))

-- The cell is a path of the site at which something is listed.
abbrev pub IsListedPath : SiteName → Paths (Option Digest) → Cell → Type 0
IsListedPath site files c = (path : List ℕ) × Contains (map (λ f. f.0) files) path × (c ≡ cell.Live site path)

-- The cell is the draft, or such a path.
abbrev pub IsPartOfPatch : SiteName → ℕ → Paths (Option Digest) → Cell → Type 0
IsPartOfPatch site m files c = (c ≡ cell.Draft site m) ⊎ IsListedPath site files c

-- at each path for which a digest is listed the site serves what was uploaded under it
abbrev pub ServesListed : SiteName → Contents → Paths (Option Digest) → State → Type 0
ServesListed site uploads files after =
    (path : List ℕ) (digest : Digest) → at_path files path ≡ Some (Some digest)
    → (bytes : List ℕ) × (map.get uploads digest ≡ Some bytes) × (map.get after (cell.Live site path) ≡ Some (value.Live bytes))

-- the files that the site serves are kept under the number
abbrev pub KeepsServed : SiteName → ℕ → State → Type 0
KeepsServed site m after =
    (tree : Paths (List ℕ)) × (map.get after (cell.Kept site m) ≡ Some (value.Kept tree))
    × ((path : List ℕ) → option_map value.Live (at_path tree path) ≡ map.get after (cell.Live site path))

-- Nothing is served where a removal is listed, and what was served before where nothing is. The draft is gone, and each cell that is no
-- path of the site has else what it had.
pub record LeavesPatch (site : SiteName) (m : ℕ) (uploads : Contents) (files : Paths (Option Digest)) (before after : State) : Type 0 where
  pub listed : ServesListed site uploads files after
  pub removed : (path : List ℕ) → at_path files path ≡ Some None → map.get after (cell.Live site path) ≡ None
  pub unlisted : (path : List ℕ) → at_path files path ≡ None → map.get after (cell.Live site path) ≡ map.get before (cell.Live site path)
  pub draft : map.get after (cell.Draft site m) ≡ None
  pub others : (c : Cell) → is_live_of site c ≡ false → c ≢ cell.Draft site m → map.get after c ≡ map.get before c

-- Nothing is served where nothing is listed. What is served is kept, the draft is gone, and each cell that is no path of the site has else
-- what it had.
pub record LeavesDeploy (site : SiteName) (m : ℕ) (uploads : Contents) (files : Paths (Option Digest)) (before after : State) : Type 0 where
  pub listed : ServesListed site uploads files after
  pub unlisted : (path : List ℕ) → at_path files path ≡ None → map.get after (cell.Live site path) ≡ None
  pub kept : KeepsServed site m after
  pub draft : map.get after (cell.Draft site m) ≡ None
  pub others : (c : Cell) → is_live_of site c ≡ false → c ≢ cell.Draft site m → c ≢ cell.Kept site m → map.get after c ≡ map.get before c

-- two states have the same in each cell that passes the test
abbrev pub AgreeOn : (Cell → Bool) → State → State → Type 0
AgreeOn test state other = (c : Cell) → test c ≡ true → map.get other c ≡ map.get state c

-- A command gets the same answer in two states, touches the same, and leaves the same in what it touches.
pub record SameEffect (command : Command) (n : ℕ) (state other : State) (uploads : Contents) : Type 0 where
  pub answer : refusal command n other uploads ≡ refusal command n state uploads
  pub touched : (c : Cell) → touches command n other c ≡ touches command n state c
  pub values : AgreeOn (touches command n state) (applied command n state uploads) (applied command n other uploads)

-- All that a command reads or writes is what it touches.
pub record IsLocal (command : Command) (n : ℕ) (state : State) (uploads : Contents) : Type 0 where
  pub reads : (other : State) → AgreeOn (touches command n state) state other → SameEffect command n state other uploads
  pub writes : (c : Cell) → touches command n state c ≡ false → map.get (applied command n state uploads) c ≡ map.get state c
  pub changed : (c : Cell) → changes command n state uploads c ≡ true → touches command n state c ≡ true

-- Without a change, whose changed cells no later one touches, the later ones are accepted as before. In those cells the state
-- then has what was there before the change; in all others it has what it has with the change.
abbrev pub CanBeLeftOut : Contents → State → ℕ × Command → List (ℕ × Command) → State → Type 0
CanBeLeftOut uploads state change later with_it =
    (without : State) × (run_from uploads state later ≡ Some without)
    × ((c : Cell) → map.get without c ≡ (if changes change.1 change.0 state uploads c then map.get state c else map.get with_it c))

-- A change can be left out of any run that begins with it, where no later change of the run touches what it changed.
abbrev pub LeavesOut : Contents → State → ℕ × Command → List (ℕ × Command) → Type 0
LeavesOut uploads state change later =
    (with_it : State) → run_from uploads state (change ∷ later) ≡ Some with_it
    → AvoidAll uploads (applied change.1 change.0 state uploads) later (changes change.1 change.0 state uploads)
    → CanBeLeftOut uploads state change later with_it

-- What was accepted in a row stays so, with the same state after it, when more is uploaded.
abbrev pub KeepsRunning : Contents → Contents → State → List (ℕ × Command) → Type 0
KeepsRunning uploads more state commands =
    IsWithin uploads more → (after : State) → run_from uploads state commands ≡ Some after → run_from more state commands ≡ Some after

-- The cell is a path of the site below the folder: its text, a slash and more.
abbrev pub IsBelow : SiteName → List ℕ → Cell → Type 0
IsBelow site folder c = (rest : List ℕ) × (c ≡ cell.Live site (folder ++ 47 ∷ rest))

-- What was served below the one folder is served below the other, at the same path from there on; below the one nothing is served. Each
-- other cell has what it had.
pub record LeavesFolder (site : SiteName) (source target : List ℕ) (before after : State) : Type 0 where
  pub moved : (rest : List ℕ) → live_at after site (target ++ 47 ∷ rest) ≡ live_at before site (source ++ 47 ∷ rest)
  pub emptied : (rest : List ℕ) → map.get after (cell.Live site (source ++ 47 ∷ rest)) ≡ None
  pub others : (c : Cell) → is_live_below site source c ≡ false → is_live_below site target c ≡ false → map.get after c ≡ map.get before c
