-- What a command does under the number n, to a state, with these uploads.
use Rattle.std.specs.Prelude.{◌≡◌, ℕ, ◌≤◌, List, [], ◌∷◌, Bool, true, false, not, ◌||◌, nat_lt, Option, Some, None, is_none, unwrap_or, option_map, map, filter_map, length, if◌then◌else◌}
use Rattle.std.specs.FinMap as map
use Rattle.std.specs.List.{list_any}
use Rattle.std.specs.Option.{option_eq}
use Rattle.std.specs.Ordering.{eq_by_cmp}
use Rattle.std.specs.Str.{bytes_eq}
use Rattle.byte_view.specs.Contents.{Contents}
use Rattle.host_names.specs.Cells.{cell_cmp, text_of}
use Rattle.host_names.specs.Folders.{is_below, moved}
use Rattle.host_names.specs.declared.names.SiteName.{SiteName}
use Rattle.host_names.specs.declared.cells.Cell.{Cell}
use Rattle.host_names.specs.declared.cells.Cell.TheVariants as cell
use Rattle.host_names.specs.declared.digests.Digest.{Digest}
use Rattle.host_names.specs.declared.names.AliasName.{AliasName}
use Rattle.site_state.specs.Aliases.{alias_for}
use Rattle.site_state.specs.Files.{Paths}
use Rattle.site_state.specs.Missing.{least_missing_of}
use Rattle.site_state.specs.States.{State, with_cell, as_file, live_at, kept_at, alias_at, draft_at, is_live_of, is_live_below, is_alias_of, entries_below}
use Rattle.site_state.specs.Values.{value_eq}
use Rattle.site_state.specs.declared.values.Draft.{Draft}
use Rattle.site_state.specs.declared.values.Value.{Value}
use Rattle.site_state.specs.declared.values.Value.TheVariants as value
use Rattle.site_change.specs.declared.commands.Command.{Command}
use Rattle.site_change.specs.declared.commands.Command.TheVariants.{Open, Publish, Cancel, Remove, Rename, RenameFolder, MoveAlias, RemoveAlias, Restore, RemoveDeploy}
use Rattle.site_change.specs.declared.refusals.ChangeRefusal.{ChangeRefusal}
use Rattle.site_change.specs.declared.refusals.ChangeRefusal.TheVariants.{NoSuchDraft, NotComplete, NoSuchDeploy, NoSuchFile, PathTaken, SamePath, NoSuchAlias, DeployInUse, NestedFolder, PathTooLong, TooManyFiles}

-- whether two cells are one
abbrev pub same_cell : Cell → Cell → Bool
same_cell = eq_by_cmp cell_cmp

-- ---- why it is refused

-- the reasons against a publish, by what is open under the number
abbrev pub publish_refusal : Contents → Option Draft → Option ChangeRefusal
publish_refusal uploads None = Some NoSuchDraft
publish_refusal uploads (Some draft) = option_map NotComplete (least_missing_of uploads draft.files.1)

-- this reason, unless there is something
abbrev pub needed : {A : Type 0} → ChangeRefusal → Option A → Option ChangeRefusal
needed reason (Some x) = None
needed reason None = Some reason

-- the reasons against a renaming, by what is served at the two paths
abbrev pub rename_refusal : Bool → Option (List ℕ) → Option (List ℕ) → Option ChangeRefusal
rename_refusal true source target = Some SamePath
rename_refusal false None target = Some NoSuchFile
rename_refusal false (Some file) None = None
rename_refusal false (Some file) (Some other) = Some PathTaken

-- whether the new path of a file has more than 1,024 bytes
abbrev pub is_too_long : List ℕ → List ℕ → Cell × Value → Bool
is_too_long source target file = nat_lt 1024 (length (moved source target (text_of file.0)))

-- the reasons against a move, by whether a new path is too long, by the files that are moved, and by those where they go
abbrev pub move_refusal : Bool → List (Cell × Value) → List (Cell × Value) → Option ChangeRefusal
move_refusal long [] there = Some NoSuchFile
move_refusal true (file ∷ files) there = Some PathTooLong
move_refusal false (file ∷ files) [] = None
move_refusal false (file ∷ files) (other ∷ there) = Some PathTaken

-- whether there are no files
abbrev pub are_none : List (Cell × Value) → Bool
are_none [] = true
are_none (file ∷ files) = false

-- the reasons against the renaming of a folder, by the files below the one path and those below the other
abbrev pub folder_refusal : List ℕ → List ℕ → List (Cell × Value) → List (Cell × Value) → Option ChangeRefusal
folder_refusal source target files there =
    if bytes_eq source target then Some SamePath
    else if is_below source target || is_below target source then Some NestedFolder
    else move_refusal (list_any (is_too_long source target) files) files there

-- the reasons against a restoring, by what is kept and what is open under the number
abbrev pub restore_refusal : Contents → Option (Paths (List ℕ)) → Option Draft → Option ChangeRefusal
restore_refusal uploads (Some tree) draft = None
restore_refusal uploads None (Some draft) = publish_refusal uploads (Some draft)
restore_refusal uploads None None = Some NoSuchDeploy

-- the reasons against the removal of a deploy, by what is kept under the number and the least alias that names it
abbrev pub removal_refusal : Option (Paths (List ℕ)) → Option AliasName → Option ChangeRefusal
removal_refusal None alias = Some NoSuchDeploy
removal_refusal (Some tree) alias = option_map DeployInUse alias

-- ---- what it leaves

-- what was uploaded under the digest that is listed; nothing where a removal is
abbrev pub file_at : Contents → Option Digest → Option (List ℕ)
file_at uploads None = None
file_at uploads (Some digest) = Some (unwrap_or (map.get uploads digest) [])

-- the listed files, each with what was uploaded under its digest
abbrev pub tree_of : Contents → Paths (Option Digest) → Paths (List ℕ)
tree_of uploads files = filter_map (λ f. option_map (λ bytes. (f.0, bytes)) (file_at uploads f.1)) files

-- the state in which the site serves nothing
abbrev pub without_live : SiteName → State → State
without_live site state = map.retain_keys state (λ c. not (is_live_of site c))

-- the state in which the site serves these files too
abbrev pub with_live : SiteName → Paths (List ℕ) → State → State
with_live site [] state = state
with_live site (f ∷ files) state = map.insert (with_live site files state) (cell.Live site f.0) (value.Live f.1)

-- the site serves these files and no others
abbrev pub with_served : SiteName → Paths (List ℕ) → State → State
with_served site tree state = with_live site tree (without_live site state)

-- and they are kept under the number, and no draft has that number
abbrev pub with_published : SiteName → ℕ → Paths (List ℕ) → State → State
with_published site m tree state =
    with_served site tree (with_cell (with_cell state (cell.Kept site m) (Some (value.Kept tree))) (cell.Draft site m) None)

-- at each listed path the site serves the file that is listed, or none; what it serves elsewhere stays
abbrev pub with_listed : SiteName → Contents → Paths (Option Digest) → State → State
with_listed site uploads [] state = state
with_listed site uploads (f ∷ files) state =
    with_cell (with_listed site uploads files state) (cell.Live site f.0) (option_map value.Live (file_at uploads f.1))

-- and no draft has that number
abbrev pub with_patch : SiteName → ℕ → Contents → Paths (Option Digest) → State → State
with_patch site m uploads files state = with_cell (with_listed site uploads files state) (cell.Draft site m) None

-- the state after the publish of what is open under the number
abbrev pub published : SiteName → ℕ → Contents → State → Option Draft → State
published site m uploads state None = state
published site m uploads state (Some draft) =
    if draft.files.0 then with_patch site m uploads draft.files.1 state else with_published site m (tree_of uploads draft.files.1) state

-- the site serves a kept deploy again, or else what is open is published
abbrev pub restored : SiteName → ℕ → Contents → State → Option (Paths (List ℕ)) → Option Draft → State
restored site m uploads state (Some tree) draft = with_served site tree state
restored site m uploads state None draft = published site m uploads state draft

-- the state in which the file at the one path is at the other
abbrev pub renamed : SiteName → List ℕ → List ℕ → State → Option (List ℕ) → State
renamed site source target state file = with_cell (with_cell state (cell.Live site source) None) (cell.Live site target) (option_map value.Live file)

-- the state in which the site serves nothing below the folder
abbrev pub without_below : SiteName → List ℕ → State → State
without_below site folder state = map.retain_keys state (λ c. not (is_live_below site folder c))

-- the files below the one folder, each at its path in the other
abbrev pub moved_files : List ℕ → List ℕ → List (Cell × Value) → Paths (List ℕ)
moved_files source target files = filter_map (λ e. option_map (λ file. (moved source target (text_of e.0), file)) (as_file (Some e.1))) files

-- the state in which the files below the one folder are below the other
abbrev pub folder_renamed : SiteName → List ℕ → List ℕ → State → List (Cell × Value) → State
folder_renamed site source target state files = with_live site (moved_files source target files) (without_below site source state)

-- ---- what it touches

-- whether it is one of the listed paths of the site
abbrev pub is_listed : SiteName → Paths (Option Digest) → Cell → Bool
is_listed site files c = list_any (same_cell c) (map (λ f. cell.Live site f.0) files)

-- what a publish touches besides the draft, by what it finds there: of a patch the listed paths, of any other deploy the kept
-- deploy and each path of its site, whether a file is there or not
abbrev pub publish_touches : SiteName → ℕ → Option Draft → Cell → Bool
publish_touches site m None c = false
publish_touches site m (Some draft) c = if draft.files.0 then is_listed site draft.files.1 c else (same_cell c (cell.Kept site m) || is_live_of site c)

-- what a restoring touches besides the draft and the kept deploy: each path of its site where the deploy is kept, and else what
-- a publish would
abbrev pub restore_touches : SiteName → ℕ → Option (Paths (List ℕ)) → Option Draft → Cell → Bool
restore_touches site m (Some tree) draft c = is_live_of site c
restore_touches site m None draft c = publish_touches site m draft c

-- ---- what it means

-- What a command means under the number n, to a state.
pub record Meaning : Type 0 where
  -- the site that it is for, whatever the number and the state are
  pub site : SiteName
  -- the first reason to refuse it with these uploads, if there is one
  pub refusal : Contents → Option ChangeRefusal
  -- the state after it, with these uploads
  pub after : Contents → State
  -- whether it touches the cell: reads it or writes it
  pub touches : Cell → Bool

-- each command, all of it in one place
abbrev pub meaning : Command → ℕ → State → Meaning
meaning (Open site files auto) n state = record {
  site = site;
  refusal = λ _. if nat_lt 10000 (length files.1) then Some TooManyFiles else None;
  after = λ _. with_cell state (cell.Draft site n) (Some (value.Draft (record { auto = auto; files = files })));
  touches = λ c. same_cell c (cell.Draft site n);
}
meaning (Publish site m) n state = record {
  site = site;
  refusal = λ uploads. publish_refusal uploads (draft_at state site m);
  after = λ uploads. published site m uploads state (draft_at state site m);
  touches = λ c. same_cell c (cell.Draft site m) || publish_touches site m (draft_at state site m) c;
}
meaning (Cancel site m) n state = record {
  site = site;
  refusal = λ _. needed NoSuchDraft (draft_at state site m);
  after = λ _. with_cell state (cell.Draft site m) None;
  touches = λ c. same_cell c (cell.Draft site m);
}
meaning (Remove site path) n state = record {
  site = site;
  refusal = λ _. needed NoSuchFile (live_at state site path);
  after = λ _. with_cell state (cell.Live site path) None;
  touches = λ c. same_cell c (cell.Live site path);
}
meaning (Rename site source target) n state = record {
  site = site;
  refusal = λ _. rename_refusal (bytes_eq source target) (live_at state site source) (live_at state site target);
  after = λ _. renamed site source target state (live_at state site source);
  touches = λ c. same_cell c (cell.Live site source) || same_cell c (cell.Live site target);
}
meaning (RenameFolder site source target) n state = record {
  site = site;
  refusal = λ _. folder_refusal source target (entries_below state site source) (entries_below state site target);
  after = λ _. folder_renamed site source target state (entries_below state site source);
  touches = λ c. is_live_below site source c || is_live_below site target c;
}
meaning (MoveAlias site name m) n state = record {
  site = site;
  refusal = λ _. needed NoSuchDeploy (kept_at state site m);
  after = λ _. with_cell state (cell.Alias site name) (Some (value.Alias m));
  touches = λ c. same_cell c (cell.Kept site m) || same_cell c (cell.Alias site name);
}
meaning (RemoveAlias site name) n state = record {
  site = site;
  refusal = λ _. needed NoSuchAlias (alias_at state site name);
  after = λ _. with_cell state (cell.Alias site name) None;
  touches = λ c. same_cell c (cell.Alias site name);
}
meaning (Restore site m) n state = record {
  site = site;
  refusal = λ uploads. restore_refusal uploads (kept_at state site m) (draft_at state site m);
  after = λ uploads. restored site m uploads state (kept_at state site m) (draft_at state site m);
  touches = λ c.
      same_cell c (cell.Draft site m)
      || (same_cell c (cell.Kept site m) || restore_touches site m (kept_at state site m) (draft_at state site m) c);
}
meaning (RemoveDeploy site m) n state = record {
  site = site;
  refusal = λ _. removal_refusal (kept_at state site m) (alias_for state site m);
  after = λ _. with_cell state (cell.Kept site m) None;
  touches = λ c. same_cell c (cell.Kept site m) || is_alias_of site c;
}

-- ---- which numbers there are

-- from 1 to 1,000,000
abbrev pub IsNumber : ℕ → Type 0
IsNumber n = (1 ≤ n) × (n ≤ 1000000)

-- the number of a command is from 1 to 1,000,000, and it lists at most 10,000 paths
abbrev pub IsCommandInRange : Command → Type 0
IsCommandInRange (Open site files auto) = length files.1 ≤ 10000
IsCommandInRange (Publish site n) = IsNumber n
IsCommandInRange (Cancel site n) = IsNumber n
IsCommandInRange (MoveAlias site alias n) = IsNumber n
IsCommandInRange (RemoveAlias site alias) = Unit {0}
IsCommandInRange (Rename site source target) = Unit {0}
IsCommandInRange (RenameFolder site source target) = Unit {0}
IsCommandInRange (Remove site path) = Unit {0}
IsCommandInRange (Restore site n) = IsNumber n
IsCommandInRange (RemoveDeploy site n) = IsNumber n

-- ---- what follows of its meaning

-- the site that the command is for
abbrev pub site_of_command : Command → SiteName
site_of_command command = (meaning command 0 map.empty).site

-- the first reason to refuse the command, if there is one
abbrev pub refusal : Command → ℕ → State → Contents → Option ChangeRefusal
refusal command n state uploads = (meaning command n state).refusal uploads

-- the state after the command
abbrev pub applied : Command → ℕ → State → Contents → State
applied command n state uploads = (meaning command n state).after uploads

-- whether the command touches the cell
abbrev pub touches : Command → ℕ → State → Cell → Bool
touches command n state c = (meaning command n state).touches c

-- whether it changes what is in the cell; that nothing is there counts as a value
abbrev pub changes : Command → ℕ → State → Contents → Cell → Bool
changes command n state uploads c = not (option_eq value_eq (map.get state c) (map.get (applied command n state uploads) c))

-- ---- commands in a row, each under its number

-- the state after all of them, where each is accepted in its place
abbrev pub run_from : Contents → State → List (ℕ × Command) → Option State
run_from uploads state [] = Some state
run_from uploads state (c ∷ commands) =
    if is_none (refusal c.1 c.0 state uploads) then run_from uploads (applied c.1 c.0 state uploads) commands else None

-- none of them touches, in its place, a cell that passes the test
abbrev pub AvoidAll : Contents → State → List (ℕ × Command) → (Cell → Bool) → Type 0
AvoidAll uploads state [] test = Unit {0}
AvoidAll uploads state (c ∷ commands) test =
    ((at : Cell) → test at ≡ true → touches c.1 c.0 state at ≡ false) × AvoidAll uploads (applied c.1 c.0 state uploads) commands test

-- everything uploaded before is there, with the same bytes
abbrev pub IsWithin : Contents → Contents → Type 0
IsWithin before after = (digest : Digest) (bytes : List ℕ) → map.get before digest ≡ Some bytes → map.get after digest ≡ Some bytes
