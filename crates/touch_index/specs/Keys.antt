-- Keys: numbers of 64 bits under which a change is posted. Each cell has a key, and so has each wildcard: all paths, or all aliases, of
-- a site. So has each folder, and the mark of a site, under which each renaming of one of its folders is posted too. Two of these may have one key.
-- Then more changes are found than touch the cell, and none fewer.
use Rattle.std.specs.Prelude.{ℕ, zero, suc, ◌+◌, ◌*◌, ◌^◌, ◌%◌, ◌==◌, nat_le, Bool, false, ◌&&◌, ◌||◌, List, [], ◌∷◌, ◌++◌, length, map, take, slice_index, Option}
use Rattle.std.specs.List.{list_any}
use Rattle.std.specs.Str.{byte}
use Rattle.std.specs.Int.{from_be_bytes, w64}
use Rattle.sha1.specs.Sha1.{sha1}
use Rattle.host_names.specs.declared.names.SiteName.{SiteName}
use Rattle.host_names.specs.declared.cells.Cell.{Cell}
use Rattle.host_names.specs.declared.cells.Cell.TheVariants as cell
use Rattle.host_names.specs.declared.digests.Digest.{Digest}
use Rattle.site_state.specs.Files.{Paths}
use Rattle.site_change.specs.declared.touched.Touched.{Touched}
use Rattle.site_change.specs.declared.touched.TouchedCells.{TouchedCells}
use Rattle.site_change.specs.declared.touched.TouchedCells.TheVariants as touched

-- that of a text of a site: the first eight bytes of the SHA-1 digest (FIPS 180-4), the highest first
abbrev pub text_key : SiteName → ℕ → List ℕ → ℕ
text_key site kind text = from_be_bytes w64 (take 8 (sha1 ((site.0 ++ kind ∷ []) ++ text)))

-- that of a deploy's number
abbrev pub number_key : ℕ → ℕ → ℕ
number_key kind n = (8 * n + kind) % 2 ^ 64

-- that of a cell
abbrev pub cell_key : Cell → ℕ
cell_key (cell.Live site path) = text_key site 0 path
cell_key (cell.Kept site n) = number_key 1 n
cell_key (cell.Alias site name) = text_key site 2 name.0
cell_key (cell.Draft site n) = number_key 3 n

-- those of all paths, and of all aliases, of a site
abbrev pub all_paths : SiteName → ℕ
all_paths site = text_key site 4 []

abbrev pub all_aliases : SiteName → ℕ
all_aliases site = text_key site 5 []

-- that of a folder of a site: a change that touches all paths below it is posted there
abbrev pub folder_key : SiteName → List ℕ → ℕ
folder_key site folder = text_key site 6 folder

-- the mark of a site: each change that touches all paths below a folder is posted there too
abbrev pub all_folders : SiteName → ℕ
all_folders site = text_key site 7 []

-- whether the test passes for one of the numbers below this one
abbrev pub any_below : (ℕ → Bool) → ℕ → Bool
any_below test zero = false
any_below test (suc n) = any_below test n || test n

-- whether a slash is at this place of the path, and the key of the folder before it passes the test
abbrev pub has_folder_at : (ℕ → Bool) → SiteName → List ℕ → ℕ → Bool
has_folder_at posted site path n = slice_index path n == byte "/" && posted (folder_key site (take n path))

-- whether the key of a folder that the path is below passes the test
abbrev pub has_folder : (ℕ → Bool) → SiteName → List ℕ → Bool
has_folder posted site path = any_below (has_folder_at posted site path) (length path)

-- the same of those folders alone that have at least so many bytes
abbrev pub has_folder_from : (ℕ → Bool) → SiteName → List ℕ → ℕ → Bool
has_folder_from posted site path first = any_below (λ n. nat_le first n && has_folder_at posted site path n) (length path)

-- those of the wildcards that cover a cell
abbrev pub wildcards : Cell → List ℕ
wildcards (cell.Live site path) = all_paths site ∷ []
wildcards (cell.Kept site n) = []
wildcards (cell.Alias site name) = all_aliases site ∷ []
wildcards (cell.Draft site n) = []

-- the mark of a path's site
abbrev pub folder_marks : Cell → List ℕ
folder_marks (cell.Live site path) = all_folders site ∷ []
folder_marks (cell.Kept site n) = []
folder_marks (cell.Alias site name) = []
folder_marks (cell.Draft site n) = []

-- those that cover a cell: a change that touches it is posted under one of them, or touches a folder that it is below
abbrev pub covering : Cell → List ℕ
covering c = cell_key c ∷ wildcards c

-- whether a change that is posted under the keys which pass the test may touch a folder that the cell is below: the mark passes, and the folder's key
abbrev pub is_in_folder : (ℕ → Bool) → Cell → Bool
is_in_folder posted (cell.Live site path) = posted (all_folders site) && has_folder posted site path
is_in_folder posted (cell.Kept site n) = false
is_in_folder posted (cell.Alias site name) = false
is_in_folder posted (cell.Draft site n) = false

-- the same of those folders alone that have at least so many bytes
abbrev pub is_in_folder_from : (ℕ → Bool) → Cell → ℕ → Bool
is_in_folder_from posted (cell.Live site path) first = posted (all_folders site) && has_folder_from posted site path first
is_in_folder_from posted (cell.Kept site n) first = false
is_in_folder_from posted (cell.Alias site name) first = false
is_in_folder_from posted (cell.Draft site n) first = false

-- whether it may touch the cell: a key that covers it passes, or it may touch such a folder
abbrev pub covers : (ℕ → Bool) → Cell → Bool
covers posted c = list_any posted (covering c) || is_in_folder posted c

-- those of the listed paths of a site
abbrev pub listed_keys : SiteName → Paths (Option Digest) → List ℕ
listed_keys site files = map (λ f. cell_key (cell.Live site f.0)) files

-- those under which a change that touches these cells of the site is posted
abbrev pub posted_keys : SiteName → TouchedCells → List ℕ
posted_keys site (touched.Path path) = cell_key (cell.Live site path) ∷ []
posted_keys site (touched.Paths one other) = cell_key (cell.Live site one) ∷ cell_key (cell.Live site other) ∷ []
posted_keys site (touched.Folders one other) = all_folders site ∷ folder_key site one ∷ folder_key site other ∷ []
posted_keys site (touched.Draft m) = cell_key (cell.Draft site m) ∷ []
posted_keys site (touched.Alias name) = cell_key (cell.Alias site name) ∷ []
posted_keys site (touched.AliasAndKept name m) = cell_key (cell.Kept site m) ∷ cell_key (cell.Alias site name) ∷ []
posted_keys site (touched.KeptAndAliases m) = cell_key (cell.Kept site m) ∷ all_aliases site ∷ []
posted_keys site (touched.Deploy m) = cell_key (cell.Draft site m) ∷ cell_key (cell.Kept site m) ∷ all_paths site ∷ []
posted_keys site (touched.Patch m files) = cell_key (cell.Draft site m) ∷ listed_keys site files.1
posted_keys site (touched.PatchAndKept m files) = cell_key (cell.Draft site m) ∷ cell_key (cell.Kept site m) ∷ listed_keys site files.1

abbrev pub touched_keys : Touched → List ℕ
touched_keys touched = posted_keys touched.site touched.cells
