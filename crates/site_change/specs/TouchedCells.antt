-- What a plan tells of the cells that its command touches.
use Rattle.std.specs.Prelude.{◌≡◌, ℕ, Bool, Option, ◌||◌}
use Rattle.host_names.specs.declared.cells.Cell.{Cell}
use Rattle.host_names.specs.declared.cells.Cell.TheVariants as cell
use Rattle.host_names.specs.declared.names.SiteName.{SiteName}
use Rattle.host_names.specs.declared.digests.Digest.{Digest}
use Rattle.site_state.specs.Files.{Paths}
use Rattle.site_state.specs.States.{is_live_of, is_live_below, is_alias_of}
use Rattle.site_change.specs.declared.touched.Touched.{Touched}
use Rattle.site_change.specs.declared.touched.TouchedCells.{TouchedCells}
use Rattle.site_change.specs.declared.touched.TouchedCells.TheVariants as touched
use Rattle.site_change.specs.Changes.{same_cell, is_listed}

-- whether the cell is the draft or the kept deploy of the number, or a path of the site
abbrev pub is_of_deploy : SiteName → ℕ → Cell → Bool
is_of_deploy site m c = same_cell c (cell.Draft site m) || (same_cell c (cell.Kept site m) || is_live_of site c)

-- whether the cell is the draft of the number, or a listed path of the site
abbrev pub is_of_patch : SiteName → ℕ → Paths (Option Digest) → Cell → Bool
is_of_patch site m files c = same_cell c (cell.Draft site m) || is_listed site files c

-- whether the cell is one of these cells of the site
abbrev pub is_among : SiteName → TouchedCells → Cell → Bool
is_among site (touched.Path path) c = same_cell c (cell.Live site path)
is_among site (touched.Paths one other) c = same_cell c (cell.Live site one) || same_cell c (cell.Live site other)
is_among site (touched.Folders one other) c = is_live_below site one c || is_live_below site other c
is_among site (touched.Draft m) c = same_cell c (cell.Draft site m)
is_among site (touched.Alias name) c = same_cell c (cell.Alias site name)
is_among site (touched.AliasAndKept name m) c = same_cell c (cell.Kept site m) || same_cell c (cell.Alias site name)
is_among site (touched.KeptAndAliases m) c = same_cell c (cell.Kept site m) || is_alias_of site c
is_among site (touched.Deploy m) c = is_of_deploy site m c
is_among site (touched.Patch m files) c = is_of_patch site m files.1 c
is_among site (touched.PatchAndKept m files) c = same_cell c (cell.Draft site m) || (same_cell c (cell.Kept site m) || is_listed site files.1 c)

-- whether the cell is touched
abbrev pub is_touched : Touched → Cell → Bool
is_touched touched c = is_among touched.site touched.cells c

-- they are told of this site, and are the cells that pass the test
abbrev pub AreTouched : SiteName → (Cell → Bool) → Touched → Type 0
AreTouched site test touched = (touched.site ≡ site) × ((c : Cell) → is_touched touched c ≡ test c)
