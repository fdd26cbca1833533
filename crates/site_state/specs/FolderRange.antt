-- Where the live cells below a folder of a site are among all cells.
use Rattle.std.specs.Prelude.{ℕ, List, Bool}
use Rattle.std.specs.Ordering.{is_lt}
use Rattle.host_names.specs.Cells.{cell_cmp}
use Rattle.host_names.specs.Folders.{slash_after}
use Rattle.host_names.specs.declared.cells.Cell.{Cell}
use Rattle.host_names.specs.declared.cells.Cell.TheVariants as cell
use Rattle.host_names.specs.declared.names.SiteName.{SiteName}

-- whether the cell comes before each path below the folder: before the folder's text with a slash, which is no path itself
abbrev pub is_before_folder : SiteName → List ℕ → Cell → Bool
is_before_folder site folder c = is_lt (cell_cmp c (cell.Live site (slash_after folder)))
