-- Where the live cells of a site are among all cells: first among those of the site.
use Rattle.std.specs.Prelude.{Bool}
use Rattle.std.specs.Cmp.Lexicographic.{slice_cmp}
use Rattle.std.specs.Ordering.{nat_cmp, is_lt}
use Rattle.host_names.specs.Cells.{site_of}
use Rattle.host_names.specs.declared.cells.Cell.{Cell}
use Rattle.host_names.specs.declared.names.SiteName.{SiteName}

-- whether the cell is of a site that comes before this one
abbrev pub is_of_site_before : Cell → SiteName → Bool
is_of_site_before c site = is_lt (slice_cmp nat_cmp (site_of c).0 site.0)
