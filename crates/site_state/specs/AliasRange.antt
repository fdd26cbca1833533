-- Where the aliases of a site are among all cells: after its paths and its kept deploys.
use Rattle.std.specs.Prelude.{Bool, true, false}
use Rattle.std.specs.Cmp.Lexicographic.{slice_cmp}
use Rattle.std.specs.Ordering.{nat_cmp}
use Rattle.std.specs.declared.cmp.Ordering.{Ordering}
use Rattle.std.specs.declared.cmp.Ordering.TheVariants.{Less, Equal, Greater}
use Rattle.host_names.specs.Cells.{site_of}
use Rattle.host_names.specs.declared.cells.Cell.{Cell}
use Rattle.host_names.specs.declared.cells.Cell.TheVariants.{Live, Kept, Alias, Draft}
use Rattle.host_names.specs.declared.names.SiteName.{SiteName}

-- whether the kind of the cell comes before that of aliases
abbrev pub has_earlier_kind : Cell → Bool
has_earlier_kind (Live site path) = true
has_earlier_kind (Kept site n) = true
has_earlier_kind (Alias site name) = false
has_earlier_kind (Draft site n) = false

-- by the site first, and within it by the kind
abbrev pub by_site : Ordering → Bool → Bool
by_site Less earlier = true
by_site Equal earlier = earlier
by_site Greater earlier = false

-- whether the cell comes before the aliases of the site
abbrev pub is_before_aliases : Cell → SiteName → Bool
is_before_aliases c site = by_site (slice_cmp nat_cmp (site_of c).0 site.0) (has_earlier_kind c)
