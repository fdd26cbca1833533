-- Cells: their parts, their order, and their printed text.
use Rattle.std.specs.Prelude.{ℕ, Bool, true, false, List, [], ◌++◌, codes, decimal}
use Rattle.std.specs.declared.cmp.Ordering.{Ordering}
use Rattle.std.specs.Ordering.{nat_cmp, on, then_cmp}
use Rattle.std.specs.Cmp.Lexicographic.{slice_cmp}
use Rattle.host_names.specs.declared.names.SiteName.{SiteName}
use Rattle.host_names.specs.declared.cells.Cell.{Cell}
use Rattle.host_names.specs.declared.cells.Cell.TheVariants.{Live, Kept, Alias, Draft}
use Rattle.host_names.specs.declared.cells.CellRef.{CellRef}
use Rattle.host_names.specs.declared.cells.CellRef.TheVariants as borrowed

-- the site that the cell belongs to
abbrev pub site_of : Cell → SiteName
site_of (Live site path) = site
site_of (Kept site n) = site
site_of (Alias site name) = site
site_of (Draft site n) = site

-- the place of the cell's kind among the kinds
abbrev pub rank_of : Cell → ℕ
rank_of (Live site path) = 0
rank_of (Kept site n) = 1
rank_of (Alias site name) = 2
rank_of (Draft site n) = 3

-- the path or the name, if the cell has one
abbrev pub text_of : Cell → List ℕ
text_of (Live site path) = path
text_of (Kept site n) = []
text_of (Alias site name) = name.0
text_of (Draft site n) = []

-- the deploy's number, if the cell has one
abbrev pub number_of : Cell → ℕ
number_of (Live site path) = 0
number_of (Kept site n) = n
number_of (Alias site name) = 0
number_of (Draft site n) = n

-- whether the cell is a path, at which a file may be served
abbrev pub is_live : Cell → Bool
is_live (Live site path) = true
is_live (Kept site n) = false
is_live (Alias site name) = false
is_live (Draft site n) = false

-- the cell of borrowed parts
abbrev pub cell_of : CellRef → Cell
cell_of (borrowed.Live site path) = Live site.now path.now
cell_of (borrowed.Kept site n) = Kept site.now n
cell_of (borrowed.Alias site name) = Alias site.now name.now
cell_of (borrowed.Draft site n) = Draft site.now n

-- by site, then by kind, then by path, name or number
abbrev pub cell_cmp : Cell → Cell → Ordering
cell_cmp =
    then_cmp (on (λ c. (site_of c).0) (slice_cmp nat_cmp)) (then_cmp (on rank_of nat_cmp)
    (then_cmp (on text_of (slice_cmp nat_cmp)) (on number_of nat_cmp)))

-- what is printed of a cell: its kind, and its path, name or number
abbrev pub cell_text : Cell → List ℕ
cell_text (Live site path) = codes "live " ++ path
cell_text (Kept site n) = codes "kept " ++ decimal n
cell_text (Alias site name) = codes "alias " ++ name.0
cell_text (Draft site n) = codes "draft " ++ decimal n
