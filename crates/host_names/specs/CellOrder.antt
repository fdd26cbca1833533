-- The order of cells is total, and cells that tie are one.
use Rattle.std.specs.Prelude.{◌≡◌, refl}
use Rattle.std.specs.declared.cmp.Ordering.{Ordering}
use Rattle.std.specs.declared.cmp.Ordering.TheVariants.{Less, Equal, Greater}
use Rattle.std.specs.Cmp.{IsTotalOrder}
use Rattle.std.specs.Cmp.Lexicographic.{slice_cmp}
use Rattle.std.specs.FinMap.{IsAntisymmetric, nat_cmp-IsAntisymmetric, slice_cmp-IsAntisymmetric}
use Rattle.std.specs.Ordering.{nat_cmp, ordering_then}
use Rattle.std.proofs.Common.{arith}
use Rattle.std.proofs.lemmas.Cmp.{on_total, then_total, nat_cmp_total, nat_list_cmp_total}
use Rattle.host_names.specs.declared.cells.Cell.{Cell}
use Rattle.host_names.specs.declared.cells.Cell.TheVariants.{Live, Kept, Alias, Draft}
use Rattle.host_names.specs.Cells.{cell_cmp, site_of, rank_of, text_of, number_of}

-- the order of cells is total
pub cell_cmp_total : IsTotalOrder cell_cmp
cell_cmp_total =
    then_total (on_total (λ c. (site_of c).0) nat_list_cmp_total) (then_total (on_total rank_of nat_cmp_total)
    (then_total (on_total text_of nat_list_cmp_total) (on_total number_of nat_cmp_total)))

-- two comparisons in turn tie where both do
ties : (r s : Ordering) → ordering_then r s ≡ Equal → (r ≡ Equal) × (s ≡ Equal)
ties Less s e = cc
ties Equal s e = (refl, e)
ties Greater s e = cc

-- texts that tie are one
pub texts-IsAntisymmetric : IsAntisymmetric (slice_cmp nat_cmp)
texts-IsAntisymmetric = slice_cmp-IsAntisymmetric nat_cmp-IsAntisymmetric

-- the site, the kind and the key are all that a cell is
same_parts : (a b : Cell) → (site_of a).0 ≡ (site_of b).0 → rank_of a ≡ rank_of b → text_of a ≡ text_of b → number_of a ≡ number_of b → a ≡ b
same_parts (Live s p) (Live t q) site rank text number = λ i. Live (record { 0 = site i }) (text i)
same_parts (Kept s m) (Kept t n) site rank text number = λ i. Kept (record { 0 = site i }) (number i)
same_parts (Alias s x) (Alias t y) site rank text number = λ i. Alias (record { 0 = site i }) (record { 0 = text i })
same_parts (Draft s m) (Draft t n) site rank text number = λ i. Draft (record { 0 = site i }) (number i)
same_parts (Live s p) b site rank text number = absurd (omega arith)
same_parts (Kept s m) b site rank text number = absurd (omega arith)
same_parts (Alias s x) b site rank text number = absurd (omega arith)
same_parts (Draft s m) b site rank text number = absurd (omega arith)

-- cells that tie are one
pub cell_cmp-IsAntisymmetric : IsAntisymmetric cell_cmp
cell_cmp-IsAntisymmetric a b e =
    let at_site = ties _ _ e in
    let at_rank = ties _ _ at_site.1 in
    let at_text = ties _ _ at_rank.1 in
    same_parts a b (texts-IsAntisymmetric _ _ at_site.0) (nat_cmp-IsAntisymmetric _ _ at_rank.0)
    (texts-IsAntisymmetric _ _ at_text.0) (nat_cmp-IsAntisymmetric _ _ at_text.1)
