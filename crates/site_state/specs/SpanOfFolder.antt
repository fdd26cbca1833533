-- The live cells below a folder of a site are side by side in the order of cells.
use Rattle.std.proofs.Common.{◌≡◌, ◌⊎◌, inl, inr, ⊎_elim, true, false, ◌&&◌, List, ℕ, Ordering, Less, Equal, Greater, is_lt, nat_cmp, refl, sym, ap, ◌∙◌, bytes_eq}
use Rattle.std.specs.Ordering.{ordering_then}
use Rattle.std.specs.Cmp.Lexicographic.{slice_cmp, bytes_decides, nat_list_cmp_total}
use Rattle.std.proofs.lemmas.Bool.{false≢true, and_parts}
use Rattle.std.proofs.lemmas.Cmp.{tied_itself}
use Rattle.host_names.specs.declared.names.SiteName.{SiteName}
use Rattle.host_names.specs.declared.cells.Cell.{Cell}
use Rattle.host_names.specs.declared.cells.Cell.TheVariants.{Live, Kept, Alias, Draft}
use Rattle.host_names.specs.Cells.{cell_cmp, site_of}
use Rattle.host_names.specs.CellOrder.{cell_cmp_total, texts-IsAntisymmetric}
use Rattle.host_names.specs.Folders.{begins_with, slash_after, is_below}
use Rattle.host_names.proofs.Folders.{begins-late, begins-between}
use Rattle.site_state.specs.States.{is_live_below}
use Rattle.site_state.specs.FolderRange.{is_before_folder}
use Rattle.site_state.specs.SpanOfLive.{texts, then_less}
use Rattle.persistent_maps.specs.Spans.{StandTogether}

is_lt-true : (o : Ordering) → is_lt o ≡ true → o ≡ Less
is_lt-true Less e = refl
is_lt-true Equal e = cc
is_lt-true Greater e = cc

by_first : (r s : Ordering) → r ≡ Less → is_lt (ordering_then r s) ≡ true
by_first r s e = ap (λ o. is_lt (ordering_then o s)) e

module _ (site : SiteName) (folder : List ℕ) where
  before_earlier : (a b : Cell) → cell_cmp a b ≡ Less → is_before_folder site folder b ≡ true → is_before_folder site folder a ≡ true
  before_earlier a b less before = ap is_lt (cell_cmp_total.trans a b (Live site (slash_after folder)) less (is_lt-true _ before))

  -- by the site, then by the path
  of_site : (own : SiteName) (path : List ℕ) → site.0 ≡ own.0 → cell_cmp (Live own path) (Live site (slash_after folder)) ≡ ordering_then (texts path (slash_after folder)) Equal
  of_site own path same = ap (λ r. ordering_then r (ordering_then (texts path (slash_after folder)) Equal)) (ap (texts own.0) same ∙ tied_itself nat_list_cmp_total own.0)

  first_less : (r : Ordering) → is_lt (ordering_then r Equal) ≡ is_lt r
  first_less Less = refl
  first_less Equal = refl
  first_less Greater = refl

  before_path : (own : SiteName) (path : List ℕ) → site.0 ≡ own.0 → is_before_folder site folder (Live own path) ≡ is_lt (texts path (slash_after folder))
  before_path own path same = ap is_lt (of_site own path same) ∙ first_less (texts path (slash_after folder))

  not_below_before : (c : Cell) → is_before_folder site folder c ≡ true → is_live_below site folder c ≡ false
  not_below_before (Live own path) before = elim (bytes_eq site.0 own.0) as (λ b. bytes_eq site.0 own.0 ≡ b → (b && is_below folder path) ≡ false) [
    | true ↦ λ e. begins-late (slash_after folder) path (is_lt-true _ (sym (before_path own path ((bytes_decides site.0 own.0).0 e)) ∙ before))
    | false ↦ λ e. refl
  ] refl
  not_below_before (Kept own n) before = refl
  not_below_before (Alias own name) before = refl
  not_below_before (Draft own n) before = refl

  -- an earlier site's cell comes before the folder
  late_site : (a : Cell) (other : SiteName) → site.0 ≡ other.0 → texts (site_of a).0 other.0 ≡ Less → is_before_folder site folder a ≡ true
  late_site a other same less = by_first (texts (site_of a).0 site.0) _ (ap (texts (site_of a).0) same ∙ less)

  below_earlier : (a b : Cell) → cell_cmp a b ≡ Less → is_before_folder site folder a ≡ false → is_live_below site folder b ≡ true → is_live_below site folder a ≡ true
  below_earlier (Live own p) (Live other q) less late below =
      let parts = and_parts (bytes_eq site.0 other.0) (is_below folder q) below in
      let same : site.0 ≡ other.0 = (bytes_decides site.0 other.0).0 parts.0 in
      ⊎_elim
      (λ at_site. absurd (false≢true (sym late ∙ late_site (Live own p) other same at_site)))
      (λ tie.
      let one : site.0 ≡ own.0 = same ∙ sym (texts-IsAntisymmetric own.0 other.0 tie.0) in
      let path : texts p q ≡ Less = path_less (texts p q) tie.1 in
      λ i. (bytes_decides site.0 own.0).1 one i && begins-between (slash_after folder) p q path (sym (before_path own p one) ∙ late) parts.1 i)
      (then_less (texts own.0 other.0) _ less)
    where
      path_less : (r : Ordering) → ordering_then r Equal ≡ Less → r ≡ Less
      path_less Less e = refl
      path_less Equal e = cc e
      path_less Greater e = cc e
  below_earlier (Kept own n) (Live other q) less late below =
      let same : site.0 ≡ other.0 = (bytes_decides site.0 other.0).0 (and_parts (bytes_eq site.0 other.0) (is_below folder q) below).0 in
      ⊎_elim
      (λ at_site. absurd (false≢true (sym late ∙ late_site (Kept own n) other same at_site)))
      (λ tie. cc (tie.1))
      (then_less (texts own.0 other.0) _ less)
  below_earlier (Alias own n) (Live other q) less late below =
      let same : site.0 ≡ other.0 = (bytes_decides site.0 other.0).0 (and_parts (bytes_eq site.0 other.0) (is_below folder q) below).0 in
      ⊎_elim
      (λ at_site. absurd (false≢true (sym late ∙ late_site (Alias own n) other same at_site)))
      (λ tie. cc (tie.1))
      (then_less (texts own.0 other.0) _ less)
  below_earlier (Draft own n) (Live other q) less late below =
      let same : site.0 ≡ other.0 = (bytes_decides site.0 other.0).0 (and_parts (bytes_eq site.0 other.0) (is_below folder q) below).0 in
      ⊎_elim
      (λ at_site. absurd (false≢true (sym late ∙ late_site (Draft own n) other same at_site)))
      (λ tie. cc (tie.1))
      (then_less (texts own.0 other.0) _ less)
  below_earlier a (Kept other n) less late below = absurd (false≢true below)
  below_earlier a (Alias other n) less late below = absurd (false≢true below)
  below_earlier a (Draft other n) less late below = absurd (false≢true below)

  pub below_together : StandTogether cell_cmp (is_before_folder site folder) (is_live_below site folder)
  below_together = record { falls = before_earlier; apart = not_below_before; first = below_earlier }
