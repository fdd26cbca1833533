-- The live cells of a site are side by side in the order of cells.
use Rattle.std.proofs.Common.{◌≡◌, ◌⊎◌, inl, inr, ⊎_elim, true, false, List, ℕ, Ordering, Less, Equal, Greater, is_lt, nat_cmp, refl, sym, ap, ◌∙◌, bytes_eq}
use Rattle.std.specs.Ordering.{ordering_then}
use Rattle.std.specs.Cmp.Lexicographic.{slice_cmp, bytes_decides, nat_list_cmp_total}
use Rattle.std.proofs.lemmas.Bool.{false≢true}
use Rattle.std.proofs.lemmas.Cmp.{tied_itself}
use Rattle.host_names.specs.declared.names.SiteName.{SiteName}
use Rattle.host_names.specs.declared.cells.Cell.{Cell}
use Rattle.host_names.specs.declared.cells.Cell.TheVariants.{Live, Kept, Alias, Draft}
use Rattle.host_names.specs.Cells.{cell_cmp, site_of}
use Rattle.host_names.specs.CellOrder.{texts-IsAntisymmetric}
use Rattle.site_state.specs.States.{is_live_of}
use Rattle.site_state.specs.LiveRange.{is_of_site_before}
use Rattle.persistent_maps.specs.Spans.{StandTogether}

abbrev pub texts : List ℕ → List ℕ → Ordering
texts = slice_cmp nat_cmp

-- what decides a comparison that answers `Less`
pub then_less : (r s : Ordering) → ordering_then r s ≡ Less → (r ≡ Less) ⊎ ((r ≡ Equal) × (s ≡ Less))
then_less Less s e = inl refl
then_less Equal s e = inr (refl, e)
then_less Greater s e = cc

is_lt-true : (o : Ordering) → is_lt o ≡ true → o ≡ Less
is_lt-true Less e = refl
is_lt-true Equal e = cc
is_lt-true Greater e = cc

-- an earlier cell is of no later site
before_earlier : (a b : Cell) (site : SiteName) → cell_cmp a b ≡ Less → is_of_site_before b site ≡ true → is_of_site_before a site ≡ true
before_earlier a b site less before = ⊎_elim
    (λ at_site. ap is_lt (nat_list_cmp_total.trans (site_of a).0 (site_of b).0 site.0 at_site (is_lt-true _ before)))
    (λ tie. ap is_lt (nat_list_cmp_total.congr (site_of a).0 (site_of b).0 site.0 tie.0) ∙ before)
    (then_less (texts (site_of a).0 (site_of b).0) _ less)

-- a cell of an earlier site is not live in this one
not_live_before : (c : Cell) (site : SiteName) → is_of_site_before c site ≡ true → is_live_of site c ≡ false
not_live_before (Live own path) site before = elim (bytes_eq site.0 own.0) as (λ b. bytes_eq site.0 own.0 ≡ b → b ≡ false) [
  | true ↦ λ e.
      let same : site.0 ≡ own.0 = (bytes_decides site.0 own.0).0 e in
      let tie : texts own.0 site.0 ≡ Equal = ap (texts own.0) same ∙ tied_itself nat_list_cmp_total own.0 in
      absurd (false≢true (sym (ap is_lt tie) ∙ before))
  | false ↦ λ e. refl
] refl
not_live_before (Kept own n) site before = refl
not_live_before (Alias own name) site before = refl
not_live_before (Draft own n) site before = refl

-- where no cell is of an earlier site, the live ones come first
own_site : (own site other : List ℕ) → is_lt (texts own site) ≡ false → site ≡ other → texts own other ≡ Less → ⊥
own_site own site other late same less = false≢true (sym late ∙ ap (λ t. is_lt (texts own t)) same ∙ ap is_lt less)

live_earlier : (a b : Cell) (site : SiteName) → cell_cmp a b ≡ Less → is_of_site_before a site ≡ false → is_live_of site b ≡ true → is_live_of site a ≡ true
live_earlier (Live own p) (Live other q) site less late live =
    let same : site.0 ≡ other.0 = (bytes_decides site.0 other.0).0 live in
    ⊎_elim
    (λ at_site. absurd (own_site own.0 site.0 other.0 late same at_site))
    (λ tie. (bytes_decides site.0 own.0).1 (same ∙ sym (texts-IsAntisymmetric own.0 other.0 tie.0)))
    (then_less (texts own.0 other.0) _ less)
live_earlier (Kept own n) (Live other q) site less late live =
    ⊎_elim
    (λ at_site. absurd (own_site own.0 site.0 other.0 late ((bytes_decides site.0 other.0).0 live) at_site))
    (λ tie. cc (tie.1))
    (then_less (texts own.0 other.0) _ less)
live_earlier (Alias own n) (Live other q) site less late live =
    ⊎_elim
    (λ at_site. absurd (own_site own.0 site.0 other.0 late ((bytes_decides site.0 other.0).0 live) at_site))
    (λ tie. cc (tie.1))
    (then_less (texts own.0 other.0) _ less)
live_earlier (Draft own n) (Live other q) site less late live =
    ⊎_elim
    (λ at_site. absurd (own_site own.0 site.0 other.0 late ((bytes_decides site.0 other.0).0 live) at_site))
    (λ tie. cc (tie.1))
    (then_less (texts own.0 other.0) _ less)
live_earlier a (Kept other n) site less late live = absurd (false≢true live)
live_earlier a (Alias other n) site less late live = absurd (false≢true live)
live_earlier a (Draft other n) site less late live = absurd (false≢true live)

pub live_together : (site : SiteName) → StandTogether cell_cmp (λ c. is_of_site_before c site) (is_live_of site)
live_together site = record {
  falls = λ a b. before_earlier a b site;
  apart = λ c. not_live_before c site;
  first = λ a b. live_earlier a b site;
}
