-- The aliases of a site are side by side in the order of cells.
use Rattle.std.proofs.Common.{◌≡◌, ⊎_elim, Bool, true, false, List, ℕ, Ordering, Less, Equal, Greater, refl, sym, ap, ◌∙◌, bytes_eq}
use Rattle.std.specs.Ordering.{ordering_then}
use Rattle.std.specs.Cmp.Lexicographic.{bytes_decides, nat_list_cmp_total}
use Rattle.std.proofs.lemmas.Bool.{false≢true}
use Rattle.std.proofs.lemmas.Cmp.{tied_itself}
use Rattle.host_names.specs.declared.names.SiteName.{SiteName}
use Rattle.host_names.specs.declared.cells.Cell.{Cell}
use Rattle.host_names.specs.declared.cells.Cell.TheVariants.{Live, Kept, Alias, Draft}
use Rattle.host_names.specs.Cells.{cell_cmp, site_of}
use Rattle.host_names.specs.CellOrder.{texts-IsAntisymmetric}
use Rattle.site_state.specs.States.{is_alias_of}
use Rattle.site_state.specs.AliasRange.{has_earlier_kind, by_site, is_before_aliases}
use Rattle.site_state.specs.SpanOfLive.{texts, then_less}
use Rattle.persistent_maps.specs.Spans.{StandTogether}

-- of two cells of one site the earlier has no later kind
rest_less : (r s : Ordering) → r ≡ Equal → ordering_then r s ≡ Less → s ≡ Less
rest_less Less s e h = cc e
rest_less Equal s e h = h
rest_less Greater s e h = cc e

tied : (own other : List ℕ) → own ≡ other → texts own other ≡ Equal
tied own other same = ap (texts own) (sym same) ∙ tied_itself nat_list_cmp_total own

kind_falls : (a b : Cell) → (site_of a).0 ≡ (site_of b).0 → cell_cmp a b ≡ Less → has_earlier_kind b ≡ true → has_earlier_kind a ≡ true
kind_falls (Live own p) b same less earlier = refl
kind_falls (Kept own n) b same less earlier = refl
kind_falls (Alias own name) (Live other q) same less earlier = cc (rest_less (texts own.0 other.0) _ (tied own.0 other.0 same) less)
kind_falls (Alias own name) (Kept other q) same less earlier = cc (rest_less (texts own.0 other.0) _ (tied own.0 other.0 same) less)
kind_falls (Alias own name) (Alias other q) same less earlier = earlier
kind_falls (Alias own name) (Draft other q) same less earlier = earlier
kind_falls (Draft own n) (Live other q) same less earlier = cc (rest_less (texts own.0 other.0) _ (tied own.0 other.0 same) less)
kind_falls (Draft own n) (Kept other q) same less earlier = cc (rest_less (texts own.0 other.0) _ (tied own.0 other.0 same) less)
kind_falls (Draft own n) (Alias other q) same less earlier = earlier
kind_falls (Draft own n) (Draft other q) same less earlier = earlier

-- a cell before one that comes before the aliases comes before them
before_falls : (site : SiteName) (a b : Cell) → cell_cmp a b ≡ Less → is_before_aliases b site ≡ true → is_before_aliases a site ≡ true
before_falls site a b less before = ⊎_elim
    (λ at_site. elim (texts (site_of b).0 site.0) as (λ r. texts (site_of b).0 site.0 ≡ r → by_site r (has_earlier_kind b) ≡ true → is_before_aliases a site ≡ true) [
      | Less ↦ λ e h. ap (λ r. by_site r (has_earlier_kind a)) (nat_list_cmp_total.trans (site_of a).0 (site_of b).0 site.0 at_site e)
      | Equal ↦ λ e h.
          ap (λ r. by_site r (has_earlier_kind a)) (sym (ap (texts (site_of a).0) (texts-IsAntisymmetric (site_of b).0 site.0 e)) ∙ at_site)
      | Greater ↦ λ e h. cc h
    ] refl before)
    (λ tie.
    let same = texts-IsAntisymmetric (site_of a).0 (site_of b).0 tie.0 in
    elim (texts (site_of b).0 site.0) as (λ r. texts (site_of b).0 site.0 ≡ r → by_site r (has_earlier_kind b) ≡ true → is_before_aliases a site ≡ true) [
      | Less ↦ λ e h. ap (λ r. by_site r (has_earlier_kind a)) (ap (λ t. texts t site.0) same ∙ e)
      | Equal ↦ λ e h. ap (λ r. by_site r (has_earlier_kind a)) (ap (λ t. texts t site.0) same ∙ e) ∙ kind_falls a b same less h
      | Greater ↦ λ e h. cc h
    ] refl before)
    (then_less (texts (site_of a).0 (site_of b).0) _ less)

-- what comes before the aliases is none of them
no_alias : (site : SiteName) (c : Cell) → is_before_aliases c site ≡ true → is_alias_of site c ≡ false
no_alias site (Live own path) before = refl
no_alias site (Kept own n) before = refl
no_alias site (Alias own name) before = elim (bytes_eq site.0 own.0) as (λ b. bytes_eq site.0 own.0 ≡ b → b ≡ false) [
  | true ↦ λ e.
      let tie : texts own.0 site.0 ≡ Equal = ap (texts own.0) ((bytes_decides site.0 own.0).0 e) ∙ tied_itself nat_list_cmp_total own.0 in
      absurd (false≢true (sym (ap (λ r. by_site r false) tie) ∙ before))
  | false ↦ λ e. refl
] refl
no_alias site (Draft own n) before = refl

late : (r : Ordering) (earlier : Bool) → by_site r earlier ≡ false → r ≡ Less → ⊥
late Less earlier h e = cc h
late Equal earlier h e = cc e
late Greater earlier h e = cc e

late_kind : (r : Ordering) → by_site r true ≡ false → r ≡ Equal → ⊥
late_kind Less h e = cc h
late_kind Equal h e = cc h
late_kind Greater h e = cc e

-- a cell that does not come before the aliases, but before one of them, is one
module _ (site : SiteName) (own other : List ℕ) (same : site.0 ≡ other) where
  earlier_site : (earlier : Bool) → by_site (texts own site.0) earlier ≡ false → texts own other ≡ Less → ⊥
  earlier_site earlier h less = late (texts own site.0) earlier h (ap (texts own) same ∙ less)

  own_site : texts own other ≡ Equal → texts own site.0 ≡ Equal
  own_site tie = ap (texts own) same ∙ tie

alias_first : (site : SiteName) (a b : Cell) → cell_cmp a b ≡ Less → is_before_aliases a site ≡ false → is_alias_of site b ≡ true → is_alias_of site a ≡ true
alias_first site (Live own p) (Alias other name) less behind alias =
    let same = (bytes_decides site.0 other.0).0 alias in
    ⊎_elim
    (λ at_site. absurd (earlier_site site own.0 other.0 same true behind at_site))
    (λ tie. absurd (late_kind (texts own.0 site.0) behind (own_site site own.0 other.0 same tie.0)))
    (then_less (texts own.0 other.0) _ less)
alias_first site (Kept own n) (Alias other name) less behind alias =
    let same = (bytes_decides site.0 other.0).0 alias in
    ⊎_elim
    (λ at_site. absurd (earlier_site site own.0 other.0 same true behind at_site))
    (λ tie. absurd (late_kind (texts own.0 site.0) behind (own_site site own.0 other.0 same tie.0)))
    (then_less (texts own.0 other.0) _ less)
alias_first site (Alias own n) (Alias other name) less behind alias =
    let same = (bytes_decides site.0 other.0).0 alias in
    ⊎_elim
    (λ at_site. absurd (earlier_site site own.0 other.0 same false behind at_site))
    (λ tie. (bytes_decides site.0 own.0).1 (same ∙ sym (texts-IsAntisymmetric own.0 other.0 tie.0)))
    (then_less (texts own.0 other.0) _ less)
alias_first site (Draft own n) (Alias other name) less behind alias =
    let same = (bytes_decides site.0 other.0).0 alias in
    ⊎_elim
    (λ at_site. absurd (earlier_site site own.0 other.0 same false behind at_site))
    (λ tie. cc (tie.1))
    (then_less (texts own.0 other.0) _ less)
alias_first site a (Live other q) less behind alias = absurd (false≢true alias)
alias_first site a (Kept other q) less behind alias = absurd (false≢true alias)
alias_first site a (Draft other q) less behind alias = absurd (false≢true alias)

pub aliases_together : (site : SiteName) → StandTogether cell_cmp (λ c. is_before_aliases c site) (is_alias_of site)
aliases_together site = record { falls = before_falls site; apart = no_alias site; first = alias_first site }
