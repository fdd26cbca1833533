use Rattle.std.proofs.Common.{Bor, ◌≡◌, ◌⊎◌, inl, inr, ℕ, false, Option, Some, None, is_some, option_copied, refl, sym, ap, ◌∙◌}
use Rattle.host_names.specs.declared.cells.Cell.{Cell}
use Rattle.host_names.specs.declared.cells.Cell.TheVariants as cell
use Rattle.host_names.specs.declared.names.AliasName.{AliasName}
use Rattle.host_names.specs.declared.names.SiteName.{SiteName}
use Rattle.site_state.specs.States.{is_live_of}
use Rattle.site_change.specs.Changes.{is_listed}
use Rattle.site_change.proofs.Effects.{live_of}
use Rattle.site_change.proofs.Patches.{Listings, listed_path, not_listed}
use Rattle.site_change.proofs.touched.is_listed.Goals as goal

copied_some : {X : Type 0} (o : Option (Bor X)) → is_some o ≡ is_some (option_copied o)
copied_some None = refl
copied_some (Some x) = refl

module _ (site : SiteName) (files : Listings) (c : Cell) where
  other : (d : Cell) → c ≡ d → is_live_of site d ≡ false → false ≡ is_listed site files c
  other d is no_path = sym (ap (is_listed site files) is ∙ not_listed site files d no_path)

  no_path : ((of : SiteName) × (n : ℕ) × (c ≡ cell.Kept of n)) ⊎ (((of : SiteName) × (name : AliasName) × (c ≡ cell.Alias of name)) ⊎ ((of : SiteName) × (n : ℕ) × (c ≡ cell.Draft of n)))
      → false ≡ is_listed site files c
  no_path (inl kept) = other (cell.Kept kept.0 kept.1) kept.2 refl
  no_path (inr (inl alias)) = other (cell.Alias alias.0 alias.1) alias.2 refl
  no_path (inr (inr draft)) = other (cell.Draft draft.0 draft.1) draft.2 refl

pub returns-then-eq : goal.returns-then-eq
returns-then-eq c =
    let files = c.args.files.now.1 in
    let here = c.in-Live.is ∙ live_of c.args.site.now _ (sym c.eq.ensures ∙ c.if-eq.true) in
    c.is_some.ensures ∙ copied_some c.get.result ∙ ap is_some c.get.ensures
    ∙ sym (ap (is_listed c.args.site.now files) here ∙ listed_path c.args.site.now files c.in-Live.path)

pub returns-else-eq : goal.returns-else-eq
returns-else-eq c = c.if-eq.false ∙ other c.args.site.now c.args.files.now.1 c.args.cell.now _ c.in-Live.is (sym c.eq.ensures ∙ c.if-eq.false)

pub returns-in-Kept : goal.returns-in-Kept
returns-in-Kept c = no_path c.args.site.now c.args.files.now.1 c.args.cell.now c.in-Kept.is

pub returns-in-Kept-2 : goal.returns-in-Kept-2
returns-in-Kept-2 c = no_path c.args.site.now c.args.files.now.1 c.args.cell.now c.in-Kept.is

pub returns-in-Kept-3 : goal.returns-in-Kept-3
returns-in-Kept-3 c = no_path c.args.site.now c.args.files.now.1 c.args.cell.now c.in-Kept.is
