-- What a command touches is of its site.
use Rattle.std.proofs.Common.{◌≡◌, ℕ, Bool, true, false, cond, ◌||◌, List, [], ◌∷◌, Option, Some, None, refl, sym, ap}
use Rattle.std.specs.Str.{bytes_eq}
use Rattle.std.proofs.lemmas.Slice.Eq.{bytes_eq-Decides}
use Rattle.host_names.specs.Cells.{site_of}
use Rattle.host_names.specs.declared.cells.Cell.{Cell}
use Rattle.host_names.specs.declared.cells.Cell.TheVariants as cell
use Rattle.host_names.specs.declared.digests.Digest.{Digest}
use Rattle.host_names.specs.declared.names.SiteName.{SiteName}
use Rattle.site_state.specs.Files.{Paths}
use Rattle.site_state.specs.States.{is_alias_of, is_live_of}
use Rattle.site_state.specs.declared.values.Draft.{Draft}
use Rattle.site_change.specs.Changes.{is_listed, publish_touches, restore_touches, same_cell}
use Rattle.site_change.proofs.Effects.{one_cell}

-- ---- one test each

-- a cell that passes one of two tests, each of which tells its site
pub either : (P : Type 0) (a b : Bool) → (a ≡ true → P) → (b ≡ true → P) → (a || b) ≡ true → P
either P true b first second e = first refl
either P false b first second e = second e

pub at_cell : (c d : Cell) → same_cell c d ≡ true → site_of c ≡ site_of d
at_cell c d e = ap site_of (one_cell c d e)

one_site : (a b : SiteName) → bytes_eq a.0 b.0 ≡ true → b ≡ a
one_site a b e = λ i. record { 0 = sym ((bytes_eq-Decides a.0 b.0).0 e) i }

pub at_path : (site : SiteName) (c : Cell) → is_live_of site c ≡ true → site_of c ≡ site
at_path site (cell.Live other path) e = one_site site other e
at_path site (cell.Kept other n) e = cc e
at_path site (cell.Alias other name) e = cc e
at_path site (cell.Draft other n) e = cc e

pub at_alias : (site : SiteName) (c : Cell) → is_alias_of site c ≡ true → site_of c ≡ site
at_alias site (cell.Live other path) e = cc e
at_alias site (cell.Kept other n) e = cc e
at_alias site (cell.Alias other name) e = one_site site other e
at_alias site (cell.Draft other n) e = cc e

at_listed : (site : SiteName) (files : Paths (Option Digest)) (c : Cell) → is_listed site files c ≡ true → site_of c ≡ site
at_listed site [] c e = cc e
at_listed site (f ∷ files) c e =
    either (site_of c ≡ site) (same_cell c (cell.Live site f.0)) (is_listed site files c) (at_cell c (cell.Live site f.0)) (at_listed site files c) e

-- ---- what several commands touch

pub at_publish : (site : SiteName) (m : ℕ) (draft : Option Draft) (c : Cell) → publish_touches site m draft c ≡ true → site_of c ≡ site
at_publish site m None c e = cc e
at_publish site m (Some draft) c e =
    elim (draft.files.0) as (λ t. cond t (is_listed site draft.files.1 c) (same_cell c (cell.Kept site m) || is_live_of site c) ≡ true → site_of c ≡ site) [
      | true ↦ at_listed site draft.files.1 c
      | false ↦ either (site_of c ≡ site) (same_cell c (cell.Kept site m)) (is_live_of site c) (at_cell c (cell.Kept site m)) (at_path site c)
    ] e

pub at_restore : (site : SiteName) (m : ℕ) (tree : Option (Paths (List ℕ))) (draft : Option Draft) (c : Cell) → restore_touches site m tree draft c ≡ true → site_of c ≡ site
at_restore site m (Some tree) draft c e = at_path site c e
at_restore site m None draft c e = at_publish site m draft c e
