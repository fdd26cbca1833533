use Rattle.std.proofs.Common.{◌≡◌, ◌≤◌, inl, inr, ℕ, true, is_some, Option, Some, None, refl, ap}
use Rattle.std.specs.FinMap as map
use Rattle.byte_view.specs.Contents.{Contents}
use Rattle.host_names.specs.declared.cells.Cell.{Cell}
use Rattle.host_names.specs.declared.cells.Cell.TheVariants as cell
use Rattle.change_log.specs.Bases.{IsBase, Names, deploy_of}
use Rattle.change_log.specs.declared.names.Name.{Name}
use Rattle.change_undo.proofs.laws.a_base_has_deploys_up_to_its_number.Goals as goal

numbered : (uploads : Contents) (base n : ℕ) (names : Names) (c : Cell) (found : Option Name) → IsBase uploads base names → map.get names c ≡ found → is_some found ≡ true
    → deploy_of c ≡ Some n → (1 ≤ n) × (n ≤ base)
numbered uploads base n names c None is at there of = cc there
numbered uploads base n names c (Some v) is at there of = is.within c v n at of

pub returns-clause-within : goal.returns-clause-within
returns-clause-within c uploads base number names entries site is (inl there) = numbered uploads base number names (cell.Draft site number) _ is refl there refl
returns-clause-within c uploads base number names entries site is (inr there) = numbered uploads base number names (cell.Kept site number) _ is refl there refl

pub returns-clause-draft : goal.returns-clause-draft
returns-clause-draft c log site number draft is = inl (ap is_some is)
