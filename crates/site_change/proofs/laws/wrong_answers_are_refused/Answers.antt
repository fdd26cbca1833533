use Rattle.std.proofs.Common.{◌≡◌, ℕ, Bool, true, false, not, cond, List, ◌∷◌, ◌++◌, Option, Some, None, sym, ap, subst, refl, ◌∙◌, arith}
use Rattle.std.specs.FinMap as map
use Rattle.std.specs.Ordering.{eq_by_cmp}
use Rattle.std.proofs.lemmas.Cmp.{eq_by_cmp_equiv}
use Rattle.host_names.specs.Digests.{digest_of, digest_cmp, digest_cmp_total}
use Rattle.byte_view.specs.Contents.{Contents}
use Rattle.host_names.specs.Cells.{cell_cmp}
use Rattle.host_names.specs.CellOrder.{cell_cmp_total}
use Rattle.host_names.specs.declared.cells.Cell.{Cell}
use Rattle.host_names.specs.declared.cells.Cell.TheVariants as cell
use Rattle.host_names.specs.declared.digests.Digest.{Digest}
use Rattle.site_state.specs.States.{State}
use Rattle.site_state.specs.declared.values.Value.{Value}
use Rattle.site_state.specs.declared.values.Value.TheVariants as value
use Rattle.site_change.specs.TouchedCells.{is_touched}
use Rattle.site_change.specs.Uploaded.{HoldsUploaded}
use Rattle.site_change.proofs.laws.wrong_answers_are_refused.Goals as goal

-- a cell has what was written there
there : (state : State) (c : Cell) (v : Value) → map.get {R = cell_cmp} (map.insert state c v) c ≡ Some v
there state c v = map.get-insert cell_cmp_total state c v c
    ∙ ap (λ b. cond b (Some v) (map.get {R = cell_cmp} state c)) ((eq_by_cmp_equiv cell_cmp_total).refl c)

-- what was uploaded is there
uploaded : (contents : Contents) (digest : Digest) (bytes : List ℕ) → map.get {R = digest_cmp} (map.insert contents digest bytes) digest ≡ Some bytes
uploaded contents digest bytes = map.get-insert digest_cmp_total contents digest bytes digest
    ∙ ap (λ b. cond b (Some bytes) (map.get {R = digest_cmp} contents digest)) ((eq_by_cmp_equiv digest_cmp_total).refl digest)

not_itself : (b : Bool) → b ≡ not b → ⊥
not_itself true same = cc same
not_itself false same = cc same

pub returns-clause-touched : goal.returns-clause-touched
returns-clause-touched c touched site are =
    not_itself (is_touched touched (cell.Kept site 0)) (are.1 (cell.Kept site 0))

pub returns-clause-uploaded : goal.returns-clause-uploaded
returns-clause-uploaded c site path file are =
    let live = cell.Live site path in
    let was = subst (HoldsUploaded map.empty) (there map.empty live (value.Live file)) (are live) in
    absurd (cc (sym (map.get-empty digest_cmp (digest_of file)) ∙ was))

pub returns-clause-patch : goal.returns-clause-patch
returns-clause-patch c site m uploads files before after v leaves = absurd (cc (sym (there after (cell.Draft site m) v) ∙ leaves.draft))

pub returns-clause-deploy : goal.returns-clause-deploy
returns-clause-deploy c site m uploads files before after v leaves = absurd (cc (sym (there after (cell.Draft site m) v) ∙ leaves.draft))

pub returns-clause-folder : goal.returns-clause-folder
returns-clause-folder c site source target rest before after v leaves =
    absurd (cc (sym (there after (cell.Live site (source ++ 47 ∷ rest)) v) ∙ leaves.emptied rest))

pub returns-clause-agree : goal.returns-clause-agree
returns-clause-agree c state at v none agree = absurd (cc (sym (there state at v) ∙ (agree at refl ∙ none)))

pub returns-clause-within : goal.returns-clause-within
returns-clause-within c contents digest bytes within =
    absurd (cc (sym (map.get-empty digest_cmp digest) ∙ within digest bytes (uploaded contents digest bytes)))
