use Rattle.std.proofs.Common.{◌-◌, Result, Ok, Err, IfOk, sym, subst}
use Rattle.touch_index.specs.Postings.{Postings}
use Rattle.change_undo.specs.Indexed.{IsIndexOf}
use Rattle.change_undo.specs.PlannedEntries.{with_undone}
use Rattle.change_undo.proofs.Indexed.{indexed-gone, indexed-undone}
use Rattle.change_undo.proofs.records.Records.index_after_undo.Goals as goal

where_ok : {X E : Type 0} (P Q : X → Type 0) (r : Result X E) → ((x : X) → P x → Q x) → IfOk r P → IfOk r Q
where_ok P Q (Ok x) f p = f x p
where_ok P Q (Err e) f p = tt

pub returns-in-Some : goal.returns-in-Some
returns-in-Some c =
    let k = c.args.change in
    let base = c.args.self.now.base in
    let logged = c.args.self.now.logged in
    where_ok _ (IsIndexOf base (with_undone (k - base - 1) logged)) c.without.result
    (λ index posted. indexed-undone index c.index-index.result.now base logged c.in-Some.plan.now k c.requires.some (sym c.in-Some.ensures) c.index-index.ensures posted)
    c.without.ensures

pub returns-in-None : goal.returns-in-None
returns-in-None c =
    let k = c.args.change in
    let base = c.args.self.now.base in
    let logged = c.args.self.now.logged in
    where_ok _ (IsIndexOf base (with_undone (k - base - 1) logged)) c.copy.result
    (λ index same. indexed-gone index base logged k c.requires.some (sym c.in-None.ensures)
    (subst (λ (es : Postings). IsIndexOf base logged es) (sym same) c.index-index.ensures))
    c.copy.ensures
