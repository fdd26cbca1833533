use Rattle.std.proofs.Common.{rules, ◌≡◌, ◌+◌, List, ◌∷◌, All, IsTrue, get_or, drop, arith, sym, ap, subst, ◌∙◌}
use Rattle.std.proofs.lemmas.List.{drop_more, take_all}
use Rattle.std.proofs.lemmas.List.Elements.{All-more}
use Rattle.site_state.specs.Changes.{AreOfKindOn, writes}
use Rattle.site_state.specs.States.{State, may_stand, with_cell, with_cells}
use Rattle.site_state.specs.declared.changes.Change.{Change}
use Rattle.site_state.specs.declared.changes.Side.TheVariants.{Before}
use Rattle.core_tests.proofs.tests.records.written_one_by_one.Goals as goal

abbrev IsOfKind : Change → Type 0
IsOfKind change = IsTrue (may_stand change.cell change.before)

pub changes-preserved : goal.changes-preserved
changes-preserved c =
    let changes = c.args.changes.now in
    let i = c.changes.change-index in
    let change = c.change-item.result in
    let at : change ≡ get_or changes i change = search rules in
    let kind : IsOfKind change = search rules in
    let split : drop i changes ≡ change ∷ drop (i + 1) changes = drop_more changes i change c.changes-test.true ∙ ap (λ (x : Change). x ∷ drop (i + 1) changes) (sym at) in
    let rest = writes Before (drop (i + 1) changes) in
    let same : c.in_ok-clone-2.field-0 ≡ change.before = search rules in
    let new : c.set_cell.new.self ≡ with_cell c.changes.copy change.cell change.before =
    c.in_ok-set_cell.ensures.ok ∙ (λ k. with_cell c.changes.copy (c.in_ok-clone.ensures.cases k) (same k)) in
    record {
      of_kind = All-more IsOfKind changes i change c.changes-test.true c.changes.invariant.of_kind (subst IsOfKind at kind);
      written = ap (λ (s : State). with_cells s rest) new ∙ sym (ap (λ (l : List Change). with_cells c.changes.copy (writes Before l)) split) ∙ c.changes.invariant.written;
    }

pub returns-clause-of_kind : goal.returns-clause-of_kind
returns-clause-of_kind c = subst (AreOfKindOn Before) (take_all c.changes.change-index c.args.changes.now (omega (arith, c.changes-test.false))) c.changes.invariant.of_kind
