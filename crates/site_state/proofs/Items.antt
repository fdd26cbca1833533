-- The items of a state, and the map that they mean.
use Rattle.std.proofs.Common.{Bor, is_some, IfSome, option_copied, ◌≡◌, true, false, cond, List, [], ◌∷◌, Option, Some, None, Result, Ok, Err, OnOk, OnErr, IsTrue, All, refl, sym, ap, subst, ◌∙◌}
use Rattle.std.specs.FinMap as finmap
use Rattle.std.specs.List.{AllByRecursion}
use Rattle.std.specs.Ordering.{eq_by_cmp, is_eq}
use Rattle.std.proofs.lemmas.List.Elements.{recursion_from_All}
use Rattle.host_names.specs.declared.cells.Cell.{Cell}
use Rattle.host_names.specs.Cells.{cell_cmp}
use Rattle.host_names.specs.CellOrder.{cell_cmp_total, cell_cmp-IsAntisymmetric}
use Rattle.site_state.specs.declared.values.Value.{Value}
use Rattle.site_state.specs.States.{State, AreOfKind, is_of_kind, may_stand, with_cell, with_cells}
use Rattle.persistent_maps.specs.Edits.{listed, edited, edited_by}
use Rattle.site_state.specs.Items.{AreItems, AreOfState}
use Rattle.site_state.specs.Named.{AliasesNamed}
use Rattle.persistent_maps.proofs.Edits.{equal, Rises-edited, find-edited, AllByRecursion-edited}
use Rattle.persistent_maps.proofs.Entries.{is_sorted-from}

abbrev pub Items : Type 0
Items = List (Cell × Value)

-- the map that items mean
abbrev pub state_of : Items → State
state_of items = finmap.from_sorted items

pub get-state_of : (items : Items) (cell : Cell) → AreItems items → finmap.get (state_of items) cell ≡ finmap.find cell_cmp cell items
get-state_of items cell are = finmap.get-from_sorted cell_cmp items cell (is_sorted-from cell_cmp items are.sorted)

-- what is found in a cell is of the cell's kind
pub found_of_kind : (items : Items) (c : Cell) → AllByRecursion (λ e. IsTrue (is_of_kind e.0 e.1)) items → IsTrue (may_stand c (finmap.find cell_cmp c items))
found_of_kind [] c kinds = refl
found_of_kind (e ∷ items) c kinds =
    elim (is_eq (cell_cmp c e.0)) as (λ t. is_eq (cell_cmp c e.0) ≡ t → IsTrue (may_stand c (cond t (Some e.1) (finmap.find cell_cmp c items)))) [
      | true ↦ λ tie. ap (λ x. is_of_kind x e.1) (cell_cmp-IsAntisymmetric c e.0 (equal (cell_cmp c e.0) tie)) ∙ kinds.0
      | false ↦ λ _. found_of_kind items c kinds.1
    ] refl

-- the same of what is lent
pub kind_shown : (c : Cell) (lent : Option (Bor Value)) (value : Option Value) → option_copied lent ≡ value → IsTrue (may_stand c value) → IfSome lent (λ v. IsTrue (is_of_kind c v.now))
kind_shown c None value shows kind = tt
kind_shown c (Some v) value shows kind = ap (may_stand c) shows ∙ kind

pub of_kind_as : (items : Items) (state : State) → AreItems items → state_of items ≡ state → AreOfKind state
of_kind_as items state are is c =
    ap (λ s. may_stand c (finmap.get s c)) (sym is) ∙ ap (may_stand c) (get-state_of items c are) ∙ found_of_kind items c are.of_kind

-- ---- writes

-- what is got after a write
pub get-with_cell : (state : State) (cell : Cell) (value : Option Value) (q : Cell) → finmap.get (with_cell state cell value) q ≡ cond (eq_by_cmp cell_cmp q cell) value (finmap.get state q)
get-with_cell state cell (Some v) q = finmap.get-insert cell_cmp_total state cell v q
get-with_cell state cell None q = finmap.get-remove cell_cmp_total state cell q

-- the items after a write are items, and mean the map after it
pub AreItems-edited : (items : Items) (cell : Cell) (value : Option Value) → AreItems items → IsTrue (may_stand cell value) → AreItems (edited cell_cmp items cell value)
AreItems-edited items cell value are kind = record {
  sorted = Rises-edited cell_cmp_total items cell value are.sorted;
  of_kind = AllByRecursion-edited cell_cmp_total (λ (e : Cell × Value). IsTrue (is_of_kind e.0 e.1)) items cell value (new cell value kind) are.of_kind;
}
  where
    new : (cell : Cell) (value : Option Value) → IsTrue (may_stand cell value) → AllByRecursion (λ (e : Cell × Value). IsTrue (is_of_kind e.0 e.1)) (listed cell value)
    new cell (Some v) kind = (kind, tt)
    new cell None kind = tt

pub state_of-edited : (items : Items) (cell : Cell) (value : Option Value) → AreItems items → IsTrue (may_stand cell value) → state_of (edited cell_cmp items cell value) ≡ with_cell (state_of items) cell value
state_of-edited items cell value are kind = finmap.same_map cell_cmp_total cell_cmp-IsAntisymmetric _ _ (λ q.
    get-state_of (edited cell_cmp items cell value) q (AreItems-edited items cell value are kind)
    ∙ find-edited cell_cmp_total cell_cmp-IsAntisymmetric q items cell value are.sorted
    ∙ ap (cond (eq_by_cmp cell_cmp q cell) value) (sym (get-state_of items q are))
    ∙ sym (get-with_cell (state_of items) cell value q))

pub wrote : (old new : Items) (state : State) (cell : Cell) (value : Option Value) → AreItems old → state_of old ≡ state → IsTrue (may_stand cell value) → new ≡ edited cell_cmp old cell value
    → record { items : AreItems new; map : state_of new ≡ with_cell state cell value }
wrote old new state cell value are is kind e = record {
  items = subst AreItems (sym e) (AreItems-edited old cell value are kind);
  map = ap state_of e ∙ state_of-edited old cell value are kind ∙ ap (λ s. with_cell s cell value) is;
}

-- the same of cells in turn
pub AreItems-edited_by : (items : Items) (cells : List (Cell × Option Value)) → AreItems items → AllByRecursion (λ (e : Cell × Option Value). IsTrue (may_stand e.0 e.1)) cells → AreItems (edited_by cell_cmp items cells)
AreItems-edited_by items [] are kinds = are
AreItems-edited_by items (c ∷ cells) are kinds = AreItems-edited_by (edited cell_cmp items c.0 c.1) cells (AreItems-edited items c.0 c.1 are kinds.0) kinds.1

pub state_of-edited_by : (items : Items) (cells : List (Cell × Option Value)) → AreItems items → AllByRecursion (λ (e : Cell × Option Value). IsTrue (may_stand e.0 e.1)) cells → state_of (edited_by cell_cmp items cells) ≡ with_cells (state_of items) cells
state_of-edited_by items [] are kinds = refl
state_of-edited_by items (c ∷ cells) are kinds =
    state_of-edited_by (edited cell_cmp items c.0 c.1) cells (AreItems-edited items c.0 c.1 are kinds.0) kinds.1
    ∙ ap (λ s. with_cells s cells) (state_of-edited items c.0 c.1 are kinds.0)

pub wrote_all : (old new : Items) (state : State) (cells : List (Cell × Option Value)) → AreItems old → state_of old ≡ state → All (λ (e : Cell × Option Value). IsTrue (may_stand e.0 e.1)) cells → new ≡ edited_by cell_cmp old cells
    → record { items : AreItems new; map : state_of new ≡ with_cells state cells }
wrote_all old new state cells are is kinds e =
    let each = recursion_from_All (λ (e : Cell × Option Value). IsTrue (may_stand e.0 e.1)) cells kinds in
    record {
      items = subst AreItems (sym e) (AreItems-edited_by old cells are each);
      map = ap state_of e ∙ state_of-edited_by old cells are each ∙ ap (λ s. with_cells s cells) is;
    }

-- a write that may fail, and then changes nothing
pub wrote_or_kept : {A E : Type 0} (r : Result A E) (old new : Items) (state : State) (cell : Cell) (value : Option Value) → AreItems old → state_of old ≡ state → IsTrue (may_stand cell value)
    → OnOk r (new ≡ edited cell_cmp old cell value) → OnErr r (new ≡ old)
    → record { items : AreItems new; ok : OnOk r (state_of new ≡ with_cell state cell value); err : OnErr r (state_of new ≡ state) }
wrote_or_kept (Ok x) old new state cell value are is kind ok err =
    let done = wrote old new state cell value are is kind ok in
    record { items = done.items; ok = done.map; err = tt }
wrote_or_kept (Err x) old new state cell value are is kind ok err = record { items = subst AreItems (sym err) are; ok = tt; err = ap state_of err ∙ is }

-- many writes that may fail, and then change nothing
pub wrote_all_or_kept : {A E : Type 0} (r : Result A E) (old new : Items) (state : State) (cells : List (Cell × Option Value)) → AreItems old → state_of old ≡ state → All (λ (e : Cell × Option Value). IsTrue (may_stand e.0 e.1)) cells
    → OnOk r (new ≡ edited_by cell_cmp old cells) → OnErr r (new ≡ old)
    → record { items : AreItems new; ok : OnOk r (state_of new ≡ with_cells state cells); err : OnErr r (state_of new ≡ state) }
wrote_all_or_kept (Ok x) old new state cells are is kinds ok err =
    let done = wrote_all old new state cells are is kinds ok in
    record { items = done.items; ok = done.map; err = tt }
wrote_all_or_kept (Err x) old new state cells are is kinds ok err = record { items = subst AreItems (sym err) are; ok = tt; err = ap state_of err ∙ is }

-- what isn't there
pub none_from : {A : Type 0} (x : Option A) → is_some x ≡ false → x ≡ None
none_from None none = refl
none_from (Some a) none = cc none

-- nothing written where nothing is
pub kept_by_nothing : (state : State) (cell : Cell) (value : Option Value) → value ≡ None → finmap.get state cell ≡ None → state ≡ with_cell state cell value
kept_by_nothing state cell value none absent =
    finmap.same_map cell_cmp_total cell_cmp-IsAntisymmetric state (with_cell state cell None) (λ q.
    sym (get-with_cell state cell None q
    ∙ elim (eq_by_cmp cell_cmp q cell) as (λ b. eq_by_cmp cell_cmp q cell ≡ b → cond b None (finmap.get state q) ≡ finmap.get state q) [
      | true ↦ λ e. sym (ap (finmap.get state) (cell_cmp-IsAntisymmetric q cell (equal _ e)) ∙ absent)
      | false ↦ λ _. refl
    ] refl))
    ∙ ap (with_cell state cell) (sym none)

-- the items are those of a state again, where each alias names a kept deploy
pub named_as : (old : Items) (state : State) → AreOfState old → state_of old ≡ state → AliasesNamed state
named_as old state are is = subst AliasesNamed is are.named

pub of_state : (items : Items) (state : State) → AreItems items → state_of items ≡ state → AliasesNamed state → AreOfState items
of_state items state are is named = record { are_items = are; named = subst AliasesNamed (sym is) named }

pub of_state_or_kept : {A E : Type 0} (r : Result A E) (items : Items) (before after : State) → AreItems items → OnOk r (state_of items ≡ after) → OnErr r (state_of items ≡ before)
    → AliasesNamed before → AliasesNamed after → AreOfState items
of_state_or_kept (Ok x) items before after are ok err was named = of_state items after are ok named
of_state_or_kept (Err x) items before after are ok err was named = of_state items before are err was
