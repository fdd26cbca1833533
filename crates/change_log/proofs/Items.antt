-- The items of names, and the map that they mean.
use Rattle.std.proofs.Common.{◌≡◌, true, false, cond, List, [], ◌∷◌, filter, Option, Some, Result, Ok, Err, OnOk, OnErr, refl, sym, ap, subst, ◌∙◌}
use Rattle.std.specs.FinMap as finmap
use Rattle.std.specs.List.{AllByRecursion}
use Rattle.std.specs.Ordering.{eq_by_cmp, is_eq}
use Rattle.host_names.specs.declared.cells.Cell.{Cell}
use Rattle.host_names.specs.Cells.{cell_cmp}
use Rattle.host_names.specs.CellOrder.{cell_cmp_total, cell_cmp-IsAntisymmetric}
use Rattle.persistent_maps.specs.Edits.{edited}
use Rattle.persistent_maps.proofs.Edits.{equal, Rises-edited, find-edited, AllByRecursion-edited}
use Rattle.persistent_maps.proofs.Entries.{is_sorted-from}
use Rattle.change_log.specs.Bases.{Names}
use Rattle.change_log.specs.Items.{AreItems, IsLawful}
use Rattle.change_log.specs.declared.names.Name.{Name}

abbrev pub Items : Type 0
Items = List (Cell × Name)

-- the map that items mean
abbrev pub names_in : Items → Names
names_in items = finmap.from_sorted items

pub get-names_in : (items : Items) (c : Cell) → AreItems items → finmap.get (names_in items) c ≡ finmap.find cell_cmp c items
get-names_in items c are = finmap.get-from_sorted cell_cmp items c (is_sorted-from cell_cmp items are.sorted)

pub entries-names_in : (items : Items) → AreItems items → finmap.entries (names_in items) ≡ items
entries-names_in items are = finmap.entries-from_sorted cell_cmp items (is_sorted-from cell_cmp items are.sorted)

-- what is found in a cell is lawful
pub found_lawful : (items : Items) (c : Cell) (v : Name) → AllByRecursion (λ e. IsLawful e.0 e.1) items → finmap.find cell_cmp c items ≡ Some v → IsLawful c v
found_lawful [] c v all is = cc is
found_lawful (e ∷ items) c v all is =
    elim (is_eq (cell_cmp c e.0)) as (λ t. is_eq (cell_cmp c e.0) ≡ t → cond t (Some e.1) (finmap.find cell_cmp c items) ≡ Some v → IsLawful c v) [
      | true ↦ λ tie h.
          let at : e.0 ≡ c = sym (cell_cmp-IsAntisymmetric c e.0 (equal (cell_cmp c e.0) tie)) in
          let same : e.1 ≡ v = cc h in
          let P : Cell × Name → Type 0 = λ p. IsLawful p.0 p.1 in
          subst P (λ i. (at i, same i)) all.0
      | false ↦ λ other h. found_lawful items c v all.1 h
    ] refl is

-- the items after one is put are items, and mean the map with it
AreItems-edited : (items : Items) (c : Cell) (v : Name) → AreItems items → IsLawful c v → AreItems (edited cell_cmp items c (Some v))
AreItems-edited items c v are law = record {
  sorted = Rises-edited cell_cmp_total items c (Some v) are.sorted;
  lawful = AllByRecursion-edited cell_cmp_total (λ (e : Cell × Name). IsLawful e.0 e.1) items c (Some v) (law, tt) are.lawful;
}

names_in-edited : (items : Items) (c : Cell) (v : Name) → AreItems items → IsLawful c v → names_in (edited cell_cmp items c (Some v)) ≡ finmap.insert (names_in items) c v
names_in-edited items c v are law = finmap.same_map cell_cmp_total cell_cmp-IsAntisymmetric _ _ (λ q.
    get-names_in (edited cell_cmp items c (Some v)) q (AreItems-edited items c v are law)
    ∙ find-edited cell_cmp_total cell_cmp-IsAntisymmetric q items c (Some v) are.sorted
    ∙ ap (cond (eq_by_cmp cell_cmp q c) (Some v)) (sym (get-names_in items q are))
    ∙ sym (finmap.get-insert cell_cmp_total (names_in items) c v q))

-- one is put, or, if that fails, nothing changes
pub put_or_kept : {A E : Type 0} (r : Result A E) (old new : Items) (names : Names) (c : Cell) (v : Name) → AreItems old → names_in old ≡ names → IsLawful c v
    → OnOk r (new ≡ edited cell_cmp old c (Some v)) → OnErr r (new ≡ old)
    → record { items : AreItems new; ok : OnOk r (names_in new ≡ finmap.insert names c v); err : OnErr r (names_in new ≡ names) }
put_or_kept (Ok x) old new names c v are is law ok err = record {
  items = subst AreItems (sym ok) (AreItems-edited old c v are law);
  ok = ap names_in ok ∙ names_in-edited old c v are law ∙ ap (λ (m : Names). finmap.insert m c v) is;
  err = tt;
}
put_or_kept (Err x) old new names c v are is law ok err = record { items = subst AreItems (sym err) are; ok = tt; err = ap names_in err ∙ is }

pub filter_all : {X : Type 0} (xs : List X) → filter (λ x. true) xs ≡ xs
filter_all [] = refl
filter_all (x ∷ xs) = ap (λ ys. x ∷ ys) (filter_all xs)
