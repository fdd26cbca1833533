-- What changes have on a side.
use Rattle.std.proofs.Common.{◌≡◌, ℕ, ◌+◌, ◌<◌, Bool, true, List, [], ◌∷◌, map, length, get_or, All, Option, IsTrue, Ordering, Less, Equal, Greater, is_lt, refl, sym, ap, ap₂, subst, ◌∙◌, arith}
use Rattle.std.specs.List.{AllAdjacentBelow}
use Rattle.std.specs.List.Sorted.{IsStrictlySortedBy}
use Rattle.std.specs.Map.{keys_of}
use Rattle.std.proofs.lemmas.List.{get_or-map, length-map}
use Rattle.std.proofs.lemmas.List.Elements.{All-map}
use Rattle.std.proofs.lemmas.Map.Keys.{sorted_from_all_adjacent}
use Rattle.host_names.specs.Cells.{cell_cmp}
use Rattle.host_names.specs.CellOrder.{cell_cmp_total}
use Rattle.host_names.specs.declared.cells.Cell.{Cell}
use Rattle.site_state.specs.Changes.{AreOfKindOn, cells_of, on_side, writes}
use Rattle.site_state.specs.States.{may_stand}
use Rattle.site_state.specs.declared.changes.Change.{Change}
use Rattle.site_state.specs.declared.changes.Side.{Side}
use Rattle.site_state.specs.declared.values.Value.{Value}

-- what they have on a side is of its cells' kinds
pub writes_of_kind : (side : Side) (changes : List Change) → AreOfKindOn side changes → All (λ (e : Cell × Option Value). IsTrue (may_stand e.0 e.1)) (writes side changes)
writes_of_kind side changes are = All-map (λ (e : Cell × Option Value). IsTrue (may_stand e.0 e.1)) (λ (change : Change). (change.cell, on_side side change)) changes are

-- ---- the look at neighbours

-- whether the cell of the one comes before that of the other
abbrev pub is_before : Change → Change → Bool
is_before one other = is_lt (cell_cmp one.cell other.cell)

less_from : (r : Ordering) → true ≡ is_lt r → r ≡ Less
less_from Less e = refl
less_from Equal e = cc e
less_from Greater e = cc e

pub keys_of-writes : (side : Side) (changes : List Change) → keys_of (writes side changes) ≡ cells_of changes
keys_of-writes side [] = refl
keys_of-writes side (x ∷ changes) = ap (λ cells. x.cell ∷ cells) (keys_of-writes side changes)

pub rises : (side : Side) (changes : List Change) → AllAdjacentBelow (λ x y. true ≡ is_before x y) changes (length changes) → IsStrictlySortedBy cell_cmp (keys_of (writes side changes))
unfolding IsStrictlySortedBy
rises side [] before = tt
rises side (first ∷ changes) before =
    let all = first ∷ changes in
    let key : Change → Cell = λ change. change.cell in
    let K : List Cell → Type 0 = IsStrictlySortedBy cell_cmp in
    subst K (sym (keys_of-writes side all)) (sorted_from_all_adjacent cell_cmp_total (cells_of all) first.cell (λ k within.
    let place : (j : ℕ) → j < length all → get_or (cells_of all) j first.cell ≡ (get_or all j first).cell = λ j inside. get_or-map key all j first first.cell inside in
    let second : k + 1 < length all = omega (arith, within, length-map all key) in
    let less : cell_cmp (get_or all k first).cell (get_or all (k + 1) first).cell ≡ Less = less_from _ (before k first second) in
    ap₂ cell_cmp (place k (omega (arith, second))) (place (k + 1) second) ∙ less))
