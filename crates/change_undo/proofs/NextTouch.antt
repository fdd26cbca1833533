-- The next change that is posted under a key of the changed cells is the next that can touch one of them.
use Rattle.std.proofs.Common.{◌≡◌, inl, inr, ℕ, zero, suc, ◌+◌, ◌-◌, ◌<◌, ◌≤◌, Bool, true, false, cond, ◌||◌, List, [], ◌∷◌, drop, length, find, Option, Some, None, refl, sym, ap, ◌∙◌, arith}
use Rattle.std.specs.List.{list_any}
use Rattle.std.proofs.lemmas.Bool.{cases_lt}
use Rattle.site_state.specs.declared.changes.Change.{Change as CellChange}
use Rattle.site_state.specs.Changes.{cells_of}
use Rattle.site_change.specs.declared.plans.Plan.{Plan}
use Rattle.site_change.specs.declared.touched.Touched.{Touched}
use Rattle.site_change.specs.TouchedCells.{is_touched}
use Rattle.touch_index.specs.Keys.{covers, touched_keys}
use Rattle.touch_index.specs.Next.{IsNext}
use Rattle.touch_index.specs.Postings.{Postings, is_posted, may_touch_any}
use Rattle.touch_index.proofs.Covered.{covers-none, is_one_of, touched-covered}
use Rattle.change_undo.specs.Histories.{same_site}
use Rattle.change_undo.specs.Indexed.{IsIndexOf, has_key}
use Rattle.change_undo.specs.Kept.{first_touched, kept_touch, plan_of}
use Rattle.change_undo.specs.PlannedEntries.{PlannedEntry}
use Rattle.change_undo.proofs.Indexed.{plan_of-beyond}
use Rattle.change_undo.proofs.KeptClash.{kept_touch-at}
use Rattle.change_undo.proofs.WithoutClash.{in_cell}

or_none : (a b : Bool) → (a || b) ≡ false → (a ≡ false) × (b ≡ false)
or_none true b e = cc e
or_none false b e = (refl, e)

none-touched : (later : Touched) (changes : List CellChange) → list_any (λ change. covers (is_one_of (touched_keys later)) change.cell) changes ≡ false → find (is_touched later) (cells_of changes) ≡ None
none-touched later [] none = refl
none-touched later (change ∷ changes) none =
    let both = or_none (covers (is_one_of (touched_keys later)) change.cell) (list_any (λ change. covers (is_one_of (touched_keys later)) change.cell) changes) none in
    elim (is_touched later change.cell) as (λ b. is_touched later change.cell ≡ b → cond b (Some change.cell) (find (is_touched later) (cells_of changes)) ≡ None) [
      | true ↦ λ e. cc (sym (touched-covered later change.cell e) ∙ both.0)
      | false ↦ λ e. none-touched later changes both.1
    ] refl

-- a change that is posted under none of the keys touches none of the cells
pub untouched : (index : Postings) (base : ℕ) (logged : List PlannedEntry) (plan : Plan) (i : ℕ) → base < i → IsIndexOf base logged index
    → may_touch_any index plan.changes.items i ≡ false → first_touched plan (plan_of base logged i) ≡ None
untouched index base logged plan i above indexed none = one (plan_of base logged i) (λ key. indexed key i above)
  where
    one : (its : Option Plan) → ((key : ℕ) → is_posted index key i ≡ has_key its key) → first_touched plan its ≡ None
    one None same = refl
    one (Some later) same =
        let told = sym (λ j. list_any (λ (change : CellChange). covers (λ key. same key j) change.cell) plan.changes.items) ∙ none in
        let no = none-touched later.touched plan.changes.items told in
        elim (same_site later.touched.site plan.touched.site) as (λ b. cond b (find (is_touched later.touched) (cells_of plan.changes.items)) None ≡ None) [ true ↦ no | false ↦ refl ]

none_any : {X : Type 0} (xs : List X) → list_any (λ x. false) xs ≡ false
none_any [] = refl
none_any (x ∷ xs) = none_any xs

-- what is posted is one of the entries
pub within : (index : Postings) (base : ℕ) (logged : List PlannedEntry) (changes : List CellChange) (i : ℕ) → base < i → IsIndexOf base logged index
    → may_touch_any index changes i ≡ true → i ≤ base + length logged
within index base logged changes i above indexed posted = elim (cases_lt (base + length logged) i) [
  | inl beyond ↦
      let none : (key : ℕ) → is_posted index key i ≡ false = λ key. indexed key i above ∙ ap (λ o. has_key o key) (plan_of-beyond base logged i beyond) in
      let empty : (change : CellChange) → covers (λ key. is_posted index key i) change.cell ≡ false =
      λ change. (λ j. covers (λ key. none key j) change.cell) ∙ covers-none change.cell in
      cc (sym posted ∙ (λ j. list_any (λ (change : CellChange). empty change j) changes) ∙ none_any changes)
  | inr no_more ↦ no_more
]

drop_beyond : {X : Type 0} (i : ℕ) (xs : List X) → length xs ≤ i → drop i xs ≡ []
drop_beyond zero [] le = refl
drop_beyond zero (x ∷ xs) le = absurd (omega (arith, le))
drop_beyond (suc i) [] le = refl
drop_beyond (suc i) (x ∷ xs) le = drop_beyond i xs (omega (arith, le))

-- entries of which none touches a cell are passed over
skip : (plan : Plan) (base : ℕ) (logged : List PlannedEntry) (a d : ℕ) → base ≤ a
    → ((i : ℕ) → a < i → i ≤ a + d → first_touched plan (plan_of base logged i) ≡ None)
    → kept_touch plan (a + 1) (drop (a - base) logged) ≡ kept_touch plan (a + d + 1) (drop (a + d - base) logged)
skip plan base logged a zero above none = let e : a + 0 ≡ a = omega arith in λ j. kept_touch plan (sym e j + 1) (drop (sym e j - base) logged)
skip plan base logged a (suc d) above none =
    let e : a + 1 + d ≡ a + suc d = omega arith in
    one ∙ skip plan base logged (a + 1) d (omega (arith, above)) (λ i over upto. none i (omega (arith, over)) (omega (arith, upto)))
    ∙ (λ j. kept_touch plan (e j + 1) (drop (e j - base) logged))
  where
    one : kept_touch plan (a + 1) (drop (a - base) logged) ≡ kept_touch plan (a + 1 + 1) (drop (a + 1 - base) logged)
    one = elim (cases_lt (a - base) (length logged)) [
      | inl here ↦
          kept_touch-at plan base a logged above here
          ∙ ap (λ o. in_cell (a + 1) o (kept_touch plan (a + 1 + 1) (drop (a + 1 - base) logged))) (none (a + 1) (omega arith) (omega arith))
      | inr beyond ↦
          ap (kept_touch plan (a + 1)) (drop_beyond (a - base) logged beyond)
          ∙ sym (ap (kept_touch plan (a + 1 + 1)) (drop_beyond (a + 1 - base) logged (omega (arith, beyond))))
    ]

-- where there is no next one, none touches a cell
pub no_next : (index : Postings) (base : ℕ) (logged : List PlannedEntry) (plan : Plan) (a : ℕ) → base ≤ a → IsIndexOf base logged index
    → IsNext (may_touch_any index plan.changes.items) a None → kept_touch plan (a + 1) (drop (a - base) logged) ≡ None
no_next index base logged plan a above indexed none =
    let d = length logged in
    skip plan base logged a d above (λ i over upto. untouched index base logged plan i (omega (arith, above, over)) indexed (none i over))
    ∙ ap (kept_touch plan (a + d + 1)) (drop_beyond (a + d - base) logged (omega (arith, above)))

-- the next one is looked at, and those before it are passed over
pub next_one : (index : Postings) (base : ℕ) (logged : List PlannedEntry) (plan : Plan) (a n : ℕ) → base ≤ a → IsIndexOf base logged index
    → IsNext (may_touch_any index plan.changes.items) a (Some n)
    → kept_touch plan (a + 1) (drop (a - base) logged) ≡ in_cell n (first_touched plan (plan_of base logged n)) (kept_touch plan (n + 1) (drop (n - base) logged))
next_one index base logged plan a n above indexed next =
    let d = n - 1 - a in
    let before : a + d ≡ n - 1 = omega (arith, next.0) in
    let last = within index base logged plan.changes.items n (omega (arith, above, next.0)) indexed next.1 in
    let at : n - 1 + 1 ≡ n = omega (arith, next.0) in
    skip plan base logged a d above (λ i over upto. untouched index base logged plan i (omega (arith, above, over)) indexed (next.2 i over (omega (arith, before, upto, next.0))))
    ∙ (λ j. kept_touch plan (before j + 1) (drop (before j - base) logged))
    ∙ kept_touch-at plan base (n - 1) logged (omega (arith, above, next.0)) (omega (arith, above, last, next.0))
    ∙ (λ j. in_cell (at j) (first_touched plan (plan_of base logged (at j))) (kept_touch plan (at j + 1) (drop (at j - base) logged)))
