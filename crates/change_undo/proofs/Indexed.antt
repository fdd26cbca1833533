-- The index after a commit and after an undo.
use Rattle.std.proofs.Common.{◌≡◌, ℕ, zero, suc, ◌+◌, ◌-◌, ◌<◌, ◌≤◌, ◌==◌, Bool, true, false, cond, ◌&&◌, List, [], ◌∷◌, ◌++◌, length, Option, Some, None, refl, sym, ap, ◌∙◌, arith, eq-eqb}
use Rattle.std.proofs.lemmas.Bool.{eqb-true}
use Rattle.site_change.specs.declared.plans.Plan.{Plan}
use Rattle.touch_index.specs.Keys.{touched_keys}
use Rattle.touch_index.specs.Postings.{IsPostedAs, Postings, is_among, is_posted}
use Rattle.change_undo.specs.Indexed.{IsIndexOf, has_key}
use Rattle.change_undo.specs.Kept.{plan_at, plan_of}
use Rattle.change_undo.specs.PlannedEntries.{PlannedEntry, with_undone}
use Rattle.change_undo.proofs.Marked.{number_at}

same_or_not : (i n : ℕ) (b : Bool) → (b ≡ true → i ≡ n) → (i ≡ n → b ≡ true) → (i == n) ≡ b
same_or_not i n true f g = eq-eqb i n (f refl)
same_or_not i n false f g = elim (i == n) as (λ t. (i == n) ≡ t → t ≡ false) [ true ↦ λ e. cc (g (eqb-true i n e)) | false ↦ λ e. refl ] refl

suc_same : (i n : ℕ) → (suc i == suc n) ≡ (i == n)
suc_same i n = same_or_not (suc i) (suc n) (i == n) (λ e. ap suc (eqb-true i n e)) (λ e. eq-eqb i n (omega (arith, e)))

zero_not : (n : ℕ) → 0 < n → (0 == n) ≡ false
zero_not n some = same_or_not 0 n false (λ e. cc e) (λ e. absurd (omega (arith, e, some)))

suc_not : (i : ℕ) → (suc i == 0) ≡ false
suc_not i = same_or_not (suc i) 0 false (λ e. cc e) (λ e. absurd (omega (arith, e)))

-- ---- the plans

plan_at-push : (logged : List PlannedEntry) (l : PlannedEntry) (i : ℕ) → plan_at (logged ++ l ∷ []) i ≡ cond (i == length logged) l.plan (plan_at logged i)
plan_at-push [] l zero = refl
plan_at-push [] l (suc i) = ap (λ b. cond b l.plan None) (sym (suc_not i))
plan_at-push (x ∷ logged) l zero = ap (λ b. cond b l.plan x.plan) (sym (zero_not (length (x ∷ logged)) (omega arith)))
plan_at-push (x ∷ logged) l (suc i) = plan_at-push logged l i ∙ ap (λ b. cond b l.plan (plan_at logged i)) (sym (suc_same i (length logged)))

plan_at-undone : (k : ℕ) (logged : List PlannedEntry) (i : ℕ) → plan_at (with_undone k logged) i ≡ cond (i == k) None (plan_at logged i)
plan_at-undone k [] i = elim (i == k) as (λ b. ◌≡◌ {A = Option Plan} None (cond b None None)) [ true ↦ refl | false ↦ refl ]
plan_at-undone zero (x ∷ logged) zero = refl
plan_at-undone zero (x ∷ logged) (suc i) = ap (λ b. cond b None (plan_at logged i)) (sym (suc_not i))
plan_at-undone (suc k) (x ∷ logged) zero = ap (λ b. cond b None x.plan) (sym (zero_not (suc k) (omega arith)))
plan_at-undone (suc k) (x ∷ logged) (suc i) = plan_at-undone k logged i ∙ ap (λ b. cond b None (plan_at logged i)) (sym (suc_same i k))

plan_at-beyond : (logged : List PlannedEntry) (i : ℕ) → length logged ≤ i → plan_at logged i ≡ None
plan_at-beyond [] i beyond = refl
plan_at-beyond (x ∷ logged) zero beyond = absurd (omega (arith, beyond))
plan_at-beyond (x ∷ logged) (suc i) beyond = plan_at-beyond logged i (omega (arith, beyond))

pub plan_of-beyond : (base : ℕ) (logged : List PlannedEntry) (i : ℕ) → base + length logged < i → plan_of base logged i ≡ None
plan_of-beyond base logged i beyond =
    let j : ℕ = i - base - 1 in
    number_at (plan_at logged) base i j (omega (arith, beyond)) ∙ plan_at-beyond logged j (omega (arith, beyond))

-- whether two places are one, and whether their numbers are
same_place : (base i n j m : ℕ) → i ≡ base + suc j → n ≡ base + suc m → (j == m) ≡ (i == n)
same_place base i n j m at_i at_n =
    sym (same_or_not i n (j == m) (λ e. omega (arith, at_i, at_n, eqb-true j m e)) (λ e. eq-eqb j m (omega (arith, at_i, at_n, e))))

plan_of-push : (base : ℕ) (logged : List PlannedEntry) (l : PlannedEntry) (n i : ℕ) → n ≡ base + length logged + 1 → base < i
    → plan_of base (logged ++ l ∷ []) i ≡ cond (i == n) l.plan (plan_of base logged i)
plan_of-push base logged l n i next above =
    let j : ℕ = i - base - 1 in
    let at : i ≡ base + suc (i - base - 1) = omega (arith, above) in
    number_at (plan_at (logged ++ l ∷ [])) base i j at ∙ plan_at-push logged l j
    ∙ ap (cond (j == length logged) l.plan) (sym (number_at (plan_at logged) base i j at))
    ∙ ap (λ b. cond b l.plan (plan_of base logged i)) (same_place base i n j (length logged) at (omega (arith, next)))

plan_of-undone : (base : ℕ) (logged : List PlannedEntry) (k i : ℕ) → base < k → base < i
    → plan_of base (with_undone (k - base - 1) logged) i ≡ cond (i == k) None (plan_of base logged i)
plan_of-undone base logged k i some above =
    let j : ℕ = i - base - 1 in
    let at : i ≡ base + suc (i - base - 1) = omega (arith, above) in
    number_at (plan_at (with_undone (k - base - 1) logged)) base i j at ∙ plan_at-undone (k - base - 1) logged j
    ∙ ap (cond (j == k - base - 1) None) (sym (number_at (plan_at logged) base i j at))
    ∙ ap (λ b. cond b None (plan_of base logged i)) (same_place base i k j (k - base - 1) at (omega (arith, some)))

-- ---- the index

has_key-cond : (b : Bool) (its other : Option Plan) (key : ℕ) → has_key (cond b its other) key ≡ cond b (has_key its key) (has_key other key)
has_key-cond true its other key = refl
has_key-cond false its other key = refl

-- where the plan of one number has become another
other_plan : (new old : Postings) (base : ℕ) (after before : List PlannedEntry) (n : ℕ) (its : Option Plan) → IsIndexOf base before old
    → ((i : ℕ) → base < i → plan_of base after i ≡ cond (i == n) its (plan_of base before i))
    → ((key i : ℕ) → base < i → is_posted new key i ≡ cond (i == n) (has_key its key) (is_posted old key i)) → IsIndexOf base after new
other_plan new old base after before n its indexed plans posted = λ key i above.
    posted key i above ∙ ap (cond (i == n) (has_key its key)) (indexed key i above)
    ∙ sym (ap (λ o. has_key o key) (plans i above) ∙ has_key-cond (i == n) its (plan_of base before i) key)

added : (b l h : Bool) → (b ≡ true → h ≡ false) → cond (b && l) true h ≡ cond b l h
added true true h none = refl
added true false h none = none refl
added false l h none = refl

taken : (b l h : Bool) → (b ≡ true → h ≡ l) → cond (b && l) false h ≡ cond b false h
taken true true h same = refl
taken true false h same = same refl
taken false l h same = refl

left : (b h : Bool) → (b ≡ true → h ≡ false) → h ≡ cond b false h
left true h none = none refl
left false h none = refl

-- no number beyond the last is posted
beyond-posted : (index : Postings) (base : ℕ) (logged : List PlannedEntry) (n key i : ℕ) → n ≡ base + length logged + 1 → IsIndexOf base logged index → (i == n) ≡ true
    → is_posted index key i ≡ false
beyond-posted index base logged n key i next indexed at =
    indexed key i (omega (arith, next, eqb-true i n at))
    ∙ ap (λ o. has_key o key) (plan_of-beyond base logged i (omega (arith, next, eqb-true i n at)))

-- after a commit
pub indexed-change : (new old : Postings) (base : ℕ) (logged : List PlannedEntry) (l : PlannedEntry) (plan : Plan) (n : ℕ) → n ≡ base + length logged + 1 → l.plan ≡ Some plan
    → IsIndexOf base logged old → IsPostedAs true n (touched_keys plan.touched) old new → IsIndexOf base (logged ++ l ∷ []) new
indexed-change new old base logged l plan n next its indexed posted =
    other_plan new old base (logged ++ l ∷ []) logged n (Some plan) indexed
    (λ i above. plan_of-push base logged l n i next above ∙ ap (λ o. cond (i == n) o (plan_of base logged i)) its)
    (λ key i above. posted key i ∙ added (i == n) (is_among key (touched_keys plan.touched)) (is_posted old key i) (beyond-posted old base logged n key i next indexed))

-- after an entry without a plan
pub indexed-other : (index : Postings) (base : ℕ) (logged : List PlannedEntry) (l : PlannedEntry) → l.plan ≡ None → IsIndexOf base logged index
    → IsIndexOf base (logged ++ l ∷ []) index
indexed-other index base logged l none indexed =
    let n = base + length logged + 1 in
    other_plan index index base (logged ++ l ∷ []) logged n None indexed
    (λ i above. plan_of-push base logged l n i refl above ∙ ap (λ o. cond (i == n) o (plan_of base logged i)) none)
    (λ key i above. left (i == n) (is_posted index key i) (beyond-posted index base logged n key i refl indexed))

-- where the plan of a change is taken away
pub indexed-undone : (new old : Postings) (base : ℕ) (logged : List PlannedEntry) (plan : Plan) (k : ℕ) → base < k → plan_of base logged k ≡ Some plan
    → IsIndexOf base logged old → IsPostedAs false k (touched_keys plan.touched) old new → IsIndexOf base (with_undone (k - base - 1) logged) new
indexed-undone new old base logged plan k some its indexed posted =
    other_plan new old base (with_undone (k - base - 1) logged) logged k None indexed (λ i above. plan_of-undone base logged k i some above)
    (λ key i above. posted key i ∙ taken (i == k) (is_among key (touched_keys plan.touched)) (is_posted old key i)
    (λ at. indexed key i above ∙ ap (λ o. has_key o key) (ap (plan_of base logged) (eqb-true i k at) ∙ its)))

-- where there is none
pub indexed-gone : (index : Postings) (base : ℕ) (logged : List PlannedEntry) (k : ℕ) → base < k → plan_of base logged k ≡ None → IsIndexOf base logged index
    → IsIndexOf base (with_undone (k - base - 1) logged) index
indexed-gone index base logged k some none indexed =
    other_plan index index base (with_undone (k - base - 1) logged) logged k None indexed (λ i above. plan_of-undone base logged k i some above)
    (λ key i above. left (i == k) (is_posted index key i) (λ at. indexed key i above ∙ ap (λ o. has_key o key) (ap (plan_of base logged) (eqb-true i k at) ∙ none)))
