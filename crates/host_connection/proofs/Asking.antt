-- A step asks its service for one answer at most.
use Rattle.std.proofs.Common.{◌≡◌, ◌⊎◌, inl, inr, ℕ, ◌+◌, ◌<◌, ◌≤◌, ◌∙◌, subst, sym, arith}
use Rattle.host_connection.specs.declared.phases.Phase.{Phase}
use Rattle.host_connection.specs.Carrying.{until_asked, AnswersOne, AnswersOnce, Asks}
use Rattle.host_connection.specs.Serving.{Answering}

-- the same of several phases: where an answer was asked for, none is for so many more
abbrev pub AskedOnce : {H : Type 0} → Answering H → (old new : H) → (gone_through : ℕ) → Phase → Type 0
AskedOnce answers old new gone_through p = (new ≡ old) ⊎ (AnswersOne answers old new × (3 ≤ until_asked p + gone_through))

-- one more phase
pub asked_on : {H : Type 0} (answers : Answering H) (old mid new : H) (gone_through : ℕ) (p q : Phase) → AskedOnce answers old mid gone_through p → gone_through < 3 → Asks answers mid new p q
    → AskedOnce answers old new (gone_through + 1) q
asked_on answers old mid new gone_through p q (inl same) few (inl by) = inl (by.0 ∙ same)
asked_on answers old mid new gone_through p q (inl same) few (inr by) = inr (subst (λ h. AnswersOne answers h new) same by.0, omega (arith, by.2))
asked_on answers old mid new gone_through p q (inr asked) few (inl by) = inr (subst (λ h. AnswersOne answers old h) (sym by.0) asked.0, omega (arith, asked.1, by.1))
asked_on answers old mid new gone_through p q (inr asked) few (inr by) = absurd (omega (arith, asked.1, by.1, few))

pub asked_in_all : {H : Type 0} (answers : Answering H) (old new : H) (gone_through : ℕ) (p : Phase) → AskedOnce answers old new gone_through p → AnswersOnce answers old new
asked_in_all answers old new gone_through p (inl same) = inl same
asked_in_all answers old new gone_through p (inr asked) = inr asked.0

-- before a phase in which the service may be asked it was not: else no phase of the step is left for that
pub not_asked : {H : Type 0} (answers : Answering H) (old new : H) (gone_through : ℕ) (p : Phase) → AskedOnce answers old new gone_through p → gone_through < 3 → until_asked p ≡ 0 → new ≡ old
not_asked answers old new gone_through p (inl same) few asks = same
not_asked answers old new gone_through p (inr asked) few asks = absurd (omega (arith, asked.1, few, asks))
