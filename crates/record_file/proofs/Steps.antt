-- What a step of a disk and its sync leave.
use Rattle.std.proofs.Common.{◌≡◌, ℕ, List, inl, inr, ⊎_elim, sym, subst, Result, Ok, Err, OnOk, OnErr, false, true, ◌∙◌}
use Rattle.host_disk.specs.Crashes.{LeavesOnly}
use Rattle.std.specs.Result.{IfOk, is_err, IsErrAnd, IfErr}

module _ {D : Type 0} (moment : D → ℕ) (left_since : D → ℕ → List ℕ → Type 0) where
  -- less is said of what is left
  pub weaker : (old new : D) (P Q : List ℕ → Type 0) → ((c : List ℕ) → P c → Q c) → LeavesOnly moment left_since old new P → LeavesOnly moment left_since old new Q
  weaker old new P Q from run = record {
    later = run.later;
    each = λ c left. from c (run.each c left);
    before = λ t c le left. ⊎_elim (λ was. inl was) (λ p. inr (from c p)) (run.before t c le left);
  }

-- two facts of an Ok give a third
pub both_on_ok : {T E : Type 0} (result : Result T E) (P Q R : Type 0) → (P → Q → R) → OnOk result P → OnOk result Q → OnOk result R
both_on_ok (Ok x) P Q R from p q = from p q
both_on_ok (Err x) P Q R from p q = tt

-- a fact of an Ok, where there was no error
pub from_ok : {T E : Type 0} (result : Result T E) (P : Type 0) → false ≡ is_err result → OnOk result P → P
from_ok (Ok x) P none p = p
from_ok (Err x) P none p = absurd (cc none)

-- a fact of an error, where there was one
pub from_err : {T E : Type 0} (result : Result T E) (P : Type 0) → true ≡ is_err result → OnErr result P → P
from_err (Ok x) P some p = absurd (cc some)
from_err (Err x) P some p = p

-- an error that is handed on
pub same_fault : {T E : Type 0} (result : Result T E) (fault : E) (P : E → Type 0) → IsErrAnd result (λ f. f ≡ fault) → P fault → IfErr result P
same_fault (Ok x) fault P is p = tt
same_fault (Err x) fault P is p = subst P (sym is) p

-- a fact of the value of an Ok gives another
pub if_ok : {T E : Type 0} (result : Result T E) (P Q : T → Type 0) → ((x : T) → P x → Q x) → IfOk result P → IfOk result Q
if_ok (Ok x) P Q from p = from x p
if_ok (Err x) P Q from p = tt

-- a fact of the value of an Err gives another
pub if_err : {T E : Type 0} (result : Result T E) (P Q : E → Type 0) → ((e : E) → P e → Q e) → IfErr result P → IfErr result Q
if_err (Ok x) P Q from p = tt
if_err (Err e) P Q from p = from e p

-- two facts of the value of an Ok give a third
pub both_if_ok : {T E : Type 0} (result : Result T E) (P Q R : T → Type 0) → ((x : T) → P x → Q x → R x) → IfOk result P → IfOk result Q → IfOk result R
both_if_ok (Ok x) P Q R from p q = from x p q
both_if_ok (Err x) P Q R from p q = tt

-- a fact of an error gives another
pub if_fails : {T E : Type 0} (result : Result T E) (P Q : Type 0) → (P → Q) → OnErr result P → OnErr result Q
if_fails (Ok x) P Q from p = tt
if_fails (Err x) P Q from p = from p

-- a fact that holds without an error too
pub on_err : {T E : Type 0} (result : Result T E) (P : Type 0) → P → OnErr result P
on_err (Ok x) P p = tt
on_err (Err x) P p = p

-- which error was handed on
pub same_error : {T E : Type 0} (result : Result T E) (fault told : E) → IsErrAnd result (λ f. f ≡ fault) → result ≡ Err told → fault ≡ told
same_error (Ok x) fault told is err = absurd is
same_error (Err x) fault told is err = sym is ∙ cc err
