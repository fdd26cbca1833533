-- Reading paths one after another, as a loop does.
use Rattle.std.proofs.Common.{◌≡◌, ℕ, suc, ◌-◌, ◌+◌, ◌≤◌, ◌<◌, List, [], ◌∷◌, ◌++◌, Option, Some, None, Result, Ok, Err, is_some, inl, inr, refl, sym, ap, subst, ◌∙◌, append_assoc, append-nil, arith}
use Rattle.std.specs.Option.{IsSome}
use Rattle.std.proofs.lemmas.Bool.{cases_eq}
use Rattle.entry_texts.specs.declared.decode_faults.DecodeFault.{DecodeFault}
use Rattle.entry_texts.specs.declared.decode_faults.DecodeFault.TheVariants as faults
use Rattle.entry_texts.specs.Reading.{◌>>=◌, Fails, path_at, digest_at, listed_at, files_at}
use Rattle.entry_texts.proofs.Taking.{bind_some}
use Rattle.entry_texts.proofs.Listed.{Entry}

-- what was read before, and what is still read
abbrev pub with_front : List Entry → Option (List Entry × List ℕ) → Option (List Entry × List ℕ)
with_front front read = read >>= λ x. Some (front ++ x.0, x.1)

regroup : (front : List Entry) (e : Entry) (read : Option (List Entry × List ℕ)) → with_front front (read >>= λ x. Some (e ∷ x.0, x.1)) ≡ with_front (front ++ e ∷ []) read
regroup front e (Some x) = ap (λ (es : List Entry). Some (es, x.1)) (simp append_assoc)
regroup front e None = refl

pub goes_on : (front : List Entry) (count i : ℕ) (bytes : List ℕ) (e : Entry) (after : List ℕ) (total : Option (List Entry × List ℕ)) → i < count → listed_at bytes ≡ Some (e, after)
    → with_front front (files_at (count - i) bytes) ≡ total → with_front (front ++ e ∷ []) (files_at (count - (i + 1)) after) ≡ total
unfolding files_at
goes_on front count i bytes e after total lt h so_far =
    let k : count - i ≡ suc (count - (i + 1)) = omega arith in
    let one : with_front front (files_at (count - i) bytes) ≡ with_front (front ++ e ∷ []) (files_at (count - (i + 1)) after) = rw (k, h) (regroup front e (files_at (count - (i + 1)) after)) in
    sym one ∙ so_far

pub ends : (fault : DecodeFault) (front : List Entry) (count i : ℕ) (bytes : List ℕ) (total : Option (List Entry × List ℕ)) → i < count → Fails fault (listed_at bytes)
    → with_front front (files_at (count - i) bytes) ≡ total → Fails fault total
unfolding files_at
ends faults.OutOfMemory front count i bytes total lt h so_far = tt
ends faults.BadEntry front count i bytes total lt h so_far =
    let k : count - i ≡ suc (count - (i + 1)) = omega arith in
    let one : with_front front (files_at (count - i) bytes) ≡ None = rw (k, h) refl in
    sym so_far ∙ one

pub is_done : (front : List Entry) (count i : ℕ) (bytes : List ℕ) (total : Option (List Entry × List ℕ)) → count ≤ i → with_front front (files_at (count - i) bytes) ≡ total → total ≡ Some (front, bytes)
unfolding files_at
is_done front count i bytes total le so_far =
    let k : count - i ≡ 0 = omega arith in
    let one : with_front front (files_at (count - i) bytes) ≡ Some (front, bytes) = rw k (ap (λ (es : List Entry). Some (es, bytes)) (append-nil front)) in
    sym so_far ∙ one

-- ---- what was read before memory is taken

pub listed_has_path : (bytes : List ℕ) (x : Entry × List ℕ) → listed_at bytes ≡ Some x → IsSome (path_at bytes)
unfolding listed_at
listed_has_path bytes x e =
    let a = bind_some (path_at bytes) (λ p. digest_at p.1 >>= λ d. Some ((p.0, d.0), d.1)) x e in
    ap is_some a.1

-- the first path is there, as the one that is read now or as one before
pub first_path : (bytes rest : List ℕ) (i : ℕ) → (i ≡ 0 → rest ≡ bytes) → (0 < i → IsSome (path_at bytes)) → IsSome (path_at rest) → IsSome (path_at bytes)
first_path bytes rest i at_first later here =
    elim (cases_eq i 0) [
      | inl e ↦ subst (λ (b : List ℕ). IsSome (path_at b)) (at_first e) here
      | inr other ↦ later (omega (arith, other))
    ]

-- nothing was read yet
from_nothing : (read : Option (List Entry × List ℕ)) → with_front [] read ≡ read
from_nothing (Some x) = refl
from_nothing None = refl

pub starts : (front : List Entry) (count : ℕ) (bytes : List ℕ) → front ≡ [] → with_front front (files_at (count - 0) bytes) ≡ files_at count bytes
starts front count bytes e =
    let k : count - 0 ≡ count = omega arith in
    subst (λ (es : List Entry). with_front es (files_at (count - 0) bytes) ≡ files_at count bytes) (sym e) (rw k (from_nothing (files_at count bytes)))

-- a result has one fault
pub err_is : {A : Type 0} (r : Result A DecodeFault) (x y : DecodeFault) → r ≡ Err x → r ≡ Err y → x ≡ y
err_is (Ok v) x y e f = absurd (cc e)
err_is (Err z) x y e f = cc
