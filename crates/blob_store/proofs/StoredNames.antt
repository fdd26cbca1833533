-- Which names a set has.
use Rattle.std.specs.Prelude.{OnErr, OnOk}
use Rattle.std.proofs.Common.{◌≡◌, ◌⊎◌, inl, inr, Bool, true, false, cond, ◌||◌, List, [], ◌∷◌, Contains, Result, Ok, Err, refl, sym, ap, subst, ◌∙◌}
use Rattle.std.proofs.lemmas.Cmp.{eq_by_cmp_equiv}
use Rattle.std.specs.BTreeMap.{is_at}
use Rattle.std.specs.BTreeSet.{BTreeSet, IsUnchanged, Updates}
use Rattle.std.specs.List.{list_any}
use Rattle.std.specs.Ordering.{eq_by_cmp}
use Rattle.host_names.specs.declared.digests.Digest.{Digest}
use Rattle.host_names.specs.Digests.{digest_cmp, digest_cmp_total, digest_cmp-IsAntisymmetric}
use Rattle.blob_store.proofs.Once.{contains_here, contains_more, contains_none, first_or, is_eq-true, or-true}

-- whether a name is one of a set's keys
abbrev pub is_key : List Digest → Digest → Bool
is_key keys name = list_any (is_at (digest_cmp name)) keys

pub key_there : (keys : List Digest) (name : Digest) → is_key keys name ≡ true → Contains keys name
key_there [] name e = absurd (cc e)
key_there (key ∷ keys) name e =
    elim (eq_by_cmp digest_cmp name key) as (λ b. eq_by_cmp digest_cmp name key ≡ b → (b || is_key keys name) ≡ true → Contains (key ∷ keys) name) [
      | true ↦ λ tie h. subst (λ d. Contains (key ∷ keys) d) (sym (digest_cmp-IsAntisymmetric name key (is_eq-true _ tie))) (contains_here key keys)
      | false ↦ λ tie h. contains_more key name keys (key_there keys name h)
    ] refl e

pub there_key : (keys : List Digest) (name : Digest) → Contains keys name → is_key keys name ≡ true
there_key [] name there = absurd (contains_none name there)
there_key (key ∷ keys) name there = elim (first_or key keys there) [
  | inl is ↦
      let tie : eq_by_cmp digest_cmp name key ≡ true = ap (eq_by_cmp digest_cmp name) is ∙ (eq_by_cmp_equiv digest_cmp_total).refl name in
      ap (λ b. b || is_key keys name) tie
  | inr later ↦ ap (λ b. eq_by_cmp digest_cmp name key || b) (there_key keys name later) ∙ or-true (eq_by_cmp digest_cmp name key)
]

-- names were added to those of a set
pub record AreAdded (old names now : List Digest) : Type 0 where
  pub added : (name : Digest) → Contains now name → Contains old name ⊎ Contains names name
  pub still : (name : Digest) → Contains old name → Contains now name

cond_true : (b : Bool) → cond b true true ≡ true
cond_true true = refl
cond_true false = refl

-- a set has one key more
pub one_added : (old names now new : List Digest) (key : Digest) → AreAdded old names now → Contains names key
    → ((q : Digest) → is_key new q ≡ cond (is_at (digest_cmp key) q) true (is_key now q)) → AreAdded old names new
one_added old names now new key are among updates = record {
  added = λ name there.
      elim (eq_by_cmp digest_cmp key name) as (λ b. eq_by_cmp digest_cmp key name ≡ b → cond b true (is_key now name) ≡ true → Contains old name ⊎ Contains names name) [
        | true ↦ λ tie h. inr (subst (Contains names) (digest_cmp-IsAntisymmetric key name (is_eq-true _ tie)) among)
        | false ↦ λ tie h. are.added name (key_there now name h)
      ] refl (sym (updates name) ∙ there_key new name there);
  still = λ name was.
      let before : is_key now name ≡ true = there_key now name (are.still name was) in
      key_there new name (updates name ∙ ap (λ b. cond (is_at (digest_cmp key) name) true b) before ∙ cond_true (is_at (digest_cmp key) name));
}

-- one was inserted, or there was no memory for it
pub one_tried : {E : Type 0} (old names : List Digest) (now new : BTreeSet Digest) (key : Digest) (result : Result Bool E) → AreAdded old names now.keys → Contains names key
    → OnOk result (Updates digest_cmp now new key true) → OnErr result (IsUnchanged now new) → AreAdded old names new.keys
one_tried old names now new key (Ok fresh) are among updates same = one_added old names now.keys new.keys key are among updates.0
one_tried old names now new key (Err refused) are among updates same = subst (AreAdded old names) (sym same) are
