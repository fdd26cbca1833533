-- A shelf in a folder whose answers are true keeps what is put there.
use Rattle.std.proofs.Common.{◌≡◌, ◌≢◌, ◌⊎◌, inl, inr, Bool, true, false, cond, ◌&&◌, List, ◌∷◌, ℕ, Option, Some, None, refl, sym, ap, ◌∙◌}
use Rattle.std.proofs.lemmas.Cmp.{eq_by_cmp_equiv}
use Rattle.std.proofs.lemmas.Slice.Eq.{bytes_eq-Decides}
use Rattle.std.specs.Ordering.{is_eq}
use Rattle.std.specs.declared.cmp.Ordering.{Ordering}
use Rattle.std.specs.declared.cmp.Ordering.TheVariants.{Less, Equal, Greater}
use Rattle.host_names.specs.Digests.{digest_cmp_total, digest_cmp-IsAntisymmetric}
use Rattle.blob_store.specs.declared.shelves.ShelfName.{ShelfName}
use Rattle.blob_store.specs.declared.shelves.ShelfName.TheVariants.{Part, Table}
use Rattle.blob_store.specs.Calls.{Call, Put, PutFails, Got, GetFails}
use Rattle.blob_store.specs.Folders.{are_true, is_answer, is_name, there_after}
use Rattle.blob_store.specs.Keeping.{Keeps}

is_eq-true : (o : Ordering) → is_eq o ≡ true → o ≡ Equal
is_eq-true Less e = cc e
is_eq-true Equal e = refl
is_eq-true Greater e = cc e

its_name : (name : ShelfName) → is_name name name ≡ true
its_name (Part digest) = (eq_by_cmp_equiv digest_cmp_total).refl digest
its_name (Table digest) = (eq_by_cmp_equiv digest_cmp_total).refl digest

one_name : (name other : ShelfName) → is_name name other ≡ true → name ≡ other
one_name (Part digest) (Part other) e = ap Part (digest_cmp-IsAntisymmetric digest other (is_eq-true _ e))
one_name (Table digest) (Table other) e = ap Table (digest_cmp-IsAntisymmetric digest other (is_eq-true _ e))
one_name (Part digest) (Table other) e = absurd (cc e)
one_name (Table digest) (Part other) e = absurd (cc e)

other_name : (name other : ShelfName) → other ≢ name → is_name name other ≡ false
other_name name other differ = elim (is_name name other) as (λ b. is_name name other ≡ b → b ≡ false) [
  | true ↦ λ e. absurd (differ (sym (one_name name other e)))
  | false ↦ λ e. refl
] refl

both_true : (a b : Bool) → (a && b) ≡ true → (a ≡ true) × (b ≡ true)
both_true true b is = (refl, is)
both_true false b is = absurd (cc is)

one_answer : (answer other : Option (List ℕ)) → is_answer answer other ≡ true → answer ≡ other
one_answer None None is = refl
one_answer (Some bytes) (Some other) is = ap Some ((bytes_eq-Decides bytes other).0 is)
one_answer None (Some other) is = absurd (cc is)
one_answer (Some bytes) None is = absurd (cc is)

no-and : (b : Bool) → (b && false) ≡ false
no-and true = refl
no-and false = refl

module _ {S : Type 0} (calls : S → List Call) (shown : S → Call → Type 0) (first : ShelfName → Option (List ℕ)) (gave : List Call → Bool) where
  abbrev Did : S → Call → S → Type 0
  Did old call new = (calls new ≡ call ∷ calls old) × shown old call

  abbrev honest : S → Bool
  honest shelf = are_true first gave (calls shelf)

  abbrev has : S → ShelfName → Option (List ℕ)
  has shelf name = there_after first gave (calls shelf) name

  was_true : (call : Call) (before : List Call) → are_true first gave (call ∷ before) ≡ true → are_true first gave before ≡ true
  was_true (Put name bytes) before is = is
  was_true (PutFails name bytes fault) before is = is
  was_true (Got name answer) before is = (both_true _ _ is).1
  was_true (GetFails name fault) before is = is

  after : (old new : S) (call : Call) (name : ShelfName) → Did old call new → has new name ≡ there_after first gave (call ∷ calls old) name
  after old new call name did = ap (λ l. there_after first gave l name) did.0

  told : (old new : S) (call : Call) → Did old call new → honest new ≡ true → are_true first gave (call ∷ calls old) ≡ true
  told old new call did so = ap (are_true first gave) (sym did.0) ∙ so

  left_or_put : (b : Bool) (old : Option (List ℕ)) (bytes : List ℕ) → (cond b (Some bytes) old ≡ old) ⊎ (cond b (Some bytes) old ≡ Some bytes)
  left_or_put true old bytes = inr refl
  left_or_put false old bytes = inl refl

  pub folder_keeps : Keeps Did honest has
  folder_keeps = record {
    before = λ old new call did so. was_true call (calls old) (told old new call did so);
    kept = record {
      put = λ old new name bytes did. after old new (Put name bytes) name did.0 ∙ ap (λ b. cond b (Some bytes) (has old name)) (its_name name);
      others = λ old new name other bytes did differ. after old new (Put name bytes) other did.0 ∙ ap (λ b. cond b (Some bytes) (has old other)) (other_name name other differ);
      got = λ old new name answer did. one_answer answer (has old name) (both_true _ _ (told old new (Got name answer) did.0 did.1)).0;
      stays = λ old new name other answer did. after old new (Got name answer) other did.0;
      put_fails = λ old new name bytes fault did. elim (left_or_put (gave (calls old) && is_name name name) (has old name) bytes) [
        | inl is ↦ inl (after old new (PutFails name bytes fault) name did.0 ∙ is)
        | inr is ↦ inr (after old new (PutFails name bytes fault) name did.0 ∙ is)
      ];
      put_fails_others = λ old new name other bytes fault did differ.
          after old new (PutFails name bytes fault) other did.0
          ∙ ap (λ b. cond (gave (calls old) && b) (Some bytes) (has old other)) (other_name name other differ)
          ∙ ap (λ b. cond b (Some bytes) (has old other)) (no-and (gave (calls old)));
      get_fails = λ old new name other fault did. after old new (GetFails name fault) other did.0;
    };
  }
