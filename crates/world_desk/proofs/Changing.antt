-- Lists of which one is changed, and uploads that grow.
use Rattle.std.proofs.Common.{◌≡◌, ℕ, zero, suc, ◌<◌, ◌≤◌, nat_le, true, false, List, [], ◌∷◌, ◌++◌, length, get_or, set, cond, refl, sym, ap, ◌∙◌, arith}
use Rattle.std.specs.List.{AllByRecursion}
use Rattle.byte_view.specs.Contents.{Contents, with_file}
use Rattle.site_change.specs.Changes.{IsWithin}
use Rattle.site_change.proofs.MoreUploads.{IsWithin-itself, kept-with_file}
use Rattle.world_desk.specs.Desks.{change_at, with_upload}

-- what was uploaded stays
pub uploads_stay : (uploads : Contents) (bytes : List ℕ) → IsWithin uploads (with_upload uploads bytes)
uploads_stay uploads bytes =
    elim (nat_le (length bytes) 16777216) as (λ small. IsWithin uploads (cond small (with_file uploads bytes) uploads)) [
      | true ↦ kept-with_file uploads bytes
      | false ↦ IsWithin-itself uploads
    ]

-- a change at a place is a write there
change_is_set : {A : Type 0} (f : A → A) (n : ℕ) (xs : List A) (d : A) → n < length xs → change_at n f xs ≡ set xs n (f (get_or xs n d))
change_is_set f n [] d within = absurd (omega arith)
change_is_set f zero (x ∷ xs) d within = refl
change_is_set f (suc n) (x ∷ xs) d within = ap (λ ys. x ∷ ys) (change_is_set f n xs d (omega arith))

pub change_past : {A : Type 0} (f : A → A) (n : ℕ) (xs : List A) → length xs ≤ n → change_at n f xs ≡ xs
change_past f n [] past = refl
change_past f zero (x ∷ xs) past = absurd (omega arith)
change_past f (suc n) (x ∷ xs) past = ap (λ ys. x ∷ ys) (change_past f n xs (omega arith))

pub change_written : {A : Type 0} (f : A → A) (n : ℕ) (xs : List A) (x y : A) → n < length xs → x ≡ get_or xs n x → y ≡ f x → set xs n y ≡ change_at n f xs
change_written f n xs x y within here is = ap (set xs n) (is ∙ ap f here) ∙ sym (change_is_set f n xs x within)

-- ---- what holds of each of a list

pub all_weaker : {A : Type 0} (P Q : A → Type 0) → ((x : A) → P x → Q x) → (xs : List A) → AllByRecursion P xs → AllByRecursion Q xs
all_weaker P Q f [] all = tt
all_weaker P Q f (x ∷ xs) all = (f x all.0, all_weaker P Q f xs all.1)

pub all_push : {A : Type 0} (P : A → Type 0) (xs : List A) (x : A) → AllByRecursion P xs → P x → AllByRecursion P (xs ++ x ∷ [])
all_push P [] x all here = (here, tt)
all_push P (y ∷ xs) x all here = (all.0, all_push P xs x all.1 here)

pub all_changed : {A : Type 0} (P : A → Type 0) (f : A → A) → ((x : A) → P x → P (f x)) → (n : ℕ) (xs : List A) → AllByRecursion P xs → AllByRecursion P (change_at n f xs)
all_changed P f step n [] all = tt
all_changed P f step zero (x ∷ xs) all = (step x all.0, all.1)
all_changed P f step (suc n) (x ∷ xs) all = (all.0, all_changed P f step n xs all.1)
