-- Lists of which one is changed.
use Rattle.std.proofs.Common.{◌≡◌, ℕ, zero, suc, List, [], ◌∷◌, ◌++◌, length, replicate, slice_get, Some, None, refl, ap, arith, subst}
use Rattle.std.specs.List.{AllByRecursion}
use Rattle.world_desk.specs.Desks.{change_at}

pub same_some : {A : Type 0} (x y : A) → Some x ≡ Some y → x ≡ y
same_some x y e = cc

-- what holds of each at its place holds after one is changed
pub each_changed : {A : Type 0} (P : ℕ → A → Type 0) (f : A → A) (n : ℕ) (xs : List A) → ((x : A) → slice_get xs n ≡ Some x → P n (f x)) → ((u : ℕ) (x : A) → slice_get xs u ≡ Some x → P u x)
    → (u : ℕ) (y : A) → slice_get (change_at n f xs) u ≡ Some y → P u y
each_changed P f n [] here all u y e = absurd (let no : None ≡ Some y = e in cc)
each_changed P f zero (x ∷ xs) here all zero y e = subst (P 0) (same_some (f x) y e) (here x refl)
each_changed P f zero (x ∷ xs) here all (suc u) y e = all (suc u) y e
each_changed P f (suc n) (x ∷ xs) here all zero y e = all zero y e
each_changed P f (suc n) (x ∷ xs) here all (suc u) y e = each_changed (λ m. P (suc m)) f n xs here (λ m. all (suc m)) u y e

pub length_changed : {A : Type 0} (f : A → A) (n : ℕ) (xs : List A) → length (change_at n f xs) ≡ length xs
length_changed f n [] = refl
length_changed f zero (x ∷ xs) = refl
length_changed f (suc n) (x ∷ xs) = ap (λ m. suc m) (length_changed f n xs)

pub length_copies : {A : Type 0} (n : ℕ) (x : A) → length (replicate n x) ≡ n
length_copies zero x = refl
length_copies (suc n) x = ap (λ m. suc m) (length_copies n x)

pub copies_get : {A : Type 0} (n v : ℕ) (x y : A) → slice_get (replicate n x) v ≡ Some y → x ≡ y
copies_get zero v x y e = absurd (let no : None ≡ Some y = e in cc)
copies_get (suc n) zero x y e = same_some x y e
copies_get (suc n) (suc v) x y e = copies_get n v x y e

-- one that is there has a place, and at each place is one
pub there_too : {A B : Type 0} (xs : List A) (ys : List B) (n : ℕ) (x : A) → length ys ≡ length xs → slice_get xs n ≡ Some x → (y : B) × (slice_get ys n ≡ Some y)
there_too [] ys n x same e = absurd (let no : None ≡ Some x = e in cc)
there_too (z ∷ xs) [] n x same e = absurd (omega arith)
there_too (z ∷ xs) (y ∷ ys) zero x same e = (y, refl)
there_too (z ∷ xs) (y ∷ ys) (suc n) x same e = there_too xs ys n x (omega arith) e

pub get_pushed : {A : Type 0} (xs : List A) (y : A) (i : ℕ) (x : A) → slice_get xs i ≡ Some x → slice_get (xs ++ y ∷ []) i ≡ Some x
get_pushed [] y i x e = absurd (let no : None ≡ Some x = e in cc)
get_pushed (z ∷ xs) y zero x e = e
get_pushed (z ∷ xs) y (suc i) x e = get_pushed xs y i x e

pub get_last : {A : Type 0} (xs : List A) (y : A) → slice_get (xs ++ y ∷ []) (length xs) ≡ Some y
get_last [] y = refl
get_last (x ∷ xs) y = get_last xs y

pub get_changed : {A : Type 0} (f : A → A) (n : ℕ) (xs : List A) (x : A) → slice_get xs n ≡ Some x → slice_get (change_at n f xs) n ≡ Some (f x)
get_changed f n [] x e = absurd (let no : None ≡ Some x = e in cc)
get_changed f zero (y ∷ xs) x e = ap (λ z. Some (f z)) (same_some y x e)
get_changed f (suc n) (y ∷ xs) x e = get_changed f n xs x e

pub all_here : {A : Type 0} (P : A → Type 0) (xs : List A) (n : ℕ) (x : A) → slice_get xs n ≡ Some x → AllByRecursion P xs → P x
all_here P [] n x e all = absurd (let no : None ≡ Some x = e in cc)
all_here P (y ∷ xs) zero x e all = subst P (same_some y x e) all.0
all_here P (y ∷ xs) (suc n) x e all = all_here P xs n x e all.1

-- what holds of all still does where one is changed of which it is known
pub all_changed_at : {A : Type 0} (P : A → Type 0) (f : A → A) (n : ℕ) (xs : List A) → ((x : A) → slice_get xs n ≡ Some x → P x → P (f x)) → AllByRecursion P xs → AllByRecursion P (change_at n f xs)
all_changed_at P f n [] step all = tt
all_changed_at P f zero (x ∷ xs) step all = (step x refl all.0, all.1)
all_changed_at P f (suc n) (x ∷ xs) step all = (all.0, all_changed_at P f n xs step all.1)

pub all_copies : {A : Type 0} (P : A → Type 0) (n : ℕ) (x : A) → P x → AllByRecursion P (replicate n x)
all_copies P zero x here = tt
all_copies P (suc n) x here = (here, all_copies P n x here)
