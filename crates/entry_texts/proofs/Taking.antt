-- Steps of reading, and fields of a length that is known.
use Rattle.std.proofs.Common.{◌≡◌, ℕ, suc, ◌+◌, ◌<◌, ◌≤◌, Bool, true, false, cond, ltb, List, ◌∷◌, ◌++◌, length, get_or, take, drop, Option, Some, None, refl, sym, ap, subst, ◌∙◌, append_assoc, arith, inl, inr}
use Rattle.std.proofs.lemmas.Bool.{cases_lt, ltb-false, le-ltb}
use Rattle.std.proofs.lemmas.List.{take_at, drop_at, take-append-drop, length-append, length-take, get_or-drop, get_or-take, get_or_past}
use Rattle.std.proofs.lemmas.Option.{none-some}
use Rattle.entry_texts.specs.Reading.{◌>>=◌, field_at}

abbrev pub IsBytes : List ℕ → Type 0
IsBytes bytes = (i : ℕ) → get_or bytes i 0 < 256

pub IsBytes-drop : (n : ℕ) (bytes : List ℕ) → IsBytes bytes → IsBytes (drop n bytes)
IsBytes-drop n bytes h i = rw get_or-drop (h (n + i))

pub IsBytes-take : (n : ℕ) (bytes : List ℕ) → IsBytes bytes → IsBytes (take n bytes)
IsBytes-take n bytes h i =
    elim (cases_lt i n) [
      | inl lt ↦ rw (get_or-take n bytes i 0 lt) (h i)
      | inr le ↦ rw (get_or_past (take n bytes) i 0 (omega (arith, length-take n bytes))) (omega arith)
    ]

pub IsBytes-rest : (b : ℕ) (bytes : List ℕ) → IsBytes (b ∷ bytes) → IsBytes bytes
IsBytes-rest b bytes h i = h (suc i)

-- the value of a step that found something
pub bind_some : {A B : Type 0} (r : Option A) (f : A → Option B) (y : B) → (r >>= f) ≡ Some y → (x : A) × (r ≡ Some x) × (f x ≡ Some y)
bind_some (Some x) f y e = (x, refl, e)
bind_some None f y e = absurd (none-some y e)

-- a test that did not fail
pub guard_some : {A : Type 0} (b : Bool) (x y : A) → cond b None (Some x) ≡ Some y → (b ≡ false) × (x ≡ y)
guard_some true x y e = absurd (none-some y e)
guard_some false x y e = (refl, cc)

pub some_is : {A : Type 0} (x y : A) → Some x ≡ Some y → x ≡ y
some_is x y e = cc

-- what a reader took from the front
pub record Takes (bytes text rest : List ℕ) : Type 0 where
  pub parts : bytes ≡ text ++ rest
  pub rest_fits : IsBytes rest

pub Takes-then : (a x b y c : List ℕ) → Takes a x b → Takes b y c → Takes a (x ++ y) c
Takes-then a x b y c p q = record { parts = p.parts ∙ ap (λ (t : List ℕ). x ++ t) q.parts ∙ sym (append_assoc x y c); rest_fits = q.rest_fits }

-- with a byte before it
pub Takes-after : (b : ℕ) (a x c : List ℕ) → Takes a x c → Takes (b ∷ a) (b ∷ x) c
Takes-after b a x c p = record { parts = ap (λ (t : List ℕ). b ∷ t) p.parts; rest_fits = p.rest_fits }

pub field_takes : (n : ℕ) (bytes f rest : List ℕ) → IsBytes bytes → field_at n bytes ≡ Some (f, rest) → Takes bytes f rest × (length f ≡ n)
field_takes n bytes f rest fits e =
    let g = guard_some (ltb (length bytes) n) (take n bytes, drop n bytes) (f, rest) e in
    let long : n ≤ length bytes = ltb-false _ _ g.0 in
    let taken : Takes bytes (take n bytes) (drop n bytes) × (length (take n bytes) ≡ n) = (record { parts = sym (take-append-drop n bytes); rest_fits = IsBytes-drop n bytes fits }, omega (arith, length-take n bytes)) in
    subst (λ (p : List ℕ × List ℕ). Takes bytes p.0 p.1 × (length p.0 ≡ n)) g.1 taken

pub field_again : (f rest : List ℕ) (n : ℕ) → length f ≡ n → field_at n (f ++ rest) ≡ Some (f, rest)
field_again f rest n len =
    let long : ltb (length (f ++ rest)) n ≡ false = le-ltb _ _ (omega (arith, len, length-append f rest)) in
    rw (long, take_at f rest n len, drop_at f rest n len) refl
