-- Where a target is cut.
use Rattle.std.proofs.Common.{◌≡◌, ◌≢◌, ℕ, ◌+◌, ◌<◌, ◌≤◌, Bool, true, false, cond, not, eqb, List, [], ◌∷◌, Some, None, length, get_or, take, drop, refl, sym, ap, ◌∙◌, arith}
use Rattle.std.proofs.lemmas.Bool.{eqb-true}
use Rattle.std.proofs.lemmas.Bool.Decides.{nat_tests}
use Rattle.std.proofs.lemmas.Grind.{common_steps}
use Rattle.std.proofs.lemmas.List.Sums.{prefix_len_is}
use Rattle.std.specs.List.{prefix_len, before_first}
use Rattle.host_api.specs.Targets.{from_first}
use Rattle.host_api.specs.Patterns.{next_segment}

other : (b c : ℕ) → c ≢ b → not (eqb c b) ≡ true
other b c h = grind (arith, nat_tests)

same : (b c : ℕ) → c ≡ b → not (eqb c b) ≡ false
same b c h = grind (arith, nat_tests)

-- the first place of a byte, or the end of a text without it
pub first_place : (b : ℕ) (text : List ℕ) (n : ℕ) → n ≤ length text → ((i : ℕ) → i < n → get_or text i 0 ≢ b)
    → (n < length text → get_or text n 0 ≡ b) → prefix_len (λ c. not (eqb c b)) text ≡ n
first_place b text n within absent here =
    prefix_len_is (λ c. not (eqb c b)) text n 0 within (λ k lt. other b _ (absent k lt)) (λ lt. same b _ (here lt))

from_first-cons : (b c : ℕ) (text : List ℕ) (n : ℕ) (t : Bool)
    → cond t (c ∷ text) (drop n text) ≡ drop (cond (not t) (1 + n) 0) (c ∷ text)
from_first-cons b c text n true = grind (arith, common_steps)
from_first-cons b c text n false = grind (arith, common_steps)

from_first-drop : (b : ℕ) (text : List ℕ) → from_first b text ≡ drop (prefix_len (λ c. not (eqb c b)) text) text
from_first-drop b [] = refl
from_first-drop b (c ∷ text) = rw (from_first-drop b text) (from_first-cons b c text _ (eqb c b))

-- what is cut at the first place of a byte
pub cut : (b : ℕ) (text : List ℕ) (n : ℕ) → prefix_len (λ c. not (eqb c b)) text ≡ n
    → (take n text ≡ before_first (λ c. eqb c b) text) × (drop n text ≡ from_first b text)
cut b text n e = (ap (λ k. take k text) (sym e), ap (λ k. drop k text) (sym e) ∙ sym (from_first-drop b text))

-- a text without the byte
pub uncut : (b : ℕ) (text : List ℕ) → prefix_len (λ c. not (eqb c b)) text ≡ length text
    → (text ≡ before_first (λ c. eqb c b) text) × ([] ≡ from_first b text)
uncut b text e =
    let parts = cut b text (length text) e in
    let whole : take (length text) text ≡ text = grind (arith, common_steps) in
    let none : drop (length text) text ≡ [] = grind (arith, common_steps) in
    (sym whole ∙ parts.0, sym none ∙ parts.1)

none_unless : {X : Type 0} (t : Bool) (x : X) → (t ≡ true → ⊥) → cond t (Some x) None ≡ None
none_unless true x h = absurd (h refl)
none_unless false x h = refl

-- a text that does not begin with a slash has no segment
pub no_segment : (text : List ℕ) → ((rest : List ℕ) → text ≢ 47 ∷ rest) → next_segment text ≡ None
no_segment [] h = refl
no_segment (b ∷ text) h = none_unless (eqb b 47) _ (λ e. h text (ap (λ x. x ∷ text) (eqb-true b 47 e)))
