-- What follows the last place of a byte.
use Rattle.std.proofs.Common.{◌≡◌, ◌≢◌, ℕ, zero, suc, ◌+◌, ◌<◌, List, [], ◌∷◌, length, get_or, drop, Some, None, eqb, false, true, refl, arith, add-one, ne_eqb, eq-eqb}
use Rattle.host_api.specs.Types.{after_last}

pub after_last-none : (b : ℕ) (text : List ℕ) → ((k : ℕ) → k < length text → get_or text k 0 ≢ b) → after_last b text ≡ None
after_last-none b [] h = refl
after_last-none b (c ∷ text) h =
    let rest : after_last b text ≡ None = after_last-none b text (λ k lt. h (suc k) (omega arith)) in
    let other : eqb c b ≡ false = ne_eqb c b (h 0 (omega arith)) in
    rw (rest, other) refl

pub after_last-at : (b : ℕ) (text : List ℕ) (at : ℕ) → at < length text → get_or text at 0 ≡ b
    → ((k : ℕ) → at < k → k < length text → get_or text k 0 ≢ b) → after_last b text ≡ Some (drop (at + 1) text)
after_last-at b [] at lt here later = absurd (omega arith)
after_last-at b (c ∷ text) zero lt here later =
    let rest : after_last b text ≡ None = after_last-none b text (λ k below. later (suc k) (omega arith) (omega arith)) in
    let same : eqb c b ≡ true = eq-eqb c b here in
    rw (rest, same) refl
after_last-at b (c ∷ text) (suc at) lt here later =
    let rest : after_last b text ≡ Some (drop (at + 1) text) = after_last-at b text at (omega arith) here (λ k above below. later (suc k) (omega arith) (omega arith)) in
    rw (rest, add-one, add-one) refl
