-- The next number that passes a test, where the test is told in another way.
use Rattle.std.proofs.Common.{◌≡◌, ℕ, ◌<◌, Bool, Option, Some, None, sym, ◌∙◌}
use Rattle.touch_index.specs.Next.{IsNext}

pub IsNext-same : (f g : ℕ → Bool) (after : ℕ) (next : Option ℕ) → ((i : ℕ) → f i ≡ g i) → IsNext f after next → IsNext g after next
IsNext-same f g after None same is = λ i above. sym (same i) ∙ is i above
IsNext-same f g after (Some j) same is = (is.0, sym (same j) ∙ is.1, λ i above below. sym (same i) ∙ is.2 i above below)

-- the same where the two tests agree above the number
pub IsNext-above : (f g : ℕ → Bool) (after : ℕ) (next : Option ℕ) → ((i : ℕ) → after < i → f i ≡ g i) → IsNext f after next → IsNext g after next
IsNext-above f g after None same is = λ i above. sym (same i above) ∙ is i above
IsNext-above f g after (Some j) same is = (is.0, sym (same j is.0) ∙ is.1, λ i above below. sym (same i above) ∙ is.2 i above below)
