use Rattle.std.proofs.Common.{◌≡◌, ℕ, zero, suc, Option, None, Some, rules, refl, sym, subst}
use Rattle.host_connection.specs.Resting.{number_before}
use Rattle.host_connection.proofs.resting.number_before.Goals as goal

pub returns-in-0 : goal.returns-in-0
returns-in-0 c = subst (λ (n : ℕ). Some c.args.number ≡ number_before n c.args.number) (sym c.in-0.is) refl

none : (n number : ℕ) → (n ≡ 0 → ⊥) → None ≡ number_before n number
none zero number some = absurd (some refl)
none (suc n) number some = refl

pub returns-in_default : goal.returns-in_default
returns-in_default c = none c.args.buffered c.args.number (search rules)
