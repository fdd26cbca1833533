use Rattle.std.proofs.Common.{◌≡◌, ℕ, zero, suc, rules, refl, sym, subst}
use Rattle.peer_link.specs.Stages.{head_stage}
use Rattle.peer_link.specs.declared.connections.PeerStage.TheVariants as stage
use Rattle.peer_link.proofs.connections.head_stage.Goals as goal

pub returns-in-0 : goal.returns-in-0
returns-in-0 c = subst (λ (n : ℕ). stage.Idle ≡ head_stage n) (sym c.in-0.is) refl

some : (n : ℕ) → (n ≡ 0 → ⊥) → stage.Head ≡ head_stage n
some zero none = absurd (none refl)
some (suc n) none = refl

pub returns-in_default : goal.returns-in_default
returns-in_default c = some c.args.buffered (search rules)
