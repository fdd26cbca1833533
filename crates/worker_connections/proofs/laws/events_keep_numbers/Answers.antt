use Rattle.std.proofs.Common.{◌≡◌, ◌&&◌, ℕ, Bool, true, false, Option, None, Some, IfSome, option_and_then, option_map, if◌then◌else◌, refl}
use Rattle.connection_rules.specs.declared.limits.Limits.{Limits}
use Rattle.worker_connections.specs.Clients.{after, after_in, is_idle, noted, state_after, unless_drained}
use Rattle.worker_connections.specs.declared.clients.Client.{Client}
use Rattle.worker_connections.specs.declared.clients.State.{State}
use Rattle.worker_connections.specs.declared.clients.State.TheVariants.{Waits, ForRoom, Away, Back, Closing, Left}
use Rattle.worker_connections.specs.declared.steps.Step.{Step}
use Rattle.worker_connections.proofs.laws.events_keep_numbers.Goals as goal

led_keeps : (step : Step) (limits : Limits) (now : ℕ) (old : Client) (led : Option State)
    → IfSome (option_map (λ state. noted state step limits now old) led) (λ new. new.number ≡ old.number)
led_keeps step limits now old None = tt
led_keeps step limits now old (Some state) = refl

after_keeps : (state : State) (step : Step) (limits : Limits) (now : ℕ) (old : Client) → IfSome (after_in state step limits now old) (λ new. new.number ≡ old.number)
after_keeps (Waits interest) step limits now old = led_keeps step limits now old (state_after (Waits interest) step.next)
after_keeps (ForRoom since) step limits now old = led_keeps step limits now old (state_after (ForRoom since) step.next)
after_keeps Away step limits now old = refl
after_keeps (Back since interest) step limits now old = led_keeps step limits now old (state_after (Back since interest) step.next)
after_keeps Closing step limits now old = led_keeps step limits now old (state_after Closing step.next)
after_keeps Left step limits now old = refl

drained_keeps : (b : Bool) (new : Client) (n : ℕ) → new.number ≡ n → IfSome (if b then None else Some new) (λ c. c.number ≡ n)
drained_keeps true new n h = tt
drained_keeps false new n h = h

pub returns-clause-step : goal.returns-clause-step
returns-clause-step c drains step limits now old = go (after step limits now old) (after_keeps old.state step limits now old)
  where
    go : (next : Option Client) → IfSome next (λ new. new.number ≡ old.number) → IfSome (option_and_then (unless_drained drains) next) (λ new. new.number ≡ old.number)
    go None h = tt
    go (Some new) h = drained_keeps (drains && is_idle new) new old.number h
