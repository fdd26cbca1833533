-- Steps, one after another.
use Rattle.std.proofs.Common.{◌≡◌, ◌⊎◌, inl, inr, ℕ, List, [], ◌∷◌, refl, sym, subst}
use Rattle.http_wire.specs.Gathering.{Gathered, IsCounted}
use Rattle.http_wire.specs.Timing.{Event}
use Rattle.host_connection.specs.declared.phases.Phase.{Phase}
use Rattle.host_connection.specs.declared.phases.Phase.TheVariants as phase
use Rattle.host_connection.specs.declared.steps.Connection.{Connection}
use Rattle.host_connection.specs.declared.steps.Progress.{Progress}
use Rattle.host_connection.specs.declared.steps.Progress.TheVariants as progress
use Rattle.host_connection.specs.declared.steps.Wants.{Wants}
use Rattle.host_connection.specs.Carrying.{Carried, Carries, IsHeld, Leads, MayWait}
use Rattle.host_connection.specs.Serving.{Answering}
use Rattle.host_connection.specs.Walks.{Step, AreSteps, LastLeads}

-- a step leaves the connection carried, also one that ended
pub carried_on : {S H : Type 0} (answers : Answering H) (saw : S → Event → S → Type 0) (leaves : Type 0) (waits : S → Type 0) (start now : S) (first host : H) (c : Connection) (p : Progress)
    → Leads answers saw leaves waits start first now host c p → Carries answers saw leaves start first now host c
carried_on answers saw leaves waits start now first host c (progress.Waits w) leads = leads.0
carried_on answers saw leaves waits start now first host c progress.More leads = leads
carried_on answers saw leaves waits start now first host c (progress.Body size) leads = leads.0
carried_on answers saw leaves waits start now first host c progress.Postponed leads = leads.0
carried_on answers saw leaves waits start now first host c (progress.Ended result) leads =
    subst (λ (q : Phase). Carried answers saw leaves start first now host c.wire c.out c.number q) (sym leads.1) leads.0

-- a step that doesn't wait
pub leads_else : {S H : Type 0} (answers : Answering H) (saw : S → Event → S → Type 0) (leaves : Type 0) (waits others : S → Type 0) (start now : S) (first host : H) (c : Connection) (p : Progress)
    → ((w : Wants) → p ≡ progress.Waits w → ⊥) → Leads answers saw leaves waits start first now host c p → Leads answers saw leaves others start first now host c p
leads_else answers saw leaves waits others start now first host c (progress.Waits w) not leads = absurd (not w refl)
leads_else answers saw leaves waits others start now first host c progress.More not leads = leads
leads_else answers saw leaves waits others start now first host c (progress.Body size) not leads = leads
leads_else answers saw leaves waits others start now first host c progress.Postponed not leads = leads
leads_else answers saw leaves waits others start now first host c (progress.Ended result) not leads = leads

never_left : {S : Type 0} (waits : S → Type 0) (out : Gathered) → ((stream : S) → waits stream → ⊥) → (IsCounted out ⊎ MayWait waits) → ¬ (IsCounted out) → ⊥
never_left waits out never (inl counted) uncounted = uncounted counted
never_left waits out never (inr may) uncounted = never may.0 may.1

-- no step waits over a stream that never has to
pub never_held : {S H : Type 0} (answers : Answering H) (saw : S → Event → S → Type 0) (waits : S → Type 0) (start now : S) (first host : H) (buffer : List ℕ) (out : Gathered) (n : ℕ) (p : Phase)
    → ((stream : S) → waits stream → ⊥) → Carried answers saw (MayWait waits) start first now host buffer out n p → IsHeld (waits now) out p → ⊥
never_held answers saw waits start now first host buffer out n phase.Head never c held = never now held
never_held answers saw waits start now first host buffer out n (phase.Invite i) never c held = never now held
never_held answers saw waits start now first host buffer out n (phase.Body b) never c held = never now held
never_held answers saw waits start now first host buffer out n (phase.Reply s) never c (inl waiting) = never now waiting
never_held answers saw waits start now first host buffer out n (phase.Reply s) never c (inr uncounted) = never_left waits out never c.1 uncounted
never_held answers saw waits start now first host buffer out n (phase.Ended result) never c held = never now held

pub walk : {S H : Type 0} (answers : Answering H) (saw : S → Event → S → Type 0) (leaves : Type 0) (waits : S → Type 0) (start now : S) (first host : H) (c : Connection) (steps : List (Step S H))
    → Carries answers saw leaves start first now host c → AreSteps answers saw leaves waits now host c steps → LastLeads answers saw leaves waits start first now host c steps
walk answers saw leaves waits start now first host c [] so are = so
walk answers saw leaves waits start now first host c (step ∷ []) so are = are.0 start first so
walk answers saw leaves waits start now first host c (step ∷ next ∷ more) so are =
    walk answers saw leaves waits start step.now first step.host step.connection (next ∷ more)
    (carried_on answers saw leaves waits start step.now first step.host step.connection step.progress (are.0 start first so)) are.1
