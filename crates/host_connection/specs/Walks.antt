-- The steps of a connection, one after another, whichever service is lent to each.
use Rattle.std.specs.Prelude.{◌≡◌, List, [], ◌∷◌, Some, Result, Err}
use Rattle.http_wire.specs.Timing.{Event, ReadFails, WriteFails, all_put, Gives, IsLatest, Ran}
use Rattle.host_connection.specs.declared.connections.ConnectionFault.{ConnectionFault}
use Rattle.host_connection.specs.declared.connections.ConnectionFault.TheVariants as fault
use Rattle.host_connection.specs.declared.steps.Connection.{Connection}
use Rattle.host_connection.specs.declared.steps.Progress.{Progress}
use Rattle.host_connection.specs.declared.steps.Progress.TheVariants as progress
use Rattle.host_connection.specs.Carrying.{Carries, Leads}
use Rattle.host_connection.specs.Serving.{Answering, Serves, Stream}
use Rattle.host_connection.specs.Timing.{IsCaughtUp}

-- what a step came to
pub record Step (S H : Type 0) : Type 0 where
  pub now : S
  pub host : H
  pub connection : Connection
  pub progress : Progress

-- that is a step from there: what the contract of a step says
abbrev pub IsStep : {S H : Type 0} → Answering H → (saw : S → Event → S → Type 0) → (leaves : Type 0) → (waits : S → Type 0) → S → H → Connection → Step S H → Type 0
IsStep {S} {H} answers saw leaves waits now host c step = (start : S) (first : H) → Carries answers saw leaves start first now host c
    → Leads answers saw leaves waits start first step.now step.host step.connection step.progress

-- these are steps, one after another, from there
abbrev pub AreSteps : {S H : Type 0} → Answering H → (saw : S → Event → S → Type 0) → (leaves : Type 0) → (waits : S → Type 0) → S → H → Connection → List (Step S H) → Type 0
AreSteps answers saw leaves waits now host c [] = Unit {0}
AreSteps answers saw leaves waits now host c (step ∷ more) =
    IsStep answers saw leaves waits now host c step × AreSteps answers saw leaves waits step.now step.host step.connection more

-- what the last of them led to, of a connection that was carried before
abbrev pub LastLeads : {S H : Type 0} → Answering H → (saw : S → Event → S → Type 0) → (leaves : Type 0) → (waits : S → Type 0) → (start : S) → (first : H) → S → H → Connection → List (Step S H) → Type 0
LastLeads answers saw leaves waits start first now host c [] = Carries answers saw leaves start first now host c
LastLeads answers saw leaves waits start first now host c (step ∷ []) = Leads answers saw leaves waits start first step.now step.host step.connection step.progress
LastLeads answers saw leaves waits start first now host c (step ∷ next ∷ more) = LastLeads answers saw leaves waits start first step.now step.host step.connection (next ∷ more)

-- ---- the events of all steps

-- whatever the events are
abbrev pub Anything : List Event → Type 0
Anything events = Unit {0}

-- the theorem of a whole connection, whatever its service is in the end
pub record ConnectsAnyhow {H : Type 0} (answers : Answering H) (result : Result (Unit {0}) ConnectionFault) (host : H) (events : List Event) : Type 0 where
  pub idle : result ≡ Err fault.OutOfMemory → events ≡ []
  pub serves : (left new_left : Stream) → Gives events left new_left
      → (next : H) × Serves answers (IsLatest ReadFails events) (IsLatest WriteFails events) result host next left (Some []) (Some (all_put events))

-- The events since the beginning are those of a whole connection, once it ended; before that each read came where the connection was caught up,
-- and nothing followed a fault or the end of the stream.
abbrev pub Comes : {S H : Type 0} → Answering H → (saw : S → Event → S → Type 0) → (start : S) → (first : H) → (now : S) → Progress → Type 0
Comes answers saw start first now (progress.Waits w) = Ran saw (IsCaughtUp answers first) start now Anything
Comes answers saw start first now progress.More = Ran saw (IsCaughtUp answers first) start now Anything
Comes answers saw start first now (progress.Body size) = Ran saw (IsCaughtUp answers first) start now Anything
Comes answers saw start first now progress.Postponed = Ran saw (IsCaughtUp answers first) start now Anything
Comes answers saw start first now (progress.Ended result) = Ran saw (IsCaughtUp answers first) start now (ConnectsAnyhow answers result first)

-- the same after the last of these steps
abbrev pub LastComes : {S H K : Type 0} → Answering H → (saw : S → Event → S → Type 0) → (start : S) → (first : H) → (now : S) → List (Step S K) → Type 0
LastComes answers saw start first now [] = Ran saw (IsCaughtUp answers first) start now Anything
LastComes answers saw start first now (step ∷ []) = Comes answers saw start first step.now step.progress
LastComes answers saw start first now (step ∷ next ∷ more) = LastComes answers saw start first step.now (next ∷ more)
