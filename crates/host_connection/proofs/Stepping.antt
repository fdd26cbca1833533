-- A step of a connection: it goes through some phases on a metered stream.
use Rattle.std.proofs.Common.{◌≡◌, ◌⊎◌, inl, inr, ℕ, ◌<◌, ◌≤◌, List, refl, ◌∙◌, subst, arith}
use Rattle.http_wire.specs.Gathering.{Gathered}
use Rattle.http_wire.specs.Timing.{Event, Ran, Steps}
use Rattle.host_connection.specs.declared.meters.Metered.{Metered}
use Rattle.host_connection.specs.declared.phases.Phase.{Phase}
use Rattle.host_connection.specs.declared.phases.Phase.TheVariants as phase
use Rattle.host_connection.specs.declared.steps.Connection.{Connection}
use Rattle.host_connection.specs.declared.steps.Progress.{Progress}
use Rattle.host_connection.specs.declared.steps.Progress.TheVariants as progress
use Rattle.host_connection.specs.declared.steps.Wants.{Wants}
use Rattle.host_connection.specs.Advancing.{Falls, Goes}
use Rattle.host_connection.specs.Carrying.{Carries, IsHeld, Leads, MayWait}
use Rattle.host_connection.specs.Metering.{moved}
use Rattle.host_connection.specs.Serving.{Answering}
use Rattle.host_connection.specs.Timing.{Connects, IsCaughtUp}
use Rattle.host_connection.proofs.Metering.{IsMetered, IsStream, Sees, from_meter, reads_after, streams, to_meter, writes_after}
use Rattle.host_connection.proofs.Simulated.{carries_back, ran_back}

-- the step has read or written all that it may
abbrev pub IsUsedUp : {S : Type 0} → Metered S → Type 0
IsUsedUp m = (m.reads ≡ 0) ⊎ (m.writes ≡ 0)

-- where a metered stream has to wait
abbrev pub MeteredWaits : {S : Type 0} → (waits : S → Type 0) → Metered S → Type 0
MeteredWaits waits m = IsUsedUp m ⊎ waits m.stream

-- ---- to the metered stream and back

pub to_metered : {S H : Type 0} (answers : Answering H) (saw : S → Event → S → Type 0) (waits : S → Type 0) (start now : S) (begun : Metered S) (first host : H) (c : Connection) → begun.stream ≡ now
    → Carries answers saw (Unit {0}) start first now host c
    → (begin : Metered S) × (begin.stream ≡ start) × Carries answers (Sees saw) (MayWait (MeteredWaits waits)) begin first begun host c
to_metered answers saw waits start now begun first host c same carries =
    carries_back answers saw (Sees saw) IsMetered (to_meter saw) (Unit {0}) (MayWait (MeteredWaits waits)) (λ leaves. (record { stream = now; reads = 0; writes = 0 }, inl (inl refl))) start now begun first host c carries same

pub from_metered : {S H : Type 0} (answers : Answering H) (saw : S → Event → S → Type 0) (waits : S → Type 0) (start : S) (begin new : Metered S) (first host : H) (c : Connection) → begin.stream ≡ start
    → Carries answers (Sees saw) (MayWait (MeteredWaits waits)) begin first new host c → Carries answers saw (Unit {0}) start first new.stream host c
from_metered {S} answers saw waits start begin new first host c same carries =
    let back = carries_back answers (Sees saw) saw IsStream (from_meter saw) (MayWait (MeteredWaits waits)) (Unit {0}) (λ leaves. tt) begin new new.stream first host c carries refl in
    subst (λ (s : S). Carries answers saw (Unit {0}) s first new.stream host c) (back.1 ∙ same) back.2

-- the end of a connection
ended : {S H : Type 0} (answers : Answering H) (saw : S → Event → S → Type 0) (start : S) (begin new : Metered S) (first : H) (claim : List Event → Type 0) → begin.stream ≡ start
    → Ran (Sees saw) (IsCaughtUp answers first) begin new claim → Ran saw (IsCaughtUp answers first) start new.stream claim
ended {S} answers saw start begin new first claim same ran =
    let back = ran_back (Sees saw) saw IsStream (from_meter saw) (IsCaughtUp answers first) begin new new.stream claim ran refl in
    subst (λ (s : S). Ran saw (IsCaughtUp answers first) s new.stream claim) (back.1 ∙ same) back.2

-- the stream itself has to wait
waits_itself : {S : Type 0} (waits : S → Type 0) (new : Metered S) → ¬ (IsUsedUp new) → MeteredWaits waits new → waits new.stream
waits_itself waits new left (inl none) = absurd (left none)
waits_itself waits new left (inr waiting) = waiting

held : {S : Type 0} (waits : S → Type 0) (new : Metered S) (out : Gathered) (p : Phase) → ¬ (IsUsedUp new) → IsHeld (MeteredWaits waits new) out p → IsHeld (waits new.stream) out p
held waits new out phase.Head left is = waits_itself waits new left is
held waits new out (phase.Invite i) left is = waits_itself waits new left is
held waits new out (phase.Body b) left is = waits_itself waits new left is
held waits new out (phase.Reply s) left (inl waiting) = inl (waits_itself waits new left waiting)
held waits new out (phase.Reply s) left (inr uncounted) = inr uncounted
held waits new out (phase.Ended result) left is = waits_itself waits new left is

-- ---- what a step leads to

-- it waits, and the step has not moved all that it may
pub step_waits : {S H : Type 0} (answers : Answering H) (saw : S → Event → S → Type 0) (waits : S → Type 0) (start : S) (begin new : Metered S) (first host : H) (c : Connection) (w : Wants) → begin.stream ≡ start → ¬ (IsUsedUp new)
    → Leads answers (Sees saw) (MayWait (MeteredWaits waits)) (MeteredWaits waits) begin first new host c (progress.Waits w)
    → Leads answers saw (Unit {0}) waits start first new.stream host c (progress.Waits w)
step_waits answers saw waits start begin new first host c w same left leads =
    (from_metered answers saw waits start begin new first host c same leads.0, held waits new c.out c.phase left leads.1, leads.2)

pub step_else : {S H : Type 0} (answers : Answering H) (saw : S → Event → S → Type 0) (waits : S → Type 0) (start : S) (begin new : Metered S) (first host : H) (c : Connection) (p : Progress) → begin.stream ≡ start
    → ((w : Wants) → p ≡ progress.Waits w → ⊥) → Leads answers (Sees saw) (MayWait (MeteredWaits waits)) (MeteredWaits waits) begin first new host c p
    → Leads answers saw (Unit {0}) waits start first new.stream host c p
step_else answers saw waits start begin new first host c (progress.Waits w) same not leads = absurd (not w refl)
step_else answers saw waits start begin new first host c progress.More same not leads = from_metered answers saw waits start begin new first host c same leads
step_else answers saw waits start begin new first host c (progress.Body size) same not leads = (from_metered answers saw waits start begin new first host c same leads.0, leads.1, leads.2)
step_else answers saw waits start begin new first host c progress.Postponed same not leads = (from_metered answers saw waits start begin new first host c same leads.0, leads.1)
step_else answers saw waits start begin new first host c (progress.Ended result) same not leads =
    (ended answers saw start begin new first (Connects answers result first host) same leads.0, leads.1)

-- ---- what a step moves

pub step_goes : {S : Type 0} (saw : S → Event → S → Type 0) (old : S) (begun new : Metered S) (events : List Event) (p : Progress) (old_left new_left : ℕ) → begun.stream ≡ old
    → begun.reads ≡ 262144 → begun.writes ≡ 1179648 → Steps (Sees saw) begun events new → Falls p old_left new_left → Goes saw old new.stream p old_left new_left
step_goes {S} saw old begun new events p old_left new_left same reads writes steps falls = record {
  events = events;
  steps = subst (λ (s : S). Steps saw s events new.stream) same (streams saw begun new events steps);
  few_read = omega (arith, reads_after saw begun new events steps, reads);
  few_written = omega (arith, writes_after saw begun new events steps, writes);
  further = inl falls;
}

-- the step has read or written all that it may, so it moved some bytes
some_moved : {S : Type 0} (saw : S → Event → S → Type 0) (begun new : Metered S) (events : List Event) → begun.reads ≡ 262144 → begun.writes ≡ 1179648
    → Steps (Sees saw) begun events new → IsUsedUp new → 0 < moved events
some_moved saw begun new events reads writes steps (inl none) = omega (arith, reads_after saw begun new events steps, reads, none)
some_moved saw begun new events reads writes steps (inr none) = omega (arith, writes_after saw begun new events steps, writes, none)

pub step_full : {S : Type 0} (saw : S → Event → S → Type 0) (old : S) (begun new : Metered S) (events : List Event) (p : Progress) (old_left new_left : ℕ) → begun.stream ≡ old
    → begun.reads ≡ 262144 → begun.writes ≡ 1179648 → Steps (Sees saw) begun events new → IsUsedUp new → new_left ≤ old_left → Goes saw old new.stream p old_left new_left
step_full {S} saw old begun new events p old_left new_left same reads writes steps none falls = record {
  events = events;
  steps = subst (λ (s : S). Steps saw s events new.stream) same (streams saw begun new events steps);
  few_read = omega (arith, reads_after saw begun new events steps, reads);
  few_written = omega (arith, writes_after saw begun new events steps, writes);
  further = inr (some_moved saw begun new events reads writes steps none, falls);
}
