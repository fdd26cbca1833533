-- A service that stands for another, over a whole connection.
use Rattle.std.proofs.Common.{◌≡◌, inl, inr, ℕ, ◌+◌, List, [], ◌∷◌, length, Bool, Some, Result, Ok, Err, refl, sym, subst}
use Rattle.http_wire.specs.Timing.{Event, ReadFails, WriteFails, all_put, IsLatest, Ran}
use Rattle.http_wire.proofs.Trails.{timely_wide}
use Rattle.host_connection.specs.declared.connections.ConnectionFault.{ConnectionFault}
use Rattle.host_connection.specs.declared.connections.ConnectionFault.TheVariants as fault
use Rattle.host_connection.specs.declared.steps.Connection.{Connection}
use Rattle.host_connection.specs.declared.steps.Progress.{Progress}
use Rattle.host_connection.specs.declared.steps.Progress.TheVariants as progress
use Rattle.host_connection.specs.Carrying.{Carries, Leads}
use Rattle.host_connection.specs.Serving.{Answering, AreServed, Ends, IsAnswered, IsFrontSent, Serves, Stream, is_last_at}
use Rattle.host_connection.specs.StandingIn.{StandsIn}
use Rattle.host_connection.specs.Timing.{IsCaughtUp}
use Rattle.host_connection.specs.Walks.{Anything, Comes, LastComes, LastLeads, Step}
use Rattle.host_connection.proofs.Unfinished.{so_far}

answered : {H K : Type 0} (narrow : Answering H) (wide : Answering K) (R : H → K → Type 0) → StandsIn narrow wide R → (note : H) (seen : K) (is_last close : Bool) (old : Stream) (sent : List ℕ) (next : H) (new : Stream)
    → R note seen → IsAnswered narrow note is_last close old sent next new → (after : K) × IsAnswered wide seen is_last close old sent after new × R next after
answered narrow wide R stands note seen is_last close old sent next new r ex =
    let by = stands note seen ex.parts ex.body ex.answer next r ex.is_answer in (
      by.0,
      record {
        parts = ex.parts;
        body = ex.body;
        request = ex.request;
        interim = ex.interim;
        is_interim = ex.is_interim;
        closing = ex.closing;
        answer = ex.answer;
        is_answer = by.1;
        sent_is = ex.sent_is;
      },
      by.2,
    )

served : {H K : Type 0} (narrow : Answering H) (wide : Answering K) (R : H → K → Type 0) → StandsIn narrow wide R → (n : ℕ) (note : H) (seen : K) (old : Stream) (replies : List (List ℕ)) (next : H) (new : Stream)
    → R note seen → AreServed narrow n note old replies next new → (after : K) × AreServed wide n seen old replies after new × R next after
served narrow wide R stands n note seen old [] next new r served_so = (seen, (refl, served_so.1), subst (λ h. R h seen) (sym served_so.0) r)
served narrow wide R stands n note seen old (sent ∷ more) next new r served_so =
    let one = answered narrow wide R stands note seen (is_last_at n) _ old sent served_so.0 served_so.1 r served_so.2 in
    let rest = served narrow wide R stands (n + 1) served_so.0 one.0 served_so.1 more next new one.2 served_so.3 in
    (rest.0, (one.0, served_so.1, one.1, rest.1), rest.2)

caught_up : {H K : Type 0} (narrow : Answering H) (wide : Answering K) (R : H → K → Type 0) → StandsIn narrow wide R → (note : H) (seen : K) → R note seen
    → (got put : List ℕ) → IsCaughtUp narrow note got put → IsCaughtUp wide seen got put
caught_up narrow wide R stands note seen r got put up =
    let by = served narrow wide R stands 1 note seen (Some got) up.replies up.next (Some up.rest) r up.served in
    record { replies = up.replies; next = by.0; rest = up.rest; served = by.1; sent = up.sent; cut = up.cut; put_is = up.put_is }

front_sent : {H K : Type 0} (narrow : Answering H) (wide : Answering K) (R : H → K → Type 0) → StandsIn narrow wide R → (note : H) (seen : K) (is_last : Bool) (old : Stream) (sent : List ℕ) (next : H)
    → R note seen → IsFrontSent narrow note is_last old sent next → (after : K) × IsFrontSent wide seen is_last old sent after
front_sent narrow wide R stands note seen is_last old sent next r front =
    let rest = front.rest in
    elim front.whole as (λ w. (after : _) × IsFrontSent wide seen is_last old sent after) [
      | inl cut ↦
          let ex = cut.2 in
          let by = stands note seen ex.parts ex.body ex.answer next r ex.is_answer in (
            by.0,
            record {
              rest = rest;
              some = front.some;
              whole = inl (
                cut.0,
                cut.1,
                record {
                  parts = ex.parts;
                  body = ex.body;
                  request = ex.request;
                  interim = ex.interim;
                  is_interim = ex.is_interim;
                  closing = ex.closing;
                  answer = ex.answer;
                  is_answer = by.1;
                  sent_is = ex.sent_is;
                },
                cut.3,
              );
            },
          )
      | inr none ↦ (seen, record { rest = rest; some = front.some; whole = inr (none.0, refl) })
    ]

ends : {H K : Type 0} (narrow : Answering H) (wide : Answering K) (R : H → K → Type 0) → StandsIn narrow wide R → (P Q : Type 0) (result : Result (Unit {0}) ConnectionFault) (n : ℕ) (note : H) (seen : K) (old : Stream) (sent : List ℕ) (next : H)
    → R note seen → Ends narrow P Q result n note old sent next → (after : K) × Ends wide P Q result n seen old sent after
ends narrow wide R stands P Q (Ok done) n note seen old sent next r (inl by) = (seen, inl (by.0, refl))
ends narrow wide R stands P Q (Ok done) n note seen old sent next r (inr (inl by)) =
    let one = answered narrow wide R stands note seen (is_last_at n) _ old sent next by.0 r by.1 in
    (one.0, inr (inl (by.0, one.1)))
ends narrow wide R stands P Q (Ok done) n note seen old sent next r (inr (inr by)) = (seen, inr (inr (by.0, refl)))
ends narrow wide R stands P Q (Err fault.InputFault) n note seen old sent next r by = (seen, (by.0, by.1, refl))
ends narrow wide R stands P Q (Err fault.OutputFault) n note seen old sent next r by =
    let one = front_sent narrow wide R stands note seen (is_last_at n) old sent next r by.1 in
    (one.0, (by.0, one.1))
ends narrow wide R stands P Q (Err fault.OutOfMemory) n note seen old sent next r by = (seen, (by.0, by.1, refl))

serves : {H K : Type 0} (narrow : Answering H) (wide : Answering K) (R : H → K → Type 0) → StandsIn narrow wide R → (P Q : Type 0) (result : Result (Unit {0}) ConnectionFault) (note : H) (seen : K) (next : H) (stream held new_held : Stream)
    → R note seen → Serves narrow P Q result note next stream held new_held → (after : K) × Serves wide P Q result seen after stream held new_held
serves narrow wide R stands P Q result note seen next stream held new_held r all =
    let mid = served narrow wide R stands 1 note seen stream all.replies all.mid all.left r all.served in
    let end = ends narrow wide R stands P Q result (length all.replies + 1) all.mid mid.0 all.left all.sent next mid.2 all.ends in
    (end.0, record { replies = all.replies; mid = mid.0; left = all.left; served = mid.1; sent = all.sent; ends = end.1; written = all.written })

-- so far
comes_so_far : {S H K : Type 0} (narrow : Answering H) (wide : Answering K) (R : H → K → Type 0) → StandsIn narrow wide R → (saw : S → Event → S → Type 0) (leaves : Type 0) (start now : S) (note host : H) (seen : K) (c : Connection)
    → R note seen → Carries narrow saw leaves start note now host c → Ran saw (IsCaughtUp wide seen) start now Anything
comes_so_far narrow wide R stands saw leaves start now note host seen c r carries =
    let ran = so_far narrow saw leaves start now note host c.wire c.out c.number c.phase carries in
    record {
      events = ran.events;
      steps = ran.steps;
      timely = timely_wide (IsCaughtUp narrow note) (IsCaughtUp wide seen) ran.events (caught_up narrow wide R stands note seen r) ran.timely;
      claimed = tt;
    }

comes : {S H K : Type 0} (narrow : Answering H) (wide : Answering K) (R : H → K → Type 0) → StandsIn narrow wide R → (saw : S → Event → S → Type 0) (leaves : Type 0) (waits : S → Type 0) (start now : S) (note host : H) (seen : K) (c : Connection) (p : Progress)
    → R note seen → Leads narrow saw leaves waits start note now host c p → Comes wide saw start seen now p
comes narrow wide R stands saw leaves waits start now note host seen c (progress.Waits w) r leads = comes_so_far narrow wide R stands saw leaves start now note host seen c r leads.0
comes narrow wide R stands saw leaves waits start now note host seen c progress.More r leads = comes_so_far narrow wide R stands saw leaves start now note host seen c r leads
comes narrow wide R stands saw leaves waits start now note host seen c (progress.Body size) r leads = comes_so_far narrow wide R stands saw leaves start now note host seen c r leads.0
comes narrow wide R stands saw leaves waits start now note host seen c progress.Postponed r leads = comes_so_far narrow wide R stands saw leaves start now note host seen c r leads.0
comes narrow wide R stands saw leaves waits start now note host seen c (progress.Ended result) r leads =
    let ran = leads.0 in
    record {
      events = ran.events;
      steps = ran.steps;
      timely = timely_wide (IsCaughtUp narrow note) (IsCaughtUp wide seen) ran.events (caught_up narrow wide R stands note seen r) ran.timely;
      claimed = record {
        idle = ran.claimed.idle;
        serves = λ left new_left gives. serves narrow wide R stands (IsLatest ReadFails ran.events) (IsLatest WriteFails ran.events) result note seen host left (Some []) (Some (all_put ran.events)) r
            (ran.claimed.serves left new_left gives);
      };
    }

-- Replies over notes are replies over all that the notes stand for.
pub comes_last : {S H K : Type 0} (narrow : Answering H) (wide : Answering K) (R : H → K → Type 0) → StandsIn narrow wide R → (saw : S → Event → S → Type 0) (leaves : Type 0) (waits : S → Type 0) (start now : S) (note host : H) (seen : K) (c : Connection)
    (steps : List (Step S H)) → R note seen → LastLeads narrow saw leaves waits start note now host c steps → LastComes wide saw start seen now steps
comes_last narrow wide R stands saw leaves waits start now note host seen c [] r so = comes_so_far narrow wide R stands saw leaves start now note host seen c r so
comes_last narrow wide R stands saw leaves waits start now note host seen c (step ∷ []) r leads = comes narrow wide R stands saw leaves waits start step.now note step.host seen step.connection step.progress r leads
comes_last narrow wide R stands saw leaves waits start now note host seen c (step ∷ next ∷ more) r leads =
    comes_last narrow wide R stands saw leaves waits start step.now note step.host seen step.connection (next ∷ more) r leads

-- each service stands for itself
pub stands_for_itself : {H : Type 0} (answers : Answering H) → StandsIn answers answers (λ one another. one ≡ another)
stands_for_itself answers note seen parts body answer next same by = (next, subst (λ h. answers h parts body answer next) same by, refl)
