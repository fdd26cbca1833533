-- A whole connection: what it reads and writes, turn by turn.
use Rattle.std.proofs.Common.{◌≡◌, ℕ, ◌+◌, List, [], ◌++◌, Bool, Some, None, Result, Ok, Err, refl, sym, ap, subst, ◌∙◌}
use Rattle.std.specs.Io.KnownBytes.{Appends, prepend_known}
use Rattle.http_wire.specs.Timing.{Event, ReadFails, WriteFails, all_got, all_put, IsLatest, Timely, Gives, Ran}
use Rattle.http_wire.proofs.Trails.{put_joined, goes_on_joined, latest_joined, steps_joined, timely_joined}
use Rattle.host_connection.specs.Serving.{Answering, Stream, Ends, Serves, is_last_at}
use Rattle.host_connection.specs.Timing.{IsCaughtUp, Connects, AwaitsRequest}
use Rattle.host_connection.specs.declared.connections.ConnectionFault.{ConnectionFault}
use Rattle.host_connection.specs.declared.connections.ConnectionFault.TheVariants as fault
use Rattle.host_connection.specs.Carrying.{SoFar, ConnectionSoFar}
use Rattle.host_connection.proofs.Served.{at_first, goes_on, ends_well, stops, never_began}
use Rattle.http_wire.specs.Halting.{Together}
use Rattle.http_wire.proofs.SplitTrails.{gives_more, gives_split}
use Rattle.host_connection.proofs.TurnParts.{Turns, Next, Exchange, End, TurnsAs}

begun : {H : Type 0} (answers : Answering H) (host : H) (buffer : List ℕ) (left new_left : Stream) → buffer ≡ [] → Gives [] left new_left → Together left new_left
    → SoFar answers host left 1 host (prepend_known buffer new_left) (Some []) (Some [])
begun answers host buffer None None none gives together = at_first answers host None None (Some []) refl
begun answers host buffer None (Some ys) none gives together = absurd together
begun answers host buffer (Some xs) None none gives together = absurd gives.taken
begun answers host buffer (Some xs) (Some ys) none gives together =
    at_first answers host (Some xs) (Some (buffer ++ ys)) (Some []) (ap (λ b. Some (b ++ ys)) none ∙ ap Some (sym gives.taken))

pub none_yet : {S H : Type 0} (answers : Answering H) (saw : S → Event → S → Type 0) (old : S) (host : H) (buffer : List ℕ) → buffer ≡ [] → ConnectionSoFar answers saw old old host 1 host buffer
none_yet answers saw old host buffer none = record {
  events = [];
  steps = refl;
  timely = tt;
  goes_on = tt;
  so = λ left new_left gives together. begun answers host buffer left new_left none gives together;
}

pub caught_up : {S H : Type 0} (answers : Answering H) (saw : S → Event → S → Type 0) (old new : S) (first : H) (n : ℕ) (host : H) (buffer : List ℕ) (so : ConnectionSoFar answers saw old new first n host buffer)
    → (got put : List ℕ) → AwaitsRequest buffer got put → IsCaughtUp answers first (all_got so.events ++ got) (all_put so.events ++ put)
caught_up answers saw old new first n host buffer so got put awaited =
    let at = so.so (Some (all_got so.events ++ got)) (Some got) (gives_more so.events got so.goes_on) tt in
    record {
      replies = at.replies;
      next = host;
      rest = buffer ++ got;
      served = at.served;
      sent = put;
      cut = awaited;
      put_is = ap (λ u. u ++ put) at.written;
    }

-- a turn after what was written before it
turns_after : {H : Type 0} (answers : Answering H) (P Q R T : Type 0) (result : Result Next ConnectionFault) (is_last : Bool) (host next : H) (old new : Stream) (before put : List ℕ) → (P → R) → (Q → T)
    → Turns answers P Q result is_last host old new (Some []) (Some put) next → Turns answers R T result is_last host old new (Some before) (Some (before ++ put)) next
turns_after answers P Q R T (Ok Exchange) is_last host next old new before put f g turn = (turn.0, turn.1, ap (λ u. before ++ u) turn.2)
turns_after answers P Q R T (Ok End) is_last host next old new before put f g turn = (turn.0, turn.1, ap (λ u. before ++ u) turn.2)
turns_after answers P Q R T (Err fault.InputFault) is_last host next old new before put f g turn = (f turn.0, (turn.1.0, turn.1.1, turn.1.2, ap (λ u. before ++ u) turn.1.3))
turns_after answers P Q R T (Err fault.OutputFault) is_last host next old new before put f g turn = (g turn.0, (turn.1.0, turn.1.1, ap (λ u. before ++ u) turn.1.2))
turns_after answers P Q R T (Err fault.OutOfMemory) is_last host next old new before put f g turn = absurd turn

-- the turn, over a stream of which all reads are the next
pub record Turned {H : Type 0} (answers : Answering H) (result : Result Next ConnectionFault) (first : H) (n : ℕ) (host next : H) (rest : List ℕ) (events : List Event) (put_before : List ℕ) (left new_left : Stream) : Type 0 where
  pub old : Stream
  pub so : SoFar answers first left n host old (Some []) (Some put_before)
  pub turn : Turns answers (IsLatest ReadFails events) (IsLatest WriteFails events) result (is_last_at n) host old (prepend_known rest new_left) (Some put_before) (Some (all_put events)) next

turn_of : {S H : Type 0} (answers : Answering H) (saw : S → Event → S → Type 0) (old mid new : S) (first : H) (n : ℕ) (host next : H) (buffer rest : List ℕ) (result : Result Next ConnectionFault)
    (so : ConnectionSoFar answers saw old mid first n host buffer) (ran : Ran saw (AwaitsRequest buffer) mid new (TurnsAs answers result (is_last_at n) host next buffer rest)) (left new_left : Stream)
    → Gives (ran.events ++ so.events) left new_left → Turned answers result first n host next rest (ran.events ++ so.events) (all_put so.events) left new_left
turn_of answers saw old mid new first n host next buffer rest result so ran left new_left gives =
    let events = ran.events ++ so.events in
    let parted = gives_split ran.events so.events left new_left so.goes_on gives in
    let turn = turns_after answers (IsLatest ReadFails ran.events) (IsLatest WriteFails ran.events) (IsLatest ReadFails events) (IsLatest WriteFails events) result (is_last_at n) host next
    (prepend_known buffer parted.mid) (prepend_known rest new_left) (all_put so.events) (all_put ran.events) (latest_joined ReadFails ran.events so.events) (latest_joined WriteFails ran.events so.events)
    (ran.claimed.of_stream parted.mid new_left parted.second) in
    let P : List ℕ → Type 0 = λ put. Turns answers (IsLatest ReadFails events) (IsLatest WriteFails events) result (is_last_at n) host (prepend_known buffer parted.mid) (prepend_known rest new_left)
    (Some (all_put so.events)) (Some put) next in
    record {
      old = prepend_known buffer parted.mid;
      so = so.so left parted.mid parted.first parted.together;
      turn = subst P (sym (put_joined ran.events so.events)) turn;
    }

turn_timely : {S H : Type 0} (answers : Answering H) (saw : S → Event → S → Type 0) (old mid new : S) (first : H) (n : ℕ) (host next : H) (buffer rest : List ℕ) (result : Result Next ConnectionFault)
    (so : ConnectionSoFar answers saw old mid first n host buffer) (ran : Ran saw (AwaitsRequest buffer) mid new (TurnsAs answers result (is_last_at n) host next buffer rest))
    → Timely (IsCaughtUp answers first) (ran.events ++ so.events)
turn_timely answers saw old mid new first n host next buffer rest result so ran =
    timely_joined (AwaitsRequest buffer) (IsCaughtUp answers first) ran.events so.events (caught_up answers saw old mid first n host buffer so) ran.timely so.goes_on so.timely

-- ---- the steps

pub turn_more : {S H : Type 0} (answers : Answering H) (saw : S → Event → S → Type 0) (old mid new : S) (first : H) (n : ℕ) (host next : H) (buffer rest : List ℕ)
    → ConnectionSoFar answers saw old mid first n host buffer → Ran saw (AwaitsRequest buffer) mid new (TurnsAs answers (Ok Exchange) (is_last_at n) host next buffer rest)
    → ConnectionSoFar answers saw old new first (n + 1) next rest
turn_more answers saw old mid new first n host next buffer rest so ran =
    let events = ran.events ++ so.events in
    record {
      events = events;
      steps = steps_joined saw old mid new ran.events so.events so.steps ran.steps;
      timely = turn_timely answers saw old mid new first n host next buffer rest (Ok Exchange) so ran;
      goes_on = goes_on_joined ran.events so.events ran.claimed.followed so.goes_on;
      so = λ left new_left gives together. (
          let turned = turn_of answers saw old mid new first n host next buffer rest (Ok Exchange) so ran left new_left gives in
          goes_on answers (IsLatest ReadFails events) (IsLatest WriteFails events) first left n host next turned.old (prepend_known rest new_left) (Some []) (Some (all_put so.events)) (Some (all_put events))
          turned.so turned.turn
          );
    }

pub turn_last : {S H : Type 0} (answers : Answering H) (saw : S → Event → S → Type 0) (old mid new : S) (first : H) (n : ℕ) (host next : H) (buffer rest : List ℕ)
    → ConnectionSoFar answers saw old mid first n host buffer → Ran saw (AwaitsRequest buffer) mid new (TurnsAs answers (Ok End) (is_last_at n) host next buffer rest)
    → Ran saw (IsCaughtUp answers first) old new (Connects answers (Ok tt) first next)
turn_last answers saw old mid new first n host next buffer rest so ran =
    let events = ran.events ++ so.events in
    record {
      events = events;
      steps = steps_joined saw old mid new ran.events so.events so.steps ran.steps;
      timely = turn_timely answers saw old mid new first n host next buffer rest (Ok End) so ran;
      claimed = record {
        idle = λ is. absurd (cc is);
        serves = λ left new_left gives. (
            let turned = turn_of answers saw old mid new first n host next buffer rest (Ok End) so ran left new_left gives in
            ends_well answers (IsLatest ReadFails events) (IsLatest WriteFails events) first left n host next turned.old (prepend_known rest new_left) (Some []) (Some (all_put so.events)) (Some (all_put events))
            turned.so turned.turn
            );
      };
    }

-- nothing happened where there was no memory to begin
abbrev IsIdle : Result (Unit {0}) ConnectionFault → List Event → Type 0
IsIdle result events = result ≡ Err fault.OutOfMemory → events ≡ []

-- a turn doesn't end for want of memory to begin
idle_without_memory : {S H : Type 0} (answers : Answering H) (saw : S → Event → S → Type 0) (mid new : S) (n : ℕ) (host next : H) (buffer rest : List ℕ) (why : ConnectionFault) (events : List Event)
    → Ran saw (AwaitsRequest buffer) mid new (TurnsAs answers (Err why) (is_last_at n) host next buffer rest) → IsIdle (Err why) events
idle_without_memory answers saw mid new n host next buffer rest fault.InputFault events ran = λ is. absurd (cc is)
idle_without_memory answers saw mid new n host next buffer rest fault.OutputFault events ran = λ is. absurd (cc is)
idle_without_memory answers saw mid new n host next buffer rest fault.OutOfMemory events ran = absurd (ran.claimed.of_stream None None (record { taken = tt; end = λ latest. tt }))

pub turn_failed : {S H : Type 0} (answers : Answering H) (saw : S → Event → S → Type 0) (old mid new : S) (why : ConnectionFault) (first : H) (n : ℕ) (host next : H) (buffer rest : List ℕ)
    → ConnectionSoFar answers saw old mid first n host buffer → Ran saw (AwaitsRequest buffer) mid new (TurnsAs answers (Err why) (is_last_at n) host next buffer rest)
    → Ran saw (IsCaughtUp answers first) old new (Connects answers (Err why) first next)
turn_failed answers saw old mid new why first n host next buffer rest so ran =
    let events = ran.events ++ so.events in
    record {
      events = events;
      steps = steps_joined saw old mid new ran.events so.events so.steps ran.steps;
      timely = turn_timely answers saw old mid new first n host next buffer rest (Err why) so ran;
      claimed = record {
        idle = idle_without_memory answers saw mid new n host next buffer rest why events ran;
        serves = λ left new_left gives. (
            let turned = turn_of answers saw old mid new first n host next buffer rest (Err why) so ran left new_left gives in
            stops answers (IsLatest ReadFails events) (IsLatest WriteFails events) why first left n host next turned.old (prepend_known rest new_left) (Some []) (Some (all_put so.events)) (Some (all_put events))
            turned.so turned.turn
            );
      };
    }

-- ---- over its own stream

ends_as : {H : Type 0} (answers : Answering H) (P Q R T : Type 0) (result : Result (Unit {0}) ConnectionFault) (n : ℕ) (host : H) (old : Stream) (sent : List ℕ) (next : H) → (P → R) → (Q → T)
    → Ends answers P Q result n host old sent next → Ends answers R T result n host old sent next
ends_as answers P Q R T (Ok done) n host old sent next f g ends = ends
ends_as answers P Q R T (Err fault.InputFault) n host old sent next f g ends = (f ends.0, ends.1, ends.2)
ends_as answers P Q R T (Err fault.OutputFault) n host old sent next f g ends = (g ends.0, ends.1)
ends_as answers P Q R T (Err fault.OutOfMemory) n host old sent next f g ends = ends

pub serves_told : {H : Type 0} (answers : Answering H) (P Q R T : Type 0) (result : Result (Unit {0}) ConnectionFault) (host next : H) (stream held new_held : Stream) (put : List ℕ) → (P → R) → (Q → T)
    → Serves answers P Q result host next stream (Some []) (Some put) → Appends held new_held put → Serves answers R T result host next stream held new_held
serves_told answers P Q R T result host next stream held new_held put f g serves taken =
    record {
      replies = serves.replies;
      mid = serves.mid;
      left = serves.left;
      served = serves.served;
      sent = serves.sent;
      ends = ends_as answers P Q R T result _ serves.mid serves.left serves.sent next f g serves.ends;
      written = subst (Appends held new_held) serves.written taken;
    }

pub never_ran : {S H : Type 0} (answers : Answering H) (saw : S → Event → S → Type 0) (old : S) (host : H) → Ran saw (IsCaughtUp answers host) old old (Connects answers (Err fault.OutOfMemory) host host)
never_ran answers saw old host = record {
  events = [];
  steps = refl;
  timely = tt;
  claimed = record { idle = λ _. refl; serves = λ left new_left gives. never_began answers (IsLatest ReadFails []) (IsLatest WriteFails []) host left (Some []) };
}
