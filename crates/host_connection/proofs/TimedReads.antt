-- What a connection reads of a request, and what it writes before the body.
use Rattle.std.proofs.Common.{◌≡◌, ◌<◌, inl, inr, ℕ, List, [], ◌++◌, length, Bool, Some, Result, Ok, Err, codes, refl, sym, ap, subst, ◌∙◌, append-nil, arith}
use Rattle.std.specs.Prelude.{vec_len}
use Rattle.std.specs.declared.vec.Vec.{Vec}
use Rattle.std.specs.Io.KnownBytes.{prepend_known}
use Rattle.std.specs.Str.{bytes_eq}
use Rattle.http_wire.specs.declared.faults.BodyFault.{BodyFault}
use Rattle.http_wire.specs.declared.faults.BodyFault.TheVariants as body_fault
use Rattle.http_wire.specs.declared.faults.HeadFault.{HeadFault}
use Rattle.http_wire.specs.declared.faults.HeadFault.TheVariants as head_fault
use Rattle.http_wire.specs.Expectations.{ExpectsContinue}
use Rattle.http_wire.specs.Fields.{AnnouncesBody}
use Rattle.http_wire.specs.Requests.{RequestParts}
use Rattle.http_wire.specs.Timing.{Event, AtEnd, ReadFails, WriteFails, all_got, all_put, IsLatest, GoesOn, Timely, Ran, NoRead}
use Rattle.http_wire.specs.Wires.{AwaitsHead, AwaitsBody, ReadsHead, ReadsBody}
use Rattle.http_wire.proofs.Trails.{goes_on_joined, latest_joined, steps_joined, timely_joined, timely_wide, nothing_got}
use Rattle.host_connection.specs.Serving.{Stream, limit_of, IsInterim, IsCut, Announced, TakesRequest, TakesNext, Stops}
use Rattle.host_connection.specs.Timing.{AwaitsRequest, InvitesAs, ReadEnds, ReadsHeadAs, ReadsAs}
use Rattle.host_connection.specs.declared.requests.Request.{Request}
use Rattle.host_connection.specs.declared.stops.Stop.{Stop}
use Rattle.host_connection.specs.declared.stops.Stop.TheVariants as stop
use Rattle.host_connection.specs.Stopping.{stop_of_body, stop_of_head}
use Rattle.host_connection.proofs.Turns.{head_stopped, invited, body_stopped, taken}
use Rattle.http_wire.proofs.SplitTrails.{gives_more, gives_split, gives_written, put_after, put_before}
use Rattle.host_connection.proofs.TurnParts.{Invites, TakesBody, SizeStops, BodyStops, AwaitsAnnounced, TakesBodyAs}

-- ---- a head

pub head_read : (parts : RequestParts) (buffer rest : List ℕ) (events : List Event) → ReadsHead (Ok parts) buffer rest events
    → ReadsHeadAs (Ok parts) buffer rest events
head_read parts buffer rest events reads = record { nothing_put = reads.nothing_put; ends = reads.ends; of_stream = reads.of_stream }

pub head_missed : (why : HeadFault) (buffer rest : List ℕ) (events : List Event) → ReadsHead (Err why) buffer rest events
    → ReadsHeadAs (Err (stop_of_head why)) buffer rest events
head_missed head_fault.Ended buffer rest events reads = record {
  nothing_put = reads.nothing_put;
  ends = reads.ends;
  of_stream = λ left new_left gives. (reads.of_stream left new_left gives).0;
}
head_missed head_fault.ReadFault buffer rest events reads = record {
  nothing_put = reads.nothing_put;
  ends = reads.ends;
  of_stream = λ left new_left gives. reads.ends;
}
head_missed head_fault.HeadTooLarge buffer rest events reads = record {
  nothing_put = reads.nothing_put;
  ends = reads.ends;
  of_stream = λ left new_left gives. inl (prepend_known rest new_left, reads.of_stream left new_left gives, refl);
}
head_missed head_fault.BadHead buffer rest events reads = record {
  nothing_put = reads.nothing_put;
  ends = reads.ends;
  of_stream = λ left new_left gives. (let bad = reads.of_stream left new_left gives in inr (prepend_known rest new_left, bad.0, bad.1, bad.2, refl));
}
head_missed head_fault.OutOfMemory buffer rest events reads = record {
  nothing_put = reads.nothing_put;
  ends = reads.ends;
  of_stream = λ left new_left gives. ((reads.of_stream left new_left gives).0, refl);
}

-- ---- a body

pub body_taken : {A : Type 0} (parts : RequestParts) (size : ℕ) (body : Vec ℕ A) (buffer rest : List ℕ) → vec_len body ≡ length body.items
    → (events : List Event) → ReadsBody {A = A} (Ok body) size buffer rest events → TakesBodyAs {A = A} (Ok body) parts size buffer rest events
body_taken parts size body buffer rest same events reads = record {
  nothing_put = reads.nothing_put;
  ends = reads.ends;
  of_stream = λ left new_left gives. (let read = reads.of_stream left new_left gives in (sym same ∙ read.0, read.1));
}

pub body_missed : {A : Type 0} (why : BodyFault) (head_only : Bool) (parts : RequestParts) (size : ℕ) (buffer rest : List ℕ) → head_only ≡ bytes_eq parts.method (codes "HEAD")
    → (events : List Event) → ReadsBody {A = A} (Err why) size buffer rest events → TakesBodyAs {A = A} (Err (stop_of_body head_only why)) parts size buffer rest events
body_missed body_fault.Ended head_only parts size buffer rest named events reads = record {
  nothing_put = reads.nothing_put;
  ends = reads.ends;
  of_stream = λ left new_left gives. (reads.of_stream left new_left gives).1.1;
}
body_missed body_fault.ReadFault head_only parts size buffer rest named events reads = record {
  nothing_put = reads.nothing_put;
  ends = reads.ends;
  of_stream = λ left new_left gives. reads.ends;
}
body_missed body_fault.OutOfMemory head_only parts size buffer rest named events reads = record {
  nothing_put = reads.nothing_put;
  ends = reads.ends;
  of_stream = λ left new_left gives. (named, omega (arith, (reads.of_stream left new_left gives).2));
}

-- what a body is that is taken, once its client was invited
abbrev TakesVec : {A : Type 0} → RequestParts → Vec ℕ A → Stream → Stream → List ℕ → Type 0
TakesVec parts body = TakesBody parts body.items

-- the reads and writes for a body
abbrev BodyRan : {S A : Type 0} → (saw : S → Event → S → Type 0) → (old new : S) → Result (Vec ℕ A) Stop → RequestParts → (buffer rest : List ℕ) → Type 0
BodyRan {A = A} saw old new result parts buffer rest = Ran saw (AwaitsAnnounced parts buffer) old new (ReadsAs {A = Vec ℕ A} result (TakesVec parts) (BodyStops parts) buffer rest)

pub body_refused : {S A : Type 0} (saw : S → Event → S → Type 0) (old : S) (why : Stop) (parts : RequestParts) (buffer : List ℕ) → Announced parts (Err why)
    → BodyRan {A = A} saw old old (Err why) parts buffer buffer
body_refused saw old stop.Ended parts buffer none = absurd none
body_refused saw old stop.ReadFault parts buffer none = absurd none
body_refused saw old stop.WriteFault parts buffer none = absurd none
body_refused saw old (stop.Refused reason head_only) parts buffer none = record {
  events = [];
  steps = refl;
  timely = tt;
  claimed = record { ends = tt; of_stream = λ left new_left gives. (refl, none) };
}
body_refused saw old (stop.OutOfMemory head_only) parts buffer none = absurd none

-- nothing is read while something is written
writes_wide : (wide : List ℕ → List ℕ → Type 0) (events : List Event) → Timely NoRead events → Timely wide events
writes_wide wide events timely = timely_wide NoRead wide events (λ got put no. absurd no) timely

-- the client waits for nothing
pub not_invited : (parts : RequestParts) → ¬ (ExpectsContinue parts) → InvitesAs (Ok tt) parts []
not_invited parts unasked = (tt, inr (unasked, refl))

pub body_uninvited : {S A : Type 0} (saw : S → Event → S → Type 0) (old new : S) (why : Stop) (parts : RequestParts) (size : ℕ) (buffer : List ℕ)
    → AnnouncesBody parts.fields (limit_of parts) size → Ran saw NoRead old new (InvitesAs (Err why) parts) → BodyRan {A = A} saw old new (Err why) parts buffer buffer
body_uninvited saw old new stop.Ended parts size buffer announced ran = absurd ran.claimed
body_uninvited saw old new stop.ReadFault parts size buffer announced ran = absurd ran.claimed
body_uninvited saw old new stop.WriteFault parts size buffer announced ran = record {
  events = ran.events;
  steps = ran.steps;
  timely = writes_wide (AwaitsAnnounced parts buffer) ran.events ran.timely;
  claimed = record {
    ends = ran.claimed.0;
    of_stream = λ left new_left gives. (let part = ran.claimed.1 in (ran.claimed.0, (size, part.0, part.1, (announced, part.2))));
  };
}
body_uninvited saw old new (stop.Refused reason head_only) parts size buffer announced ran = absurd ran.claimed
body_uninvited saw old new (stop.OutOfMemory head_only) parts size buffer announced ran = absurd ran.claimed

-- how the events end doesn't depend on what would have been read
ends_as : (A B : Type 0) (why : Stop) (events : List Event) → ReadEnds {A = A} (Err why) events → ReadEnds {A = B} (Err why) events
ends_as A B stop.Ended events ends = ends
ends_as A B stop.ReadFault events ends = ends
ends_as A B stop.WriteFault events ends = ends
ends_as A B (stop.Refused reason head_only) events ends = ends
ends_as A B (stop.OutOfMemory head_only) events ends = ends

ends_joined : (A B : Type 0) (why : Stop) (events past : List Event) → ReadEnds {A = A} (Err why) events → GoesOn past → ReadEnds {A = B} (Err why) (events ++ past)
ends_joined A B stop.Ended events past ends on = latest_joined AtEnd events past ends
ends_joined A B stop.ReadFault events past ends on = latest_joined ReadFails events past ends
ends_joined A B stop.WriteFault events past ends on = latest_joined WriteFails events past ends
ends_joined A B (stop.Refused reason head_only) events past ends on = goes_on_joined events past ends on
ends_joined A B (stop.OutOfMemory head_only) events past ends on = goes_on_joined events past ends on

size_stops : (P Q R : Type 0) (old : Stream) (parts : RequestParts) (size : ℕ) (sent : List ℕ) (why : Stop) → (P → Q) → Invites parts size sent → SizeStops parts size P old why
    → BodyStops parts Q R old sent why
size_stops P Q R old parts size sent stop.Ended f invites stops = (size, invites, stops)
size_stops P Q R old parts size sent stop.ReadFault f invites stops = (f stops, (size, invites))
size_stops P Q R old parts size sent stop.WriteFault f invites stops = absurd stops
size_stops P Q R old parts size sent (stop.Refused reason head_only) f invites stops = absurd stops
size_stops P Q R old parts size sent (stop.OutOfMemory head_only) f invites stops = (stops.0, (size, stops.1, invites))

-- what was read and written, after an invitation
body_claimed : {A : Type 0} (result : Result (Vec ℕ A) Stop) (parts : RequestParts) (size : ℕ) (buffer rest : List ℕ) (events past : List Event)
    → GoesOn past → all_got past ≡ [] → ((sent : List ℕ) → sent ≡ all_put past → Invites parts size sent) → TakesBodyAs {A = A} result parts size buffer rest events
    → ReadsAs {A = Vec ℕ A} result (TakesVec parts) (BodyStops parts) buffer rest (events ++ past)
body_claimed (Ok body) parts size buffer rest events past on none invites reads = record {
  ends = goes_on_joined events past reads.ends on;
  of_stream = λ left new_left gives. (
      let read = reads.of_stream left new_left (gives_written events past left new_left none gives) in
      let sent = invites (all_put (events ++ past)) (put_before events past reads.nothing_put) in
      (subst (λ n. Invites parts n (all_put (events ++ past))) (sym read.0) sent, read.1)
      );
}
body_claimed {A = A} (Err why) parts size buffer rest events past on none invites reads = record {
  ends = ends_joined (Vec ℕ A) (Vec ℕ A) why events past reads.ends on;
  of_stream = λ left new_left gives. (
      size_stops (IsLatest ReadFails events) (IsLatest ReadFails (events ++ past)) (IsLatest WriteFails (events ++ past)) (prepend_known buffer left) parts size (all_put (events ++ past)) why
      (latest_joined ReadFails events past) (invites (all_put (events ++ past)) (put_before events past reads.nothing_put))
      (reads.of_stream left new_left (gives_written events past left new_left none gives))
      );
}

pub body_after : {S A : Type 0} (saw : S → Event → S → Type 0) (old mid new : S) (result : Result (Vec ℕ A) Stop) (parts : RequestParts) (size : ℕ) (buffer rest : List ℕ)
    → AnnouncesBody parts.fields (limit_of parts) size → Ran saw NoRead old mid (InvitesAs (Ok tt) parts)
    → Ran saw (AwaitsBody buffer size) mid new (TakesBodyAs {A = A} result parts size buffer rest) → BodyRan {A = A} saw old new result parts buffer rest
body_after {A = A} saw old mid new result parts size buffer rest announced first second =
    let none : all_got first.events ≡ [] = nothing_got first.events first.timely in
    let invites : (sent : List ℕ) → sent ≡ all_put first.events → Invites parts size sent = λ sent is. (announced, subst (IsInterim parts) (sym is) first.claimed.1) in
    record {
      events = second.events ++ first.events;
      steps = steps_joined saw old mid new second.events first.events first.steps second.steps;
      timely = timely_joined (AwaitsBody buffer size) (AwaitsAnnounced parts buffer) second.events first.events
          (λ got put awaited. (
            size,
            invites (all_put first.events ++ put) (ap (λ u. all_put first.events ++ u) awaited.1 ∙ append-nil (all_put first.events)),
            subst (λ before. length (buffer ++ (before ++ got)) < size) (sym none) awaited.0,
          ))
          second.timely first.claimed.0 (writes_wide (AwaitsAnnounced parts buffer) first.events first.timely);
      claimed = body_claimed {A = A} result parts size buffer rest second.events first.events first.claimed.0 none invites second.claimed;
    }

-- ---- a request

body_stops_as : (P Q R T : Type 0) (old : Stream) (parts : RequestParts) (sent : List ℕ) (why : Stop) → (P → R) → (Q → T) → BodyStops parts P Q old sent why → BodyStops parts R T old sent why
body_stops_as P Q R T old parts sent stop.Ended f g stops = stops
body_stops_as P Q R T old parts sent stop.ReadFault f g stops = (f stops.0, stops.1)
body_stops_as P Q R T old parts sent stop.WriteFault f g stops = (g stops.0, stops.1)
body_stops_as P Q R T old parts sent (stop.Refused reason head_only) f g stops = stops
body_stops_as P Q R T old parts sent (stop.OutOfMemory head_only) f g stops = stops

pub head_awaits : (buffer got put : List ℕ) → AwaitsHead buffer got put → AwaitsRequest buffer got put
head_awaits buffer got put awaited = inl (awaited.0, awaited.1)

-- the reads of a head
abbrev pub HeadRan : {S : Type 0} → (saw : S → Event → S → Type 0) → (old new : S) → Result RequestParts Stop → (buffer rest : List ℕ) → Type 0
HeadRan saw old new result buffer rest = Ran saw (AwaitsHead buffer) old new (ReadsHeadAs result buffer rest)

pub body_awaits : {S : Type 0} (saw : S → Event → S → Type 0) (old mid : S) (parts : RequestParts) (buffer more : List ℕ) (first : HeadRan saw old mid (Ok parts) buffer more)
    → (got put : List ℕ) → AwaitsAnnounced parts more got put → AwaitsRequest buffer (all_got first.events ++ got) (all_put first.events ++ put)
body_awaits saw old mid parts buffer more first got put awaited =
    let head = first.claimed.of_stream (Some (all_got first.events ++ got)) (Some got) (gives_more first.events got first.claimed.ends) in
    let before = Some (buffer ++ (all_got first.events ++ got)) in
    subst (λ u. IsCut before (u ++ put)) (sym first.claimed.nothing_put) (inr (record {
      rest = Some (more ++ got);
      size = awaited.0;
      invited = invited before (Some (more ++ got)) parts awaited.0 put head awaited.1;
      short = awaited.2;
    }))

-- no head was read
pub request_missed : {S : Type 0} (saw : S → Event → S → Type 0) (old new : S) (why : Stop) (buffer rest : List ℕ) (takes : Request → Stream → Stream → List ℕ → Type 0)
    → HeadRan saw old new (Err why) buffer rest → Ran saw (AwaitsRequest buffer) old new (ReadsAs {A = Request} (Err why) takes Stops buffer rest)
request_missed saw old new why buffer rest takes ran = record {
  events = ran.events;
  steps = ran.steps;
  timely = timely_wide (AwaitsHead buffer) (AwaitsRequest buffer) ran.events (head_awaits buffer) ran.timely;
  claimed = record {
    ends = ends_as RequestParts Request why ran.events ran.claimed.ends;
    of_stream = λ left new_left gives. (
        let P : Type 0 = IsLatest ReadFails ran.events in
        let Q : Type 0 = IsLatest WriteFails ran.events in
        subst (λ put. Stops P Q (prepend_known buffer left) put why) (sym ran.claimed.nothing_put)
        (head_stopped P Q (prepend_known buffer left) why (ran.claimed.of_stream left new_left gives))
        );
  };
}

request_timely : {S A : Type 0} (saw : S → Event → S → Type 0) (old mid new : S) (parts : RequestParts) (buffer more rest : List ℕ) (result : Result (Vec ℕ A) Stop)
    (first : HeadRan saw old mid (Ok parts) buffer more) (second : BodyRan {A = A} saw mid new result parts more rest)
    → Timely (AwaitsRequest buffer) (second.events ++ first.events)
request_timely saw old mid new parts buffer more rest result first second =
    timely_joined (AwaitsAnnounced parts more) (AwaitsRequest buffer) second.events first.events (body_awaits saw old mid parts buffer more first) second.timely first.claimed.ends
    (timely_wide (AwaitsHead buffer) (AwaitsRequest buffer) first.events (head_awaits buffer) first.timely)

-- a head was read, and no body
pub request_cut : {S A : Type 0} (saw : S → Event → S → Type 0) (old mid new : S) (parts : RequestParts) (why : Stop) (buffer more rest : List ℕ) (takes : Request → Stream → Stream → List ℕ → Type 0)
    → HeadRan saw old mid (Ok parts) buffer more → BodyRan {A = A} saw mid new (Err why) parts more rest
    → Ran saw (AwaitsRequest buffer) old new (ReadsAs {A = Request} (Err why) takes Stops buffer rest)
request_cut {A = A} saw old mid new parts why buffer more rest takes first second =
    let events = second.events ++ first.events in
    record {
      events = events;
      steps = steps_joined saw old mid new second.events first.events first.steps second.steps;
      timely = request_timely {A = A} saw old mid new parts buffer more rest (Err why) first second;
      claimed = record {
        ends = ends_joined (Vec ℕ A) Request why second.events first.events second.claimed.ends first.claimed.ends;
        of_stream = λ left new_left gives. (
            let P : Type 0 = IsLatest ReadFails events in
            let Q : Type 0 = IsLatest WriteFails events in
            let parted = gives_split second.events first.events left new_left first.claimed.ends gives in
            let stops = body_stops_as (IsLatest ReadFails second.events) (IsLatest WriteFails second.events) P Q (prepend_known more parted.mid) parts (all_put second.events) why
            (latest_joined ReadFails second.events first.events) (latest_joined WriteFails second.events first.events) (second.claimed.of_stream parted.mid new_left parted.second) in
            subst (λ put. Stops P Q (prepend_known buffer left) put why) (sym (put_after second.events first.events first.claimed.nothing_put))
            (body_stopped P Q (prepend_known buffer left) (prepend_known more parted.mid) parts (all_put second.events) why (first.claimed.of_stream left parted.mid parted.first) stops)
            );
      };
    }

-- a request was read
pub request_read : {S A : Type 0} (saw : S → Event → S → Type 0) (old mid new : S) (parts : RequestParts) (body : Vec ℕ A) (request : Request) (is_last : Bool) (buffer more rest : List ℕ)
    → request.head ≡ parts → request.body.items ≡ body.items → request.is_last ≡ is_last
    → HeadRan saw old mid (Ok parts) buffer more → BodyRan {A = A} saw mid new (Ok body) parts more rest
    → Ran saw (AwaitsRequest buffer) old new (ReadsAs {A = Request} (Ok request) (TakesNext is_last) Stops buffer rest)
request_read {A = A} saw old mid new parts body request is_last buffer more rest head_is body_is same first second =
    let events = second.events ++ first.events in
    record {
      events = events;
      steps = steps_joined saw old mid new second.events first.events first.steps second.steps;
      timely = request_timely {A = A} saw old mid new parts buffer more rest (Ok body) first second;
      claimed = record {
        ends = goes_on_joined second.events first.events second.claimed.ends first.claimed.ends;
        of_stream = λ left new_left gives. (
            let parted = gives_split second.events first.events left new_left first.claimed.ends gives in
            let read = second.claimed.of_stream parted.mid new_left parted.second in
            let old_stream = prepend_known buffer left in
            let new_stream = prepend_known rest new_left in
            let took = taken old_stream (prepend_known more parted.mid) new_stream parts body.items (first.claimed.of_stream left parted.mid parted.first) read.0.0 read.1 in
            let interim = subst (IsInterim parts) (sym (put_after second.events first.events first.claimed.nothing_put)) read.0.1 in (
              subst (λ p. TakesRequest old_stream new_stream p request.body.items) (sym head_is) (subst (TakesRequest old_stream new_stream parts) (sym body_is) took),
              subst (λ p. IsInterim p (all_put events)) (sym head_is) interim,
              same,
            )
            );
      };
    }
