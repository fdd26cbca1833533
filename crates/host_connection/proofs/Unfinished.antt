-- The events of a connection, wherever it was left.
use Rattle.std.proofs.Common.{◌<◌, ◌⊎◌, inl, inr, ℕ, List, ◌++◌, length, Bool, Ok, Err, sym, ap, subst, ◌∙◌, append-nil}
use Rattle.http_wire.specs.Gathering.{Gathered}
use Rattle.http_wire.specs.Requests.{RequestParts}
use Rattle.http_wire.specs.Timing.{Event, all_got, all_put, GoesOn, NoRead, Ran}
use Rattle.http_wire.specs.Wires.{AwaitsBody, AwaitsHead}
use Rattle.http_wire.proofs.HeadReads.{ran_as}
use Rattle.http_wire.proofs.Trails.{goes_on_joined, nothing_got, steps_joined, timely_joined, timely_wide}
use Rattle.host_connection.specs.declared.phases.Phase.{Phase}
use Rattle.host_connection.specs.declared.phases.Phase.TheVariants as phase
use Rattle.host_connection.specs.declared.phases.Sending.{Sending}
use Rattle.host_connection.specs.declared.requests.Request.{Request}
use Rattle.host_connection.specs.declared.stops.Stop.{Stop}
use Rattle.host_connection.specs.declared.stops.Stop.TheVariants as stop
use Rattle.host_connection.specs.Carrying.{Carried, ConnectionSoFar, Refusing, Replying}
use Rattle.host_connection.specs.Phases.{BodySoFar, HeadSoFar, InviteSoFar, IsTold, RefusalSoFar, ReplySoFar}
use Rattle.host_connection.specs.Serving.{Answering, IsInterim, is_last_at}
use Rattle.host_connection.specs.Timing.{AwaitsRequest, IsCaughtUp, ReadEnds}
use Rattle.host_connection.specs.Walks.{Anything}
use Rattle.host_connection.proofs.TimedConnections.{caught_up}
use Rattle.host_connection.proofs.TimedReads.{HeadRan, body_awaits, head_awaits}
use Rattle.host_connection.proofs.TurnParts.{AwaitsAnnounced}

-- what came after what was before
joined : {S : Type 0} (saw : S → Event → S → Type 0) (may inner : List ℕ → List ℕ → Type 0) (old mid new : S) (first : Ran saw may old mid GoesOn) (second : Ran saw inner mid new GoesOn)
    → ((got put : List ℕ) → inner got put → may (all_got first.events ++ got) (all_put first.events ++ put)) → Ran saw may old new GoesOn
joined saw may inner old mid new first second wider = record {
  events = second.events ++ first.events;
  steps = steps_joined saw old mid new second.events first.events first.steps second.steps;
  timely = timely_joined inner may second.events first.events wider second.timely first.claimed first.timely;
  claimed = goes_on_joined second.events first.events second.claimed first.claimed;
}

-- ---- since the turn began

wide_head : {S : Type 0} (saw : S → Event → S → Type 0) (old new : S) (begun : List ℕ) → Ran saw (AwaitsHead begun) old new GoesOn → Ran saw (AwaitsRequest begun) old new GoesOn
wide_head saw old new begun ran = record {
  events = ran.events;
  steps = ran.steps;
  timely = timely_wide (AwaitsHead begun) (AwaitsRequest begun) ran.events (head_awaits begun) ran.timely;
  claimed = ran.claimed;
}

in_head : {S : Type 0} (saw : S → Event → S → Type 0) (began now : S) (begun buffer : List ℕ) → HeadSoFar saw began now begun buffer → Ran saw (AwaitsRequest begun) began now GoesOn
in_head saw began now begun buffer so = wide_head saw began now begun (ran_as saw (AwaitsHead begun) began now _ GoesOn (λ events keeps. keeps.goes_on) so)

head_done : {S : Type 0} (saw : S → Event → S → Type 0) (began read : S) (parts : RequestParts) (begun behind : List ℕ) → HeadRan saw began read (Ok parts) begun behind
    → Ran saw (AwaitsRequest begun) began read GoesOn
head_done saw began read parts begun behind ran = wide_head saw began read begun (ran_as saw (AwaitsHead begun) began read _ GoesOn (λ events reads. reads.ends) ran)

in_invitation : {S : Type 0} (saw : S → Event → S → Type 0) (began now : S) (parts : RequestParts) (size at : ℕ) (begun buffer : List ℕ) → InviteSoFar saw began now parts size at begun buffer
    → Ran saw (AwaitsRequest begun) began now GoesOn
in_invitation saw began now parts size at begun buffer so =
    joined saw (AwaitsRequest begun) NoRead began so.read now (head_done saw began so.read parts begun buffer so.head) (ran_as saw NoRead so.read now _ GoesOn (λ events sent. sent.0) so.sent)
    (λ got put none. absurd none)

-- the invitation and the part of the body
after_head : {S : Type 0} (saw : S → Event → S → Type 0) (began now : S) (parts : RequestParts) (size : ℕ) (begun part buffer : List ℕ) (so : BodySoFar saw began now parts size begun part buffer)
    → Ran saw (AwaitsAnnounced parts so.behind) so.read now GoesOn
after_head saw began now parts size begun part buffer so =
    let first = so.invites in
    let second = so.came in
    record {
      events = second.events ++ first.events;
      steps = steps_joined saw so.read so.invited now second.events first.events first.steps second.steps;
      timely = timely_joined (AwaitsBody so.behind size) (AwaitsAnnounced parts so.behind) second.events first.events
          (λ got put awaited. (
            size,
            (so.announced, subst (IsInterim parts) (sym (ap (λ u. all_put first.events ++ u) awaited.1 ∙ append-nil (all_put first.events))) first.claimed.1),
            subst (λ before. length (so.behind ++ (before ++ got)) < size) (sym (nothing_got first.events first.timely)) awaited.0,
          ))
          second.timely first.claimed.0 (timely_wide NoRead (AwaitsAnnounced parts so.behind) first.events (λ got put none. absurd none) first.timely);
      claimed = goes_on_joined second.events first.events second.claimed.goes_on first.claimed.0;
    }

in_body : {S : Type 0} (saw : S → Event → S → Type 0) (began now : S) (parts : RequestParts) (size : ℕ) (begun part buffer : List ℕ) → BodySoFar saw began now parts size begun part buffer
    → Ran saw (AwaitsRequest begun) began now GoesOn
in_body saw began now parts size begun part buffer so =
    let first = so.head in
    let second = after_head saw began now parts size begun part buffer so in
    record {
      events = second.events ++ first.events;
      steps = steps_joined saw began so.read now second.events first.events first.steps second.steps;
      timely = timely_joined (AwaitsAnnounced parts so.behind) (AwaitsRequest begun) second.events first.events (body_awaits saw began so.read parts begun so.behind first) second.timely
          first.claimed.ends (timely_wide (AwaitsHead begun) (AwaitsRequest begun) first.events (head_awaits begun) first.timely);
      claimed = goes_on_joined second.events first.events second.claimed first.claimed.ends;
    }

in_reply : {S H : Type 0} (answers : Answering H) (saw : S → Event → S → Type 0) (began now : S) (before host : H) (is_last : Bool) (request : Request) (text : List ℕ) (at : ℕ) (begun buffer : List ℕ)
    → ReplySoFar answers saw began now before host is_last request text at begun buffer → Ran saw (AwaitsRequest begun) began now GoesOn
in_reply answers saw began now before host is_last request text at begun buffer so =
    joined saw (AwaitsRequest begun) NoRead began so.read now (ran_as saw (AwaitsRequest begun) began so.read _ GoesOn (λ events reads. reads.ends) so.taken)
    (ran_as saw NoRead so.read now _ GoesOn (λ events sent. sent.0) so.sent) (λ got put none. absurd none)

told_goes_on : (why : Stop) (events : List Event) → IsTold why → ReadEnds {A = Request} (Err why) events → GoesOn events
told_goes_on stop.Ended events told ends = absurd told
told_goes_on stop.ReadFault events told ends = absurd told
told_goes_on stop.WriteFault events told ends = absurd told
told_goes_on (stop.Refused why head_only) events told ends = ends
told_goes_on (stop.OutOfMemory head_only) events told ends = ends

in_refusal : {S : Type 0} (saw : S → Event → S → Type 0) (began now : S) (is_last : Bool) (why : Stop) (at : ℕ) (begun buffer : List ℕ) → RefusalSoFar saw began now is_last why at begun buffer
    → Ran saw (AwaitsRequest begun) began now GoesOn
in_refusal saw began now is_last why at begun buffer so =
    joined saw (AwaitsRequest begun) NoRead began so.read now
    (ran_as saw (AwaitsRequest begun) began so.read _ GoesOn (λ events reads. told_goes_on why events so.told reads.ends) so.missed)
    (ran_as saw NoRead so.read now _ GoesOn (λ events sent. sent.0) so.sent) (λ got put none. absurd none)

either : {S H : Type 0} (answers : Answering H) (saw : S → Event → S → Type 0) (began now : S) (before host : H) (is_last : Bool) (begun buffer : List ℕ) (out : Gathered) (s : Sending)
    → (Replying answers saw began now before host is_last begun buffer out s ⊎ Refusing saw began now before host is_last begun buffer out s) → Ran saw (AwaitsRequest begun) began now GoesOn
either answers saw began now before host is_last begun buffer out s (inl r) = in_reply answers saw began now before host is_last r.request _ r.at begun buffer r.so
either answers saw began now before host is_last begun buffer out s (inr r) = in_refusal saw began now is_last r.why r.at begun buffer r.so

-- ---- since the connection began

whole : {S H : Type 0} (answers : Answering H) (saw : S → Event → S → Type 0) (start began now : S) (first : H) (n : ℕ) (before : H) (begun : List ℕ) (so : ConnectionSoFar answers saw start began first n before begun)
    → Ran saw (AwaitsRequest begun) began now GoesOn → Ran saw (IsCaughtUp answers first) start now Anything
whole answers saw start began now first n before begun so ran = record {
  events = ran.events ++ so.events;
  steps = steps_joined saw start began now ran.events so.events so.steps ran.steps;
  timely = timely_joined (AwaitsRequest begun) (IsCaughtUp answers first) ran.events so.events (caught_up answers saw start began first n before begun so) ran.timely so.goes_on so.timely;
  claimed = tt;
}

pub so_far : {S H : Type 0} (answers : Answering H) (saw : S → Event → S → Type 0) (waits : Type 0) (start now : S) (first host : H) (buffer : List ℕ) (out : Gathered) (n : ℕ) (p : Phase)
    → Carried answers saw waits start first now host buffer out n p → Ran saw (IsCaughtUp answers first) start now Anything
so_far answers saw waits start now first host buffer out n phase.Head c =
    whole answers saw start c.began now first n c.before c.begun c.so (in_head saw c.began now c.begun buffer c.turn.0)
so_far answers saw waits start now first host buffer out n (phase.Invite i) c =
    whole answers saw start c.began now first n c.before c.begun c.so (in_invitation saw c.began now i.head i.size i.at c.begun buffer c.turn.0)
so_far answers saw waits start now first host buffer out n (phase.Body b) c =
    whole answers saw start c.began now first n c.before c.begun c.so (in_body saw c.began now b.head b.size c.begun b.body.items buffer c.turn.0)
so_far answers saw waits start now first host buffer out n (phase.Reply s) c =
    whole answers saw start c.0.began now first n c.0.before c.0.begun c.0.so (either answers saw c.0.began now c.0.before host (is_last_at n) c.0.begun buffer out s c.0.turn)
so_far answers saw waits start now first host buffer out n (phase.Ended result) ran = ran_as saw (IsCaughtUp answers first) start now _ Anything (λ events connects. tt) ran
