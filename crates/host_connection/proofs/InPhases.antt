-- A turn in phases is a turn.
use Rattle.std.proofs.Common.{◌≡◌, ℕ, inl, List, [], ◌++◌, length, take, drop, Bool, Some, None, Result, Ok, Err, codes, refl, sym, ap, ◌∙◌, append-nil, arith}
use Rattle.std.specs.Prelude.{vec_len}
use Rattle.std.specs.declared.vec.Vec.{Vec}
use Rattle.std.specs.Str.{bytes_eq}
use Rattle.std.proofs.lemmas.List.{take_all, take-append-drop, length-drop}
use Rattle.http_wire.specs.declared.faults.BodyFault.{BodyFault}
use Rattle.http_wire.specs.declared.faults.HeadFault.{HeadFault}
use Rattle.http_wire.specs.declared.halts.Halt.{Halt}
use Rattle.http_wire.specs.declared.halts.Halt.TheVariants.{Failed, WouldWait}
use Rattle.http_wire.specs.declared.sinks.WriteFailed.{WriteFailed}
use Rattle.http_wire.specs.Expectations.{ExpectsContinue, continue_text}
use Rattle.http_wire.specs.Fields.{AnnouncesBody}
use Rattle.http_wire.specs.Halting.{KeepsOn, TriesBody, TriesHead, WritesFrom}
use Rattle.http_wire.specs.Requests.{RequestParts}
use Rattle.http_wire.specs.Timing.{Event, WriteFails, all_got, all_put, IsLatest, GoesOn, NoRead, Ran}
use Rattle.http_wire.specs.Wires.{AwaitsHead, AwaitsBody, ReadsHead, ReadsBody}
use Rattle.http_wire.proofs.HeadReads.{ran_as}
use Rattle.http_wire.proofs.Resumed.{head_goes_on, body_goes_on}
use Rattle.http_wire.proofs.SplitTrails.{ran_none}
use Rattle.http_wire.proofs.Trails.{put_joined, goes_on_joined, latest_joined, steps_joined, timely_joined}
use Rattle.host_replies.specs.Replies.{closes}
use Rattle.host_connection.specs.declared.connections.ConnectionFault.{ConnectionFault}
use Rattle.host_connection.specs.declared.connections.ConnectionFault.TheVariants as fault
use Rattle.host_connection.specs.declared.stops.Stop.{Stop}
use Rattle.host_connection.specs.declared.stops.Stop.TheVariants as stop
use Rattle.host_connection.specs.declared.requests.Request.{Request}
use Rattle.host_connection.specs.Phases.{SentUpTo, HeadSoFar, InviteSoFar, BodySoFar, ReplySoFar, RefusalSoFar, IsTold, refusal_text}
use Rattle.host_connection.specs.Serving.{Answering, Announced, IsSent, TakesNext, Stops, limit_of}
use Rattle.host_connection.specs.Stopping.{stop_of_body, stop_of_head}
use Rattle.host_connection.specs.Timing.{AwaitsRequest, ReadsHeadAs, ReadsAs, InvitesAs}
use Rattle.host_connection.proofs.TimedReads.{head_read, head_missed, body_taken, body_missed, body_after, body_refused, body_uninvited, request_read, request_missed, request_cut, not_invited}
use Rattle.host_connection.proofs.TimedTurns.{turn_answered, turn_refused, next_of}
use Rattle.host_connection.proofs.Turns.{is_end, exchange_sent, exchange_cut}
use Rattle.host_connection.proofs.TurnParts.{Refuses, Sends, Next, End, TakesBodyAs, ExchangesAs, RefusesAs, IsSilent, TurnsAs}

-- how no request is read
abbrev pub Missed : {S : Type 0} → (saw : S → Event → S → Type 0) → (mid new : S) → Stop → Bool → (begun rest : List ℕ) → Type 0
Missed saw mid new why is_last begun rest = Ran saw (AwaitsRequest begun) mid new (ReadsAs {A = Request} (Err why) (TakesNext is_last) Stops begun rest)

-- ---- in a head

pub head_begins : {S : Type 0} (saw : S → Event → S → Type 0) (now : S) (buffer : List ℕ) → HeadSoFar saw now now buffer buffer
head_begins saw now buffer = ran_none saw (AwaitsHead buffer) now (KeepsOn buffer buffer) (record { nothing_put = refl; goes_on = tt; grown = sym (append-nil buffer) })

pub head_waits : {S : Type 0} (saw : S → Event → S → Type 0) (mid now new : S) (begun buffer rest : List ℕ) → HeadSoFar saw mid now begun buffer
    → Ran saw (AwaitsHead buffer) now new (TriesHead (Err WouldWait) buffer rest) → HeadSoFar saw mid new begun rest
head_waits saw mid now new begun buffer rest so ran = head_goes_on saw mid now new begun buffer rest (Err WouldWait) so ran

pub head_comes : {S : Type 0} (saw : S → Event → S → Type 0) (mid now new : S) (parts : RequestParts) (begun buffer rest : List ℕ) → HeadSoFar saw mid now begun buffer
    → Ran saw (AwaitsHead buffer) now new (TriesHead (Ok parts) buffer rest) → Ran saw (AwaitsHead begun) mid new (ReadsHeadAs (Ok parts) begun rest)
head_comes saw mid now new parts begun buffer rest so ran =
    ran_as saw (AwaitsHead begun) mid new (ReadsHead (Ok parts) begun rest) (ReadsHeadAs (Ok parts) begun rest) (head_read parts begun rest)
    (head_goes_on saw mid now new begun buffer rest (Ok parts) so ran)

pub head_fails : {S : Type 0} (saw : S → Event → S → Type 0) (mid now new : S) (why : HeadFault) (is_last : Bool) (begun buffer rest : List ℕ) → HeadSoFar saw mid now begun buffer
    → Ran saw (AwaitsHead buffer) now new (TriesHead (Err (Failed why)) buffer rest) → Missed saw mid new (stop_of_head why) is_last begun rest
head_fails saw mid now new why is_last begun buffer rest so ran =
    request_missed saw mid new (stop_of_head why) begun rest (TakesNext is_last)
    (ran_as saw (AwaitsHead begun) mid new (ReadsHead (Err why) begun rest) (ReadsHeadAs (Err (stop_of_head why)) begun rest) (head_missed why begun rest)
    (head_goes_on saw mid now new begun buffer rest (Err (Failed why)) so ran))

-- no body of the head is read
pub length_refused : {S : Type 0} (saw : S → Event → S → Type 0) (mid now : S) (parts : RequestParts) (why : Stop) (is_last : Bool) (begun buffer : List ℕ)
    → Ran saw (AwaitsHead begun) mid now (ReadsHeadAs (Ok parts) begun buffer) → Announced parts (Err why) → Missed saw mid now why is_last begun buffer
length_refused saw mid now parts why is_last begun buffer head none =
    request_cut {A = Unit {0}} saw mid now now parts why begun buffer buffer (TakesNext is_last) head (body_refused {A = Unit {0}} saw now why parts buffer none)

-- ---- in an interim reply

sent_further : {S : Type 0} (saw : S → Event → S → Type 0) (read now new : S) (text : List ℕ) (at new_at : ℕ) (result : Result (Unit {0}) (Halt WriteFailed)) (so : Ran saw NoRead read now (SentUpTo text at))
    (ran : Ran saw NoRead now new (WritesFrom result text at new_at)) → all_put (ran.events ++ so.events) ≡ take new_at text
sent_further saw read now new text at new_at result so ran = put_joined ran.events so.events ∙ ap (λ u. u ++ all_put ran.events) so.claimed.1 ∙ ran.claimed.put

-- the writes before and these, together
both : {S : Type 0} (saw : S → Event → S → Type 0) (read now new : S) (text : List ℕ) (at new_at : ℕ) (result : Result (Unit {0}) (Halt WriteFailed)) (claim : List Event → Type 0) (so : Ran saw NoRead read now (SentUpTo text at))
    (ran : Ran saw NoRead now new (WritesFrom result text at new_at)) → claim (ran.events ++ so.events) → Ran saw NoRead read new claim
both saw read now new text at new_at result claim so ran claimed = record {
  events = ran.events ++ so.events;
  steps = steps_joined saw read now new ran.events so.events so.steps ran.steps;
  timely = timely_joined NoRead NoRead ran.events so.events (λ got put no. no) ran.timely so.claimed.0 so.timely;
  claimed = claimed;
}

-- a wait keeps what was written
text_waits : {S : Type 0} (saw : S → Event → S → Type 0) (read now new : S) (text : List ℕ) (at new_at : ℕ) → Ran saw NoRead read now (SentUpTo text at)
    → Ran saw NoRead now new (WritesFrom (Err WouldWait) text at new_at) → Ran saw NoRead read new (SentUpTo text new_at)
text_waits saw read now new text at new_at so ran =
    both saw read now new text at new_at (Err WouldWait) (SentUpTo text new_at) so ran
    (goes_on_joined ran.events so.events ran.claimed.ends.0 so.claimed.0, sent_further saw read now new text at new_at (Err WouldWait) so ran)

-- all of it is written
text_out : {S : Type 0} (saw : S → Event → S → Type 0) (read now new : S) (text : List ℕ) (at new_at : ℕ) (so : Ran saw NoRead read now (SentUpTo text at))
    (ran : Ran saw NoRead now new (WritesFrom (Ok tt) text at new_at)) → GoesOn (ran.events ++ so.events) × (all_put (ran.events ++ so.events) ≡ text)
text_out saw read now new text at new_at so ran = (
  goes_on_joined ran.events so.events ran.claimed.ends.0 so.claimed.0,
  sent_further saw read now new text at new_at (Ok tt) so ran ∙ take_all new_at text (omega (arith, ran.claimed.ends.1)),
)

-- a write failed, after a front of it
text_cut : {S : Type 0} (saw : S → Event → S → Type 0) (read now new : S) (text : List ℕ) (at new_at : ℕ) (failed : WriteFailed) (so : Ran saw NoRead read now (SentUpTo text at))
    (ran : Ran saw NoRead now new (WritesFrom (Err (Failed failed)) text at new_at))
    → Sends (IsLatest WriteFails (ran.events ++ so.events)) (Err fault.OutputFault) text (Some []) (Some (all_put (ran.events ++ so.events)))
text_cut saw read now new text at new_at failed so ran = (
  latest_joined WriteFails ran.events so.events ran.claimed.ends.0,
  (
    take new_at text,
    drop new_at text,
    omega (arith, length-drop new_at text, ran.claimed.ends.1),
    sym (take-append-drop new_at text),
    sent_further saw read now new text at new_at (Err (Failed failed)) so ran,
  ),
)

pub invite_begins : {S : Type 0} (saw : S → Event → S → Type 0) (mid now : S) (parts : RequestParts) (size : ℕ) (begun buffer : List ℕ)
    → Ran saw (AwaitsHead begun) mid now (ReadsHeadAs (Ok parts) begun buffer) → AnnouncesBody parts.fields (limit_of parts) size → ExpectsContinue parts
    → InviteSoFar saw mid now parts size 0 begun buffer
invite_begins saw mid now parts size begun buffer head announced expects = record {
  read = now;
  head = head;
  announced = announced;
  expects = expects;
  sent = ran_none saw NoRead now (SentUpTo continue_text 0) (tt, refl);
}

pub invite_waits : {S : Type 0} (saw : S → Event → S → Type 0) (mid now new : S) (parts : RequestParts) (size at new_at : ℕ) (begun buffer : List ℕ)
    → InviteSoFar saw mid now parts size at begun buffer → Ran saw NoRead now new (WritesFrom (Err WouldWait) continue_text at new_at)
    → InviteSoFar saw mid new parts size new_at begun buffer
invite_waits saw mid now new parts size at new_at begun buffer so ran = record {
  read = so.read;
  head = so.head;
  announced = so.announced;
  expects = so.expects;
  sent = text_waits saw so.read now new continue_text at new_at so.sent ran;
}

-- nothing came of the body yet
none_came : {S : Type 0} (saw : S → Event → S → Type 0) (now : S) (size : ℕ) (buffer : List ℕ) → Ran saw (AwaitsBody buffer size) now now (KeepsOn buffer ([] ++ buffer))
none_came saw now size buffer = ran_none saw (AwaitsBody buffer size) now (KeepsOn buffer buffer) (record { nothing_put = refl; goes_on = tt; grown = sym (append-nil buffer) })

pub invite_out : {S : Type 0} (saw : S → Event → S → Type 0) (mid now new : S) (parts : RequestParts) (size at new_at : ℕ) (begun buffer : List ℕ)
    → InviteSoFar saw mid now parts size at begun buffer → Ran saw NoRead now new (WritesFrom (Ok tt) continue_text at new_at) → BodySoFar saw mid new parts size begun [] buffer
invite_out saw mid now new parts size at new_at begun buffer so ran =
    let out = text_out saw so.read now new continue_text at new_at so.sent ran in
    record {
      read = so.read;
      invited = new;
      behind = buffer;
      head = so.head;
      announced = so.announced;
      invites = both saw so.read now new continue_text at new_at (Ok tt) (InvitesAs (Ok tt) parts) so.sent ran (out.0, inl (so.expects, out.1));
      came = none_came saw new size buffer;
    }

pub invite_fails : {S : Type 0} (saw : S → Event → S → Type 0) (mid now new : S) (parts : RequestParts) (size at new_at : ℕ) (failed : WriteFailed) (is_last : Bool) (begun buffer : List ℕ)
    → InviteSoFar saw mid now parts size at begun buffer → Ran saw NoRead now new (WritesFrom (Err (Failed failed)) continue_text at new_at)
    → Missed saw mid new stop.WriteFault is_last begun buffer
invite_fails saw mid now new parts size at new_at failed is_last begun buffer so ran =
    let cut = text_cut saw so.read now new continue_text at new_at failed so.sent ran in
    let front = cut.1 in
    let put : all_put (ran.events ++ so.sent.events) ≡ front.0 = front.4 in
    request_cut {A = Unit {0}} saw mid so.read new parts stop.WriteFault begun buffer buffer (TakesNext is_last) so.head
    (body_uninvited {A = Unit {0}} saw so.read new stop.WriteFault parts size buffer so.announced
    (both saw so.read now new continue_text at new_at (Err (Failed failed)) (InvitesAs (Err stop.WriteFault) parts) so.sent ran
    (cut.0, (front.1, front.2, inl (so.expects, ap (λ u. u ++ front.1) put ∙ sym front.3)))))

-- ---- in a body

pub body_begins : {S : Type 0} (saw : S → Event → S → Type 0) (mid now : S) (parts : RequestParts) (size : ℕ) (begun buffer : List ℕ)
    → Ran saw (AwaitsHead begun) mid now (ReadsHeadAs (Ok parts) begun buffer) → AnnouncesBody parts.fields (limit_of parts) size → ¬ (ExpectsContinue parts)
    → BodySoFar saw mid now parts size begun [] buffer
body_begins saw mid now parts size begun buffer head announced unasked = record {
  read = now;
  invited = now;
  behind = buffer;
  head = head;
  announced = announced;
  invites = ran_none saw NoRead now (InvitesAs (Ok tt) parts) (not_invited parts unasked);
  came = none_came saw now size buffer;
}

pub body_waits : {S A : Type 0} (saw : S → Event → S → Type 0) (mid now new : S) (parts : RequestParts) (size : ℕ) (body : Vec ℕ A) (begun part buffer rest : List ℕ)
    → BodySoFar saw mid now parts size begun part buffer
    → Ran saw (AwaitsBody (part ++ buffer) size) now new (TriesBody {A = A} (Err WouldWait) size (part ++ buffer) body rest) → BodySoFar saw mid new parts size begun body.items rest
body_waits {A = A} saw mid now new parts size body begun part buffer rest so ran = record {
  read = so.read;
  invited = so.invited;
  behind = so.behind;
  head = so.head;
  announced = so.announced;
  invites = so.invites;
  came = body_goes_on {A = A} saw so.invited now new size so.behind (part ++ buffer) rest body (Err WouldWait) so.came ran;
}

-- all of it came: with what is left in the buffer that is all that was there and came
kept_whole : {A : Type 0} (size : ℕ) (body : Vec ℕ A) (before rest : List ℕ) (events : List Event) → ReadsBody {A = A} (Ok body) size before rest events → KeepsOn before (body.items ++ rest) events
kept_whole size body before rest events reads =
    let got = all_got events in
    let whole : before ++ got ≡ body.items ++ (rest ++ []) =
    (reads.of_stream (Some got) (Some []) (record { taken = sym (append-nil got); end = λ latest. refl })).1 in
    record { nothing_put = reads.nothing_put; goes_on = reads.ends; grown = ap (λ u. body.items ++ u) (sym (append-nil rest)) ∙ sym whole }

-- it has as many bytes as its head announces
pub body_size : {S A : Type 0} (saw : S → Event → S → Type 0) (now new : S) (size : ℕ) (body : Vec ℕ A) (before rest : List ℕ)
    → Ran saw (AwaitsBody before size) now new (TriesBody {A = A} (Ok tt) size before body rest) → vec_len body ≡ size
body_size saw now new size body before rest ran = (ran.claimed.of_stream None None (record { taken = tt; end = λ latest. tt })).0

-- and is kept as it is
pub body_kept : {S A : Type 0} (saw : S → Event → S → Type 0) (mid now new : S) (parts : RequestParts) (size : ℕ) (body : Vec ℕ A) (begun part buffer rest : List ℕ)
    → BodySoFar saw mid now parts size begun part buffer
    → Ran saw (AwaitsBody (part ++ buffer) size) now new (TriesBody {A = A} (Ok tt) size (part ++ buffer) body rest) → BodySoFar saw mid new parts size begun body.items rest
body_kept {A = A} saw mid now new parts size body begun part buffer rest so ran =
    body_waits {A = A} saw mid now new parts size body begun part buffer rest so
    (ran_as saw (AwaitsBody (part ++ buffer) size) now new (ReadsBody {A = A} (Ok body) size (part ++ buffer) rest) (KeepsOn (part ++ buffer) (body.items ++ rest))
    (kept_whole {A = A} size body (part ++ buffer) rest) ran)

pub body_comes : {S A : Type 0} (saw : S → Event → S → Type 0) (mid now new : S) (parts : RequestParts) (size : ℕ) (body : Vec ℕ A) (request : Request) (is_last : Bool) (begun part buffer rest : List ℕ)
    → BodySoFar saw mid now parts size begun part buffer → vec_len body ≡ length body.items
    → request.head ≡ parts → request.body.items ≡ body.items → request.is_last ≡ is_last
    → Ran saw (AwaitsBody (part ++ buffer) size) now new (TriesBody {A = A} (Ok tt) size (part ++ buffer) body rest)
    → Ran saw (AwaitsRequest begun) mid new (ReadsAs {A = Request} (Ok request) (TakesNext is_last) Stops begun rest)
body_comes {A = A} saw mid now new parts size body request is_last begun part buffer rest so same head items last ran =
    let whole = body_goes_on {A = A} saw so.invited now new size so.behind (part ++ buffer) rest body (Ok tt) so.came ran in
    let taken = ran_as saw (AwaitsBody so.behind size) so.invited new (ReadsBody {A = A} (Ok body) size so.behind rest) (TakesBodyAs {A = A} (Ok body) parts size so.behind rest)
    (body_taken {A = A} parts size body so.behind rest same) whole in
    request_read {A = A} saw mid so.read new parts body request is_last begun so.behind rest head items last so.head
    (body_after {A = A} saw so.read so.invited new (Ok body) parts size so.behind rest so.announced so.invites taken)

pub body_fails : {S A : Type 0} (saw : S → Event → S → Type 0) (mid now new : S) (parts : RequestParts) (size : ℕ) (body : Vec ℕ A) (why : BodyFault) (head_only is_last : Bool) (begun part buffer rest : List ℕ)
    → BodySoFar saw mid now parts size begun part buffer → head_only ≡ bytes_eq parts.method (codes "HEAD")
    → Ran saw (AwaitsBody (part ++ buffer) size) now new (TriesBody {A = A} (Err (Failed why)) size (part ++ buffer) body rest)
    → Missed saw mid new (stop_of_body head_only why) is_last begun rest
body_fails {A = A} saw mid now new parts size body why head_only is_last begun part buffer rest so named ran =
    let whole = body_goes_on {A = A} saw so.invited now new size so.behind (part ++ buffer) rest body (Err (Failed why)) so.came ran in
    let missed = ran_as saw (AwaitsBody so.behind size) so.invited new (ReadsBody {A = A} (Err why) size so.behind rest)
    (TakesBodyAs {A = A} (Err (stop_of_body head_only why)) parts size so.behind rest) (body_missed {A = A} why head_only parts size so.behind rest named) whole in
    request_cut {A = A} saw mid so.read new parts (stop_of_body head_only why) begun so.behind rest (TakesNext is_last) so.head
    (body_after {A = A} saw so.read so.invited new (Err (stop_of_body head_only why)) parts size so.behind rest so.announced so.invites missed)

-- ---- in a reply

pub reply_begins : {S H : Type 0} (answers : Answering H) (saw : S → Event → S → Type 0) (mid now : S) (host next : H) (is_last : Bool) (request : Request) (text : List ℕ) (begun buffer : List ℕ)
    → Ran saw (AwaitsRequest begun) mid now (ReadsAs {A = Request} (Ok request) (TakesNext is_last) Stops begun buffer)
    → IsSent answers (closes request.head request.is_last) host request.head request.body.items text next
    → ReplySoFar answers saw mid now host next is_last request text 0 begun buffer
reply_begins answers saw mid now host next is_last request text begun buffer taken is_sent = record {
  read = now;
  taken = taken;
  is_sent = is_sent;
  sent = ran_none saw NoRead now (SentUpTo text 0) (tt, refl);
}

pub reply_waits : {S H : Type 0} (answers : Answering H) (saw : S → Event → S → Type 0) (mid now new : S) (host next : H) (is_last : Bool) (request : Request) (text : List ℕ) (at new_at : ℕ) (begun buffer : List ℕ)
    → ReplySoFar answers saw mid now host next is_last request text at begun buffer → Ran saw NoRead now new (WritesFrom (Err WouldWait) text at new_at)
    → ReplySoFar answers saw mid new host next is_last request text new_at begun buffer
reply_waits answers saw mid now new host next is_last request text at new_at begun buffer so ran = record {
  read = so.read;
  taken = so.taken;
  is_sent = so.is_sent;
  sent = text_waits saw so.read now new text at new_at so.sent ran;
}

-- the reply is out: the turn is over
pub reply_out : {S H : Type 0} (answers : Answering H) (saw : S → Event → S → Type 0) (mid now new : S) (host next : H) (is_last : Bool) (turn : Next) (request : Request) (text : List ℕ) (at new_at : ℕ) (begun buffer : List ℕ)
    → ReplySoFar answers saw mid now host next is_last request text at begun buffer → Ran saw NoRead now new (WritesFrom (Ok tt) text at new_at)
    → closes request.head request.is_last ≡ is_end turn
    → Ran saw (AwaitsRequest begun) mid new (TurnsAs answers (Ok turn) is_last host next begun buffer)
reply_out answers saw mid now new host next is_last turn request text at new_at begun buffer so ran closing =
    let events = ran.events ++ so.sent.events in
    let out = text_out saw so.read now new text at new_at so.sent ran in
    let close = closes request.head request.is_last in
    turn_answered answers saw mid so.read new (Ok turn) is_last request host next begun buffer so.taken
    (both saw so.read now new text at new_at (Ok tt) (ExchangesAs answers (Ok turn) close host request.head request.body.items next) so.sent ran (record {
      exchanges = exchange_sent answers (IsLatest WriteFails events) turn close host next request.head request.body.items text (Some []) (Some (all_put events)) closing so.is_sent out.1;
      goes_on = out.0;
    }))

pub reply_fails : {S H : Type 0} (answers : Answering H) (saw : S → Event → S → Type 0) (mid now new : S) (host next : H) (is_last : Bool) (failed : WriteFailed) (request : Request) (text : List ℕ) (at new_at : ℕ) (begun buffer : List ℕ)
    → ReplySoFar answers saw mid now host next is_last request text at begun buffer → Ran saw NoRead now new (WritesFrom (Err (Failed failed)) text at new_at)
    → Ran saw (AwaitsRequest begun) mid new (TurnsAs answers (Err fault.OutputFault) is_last host next begun buffer)
reply_fails answers saw mid now new host next is_last failed request text at new_at begun buffer so ran =
    let events = ran.events ++ so.sent.events in
    let close = closes request.head request.is_last in
    turn_answered answers saw mid so.read new (Err fault.OutputFault) is_last request host next begun buffer so.taken
    (both saw so.read now new text at new_at (Err (Failed failed)) (ExchangesAs answers (Err fault.OutputFault) close host request.head request.body.items next) so.sent ran (record {
      exchanges = exchange_cut answers (IsLatest WriteFails events) fault.OutputFault close host next request.head request.body.items text (Some []) (Some (all_put events)) so.is_sent
          (text_cut saw so.read now new text at new_at failed so.sent ran);
      goes_on = tt;
    }))

-- ---- in a refusal

pub refusal_begins : {S : Type 0} (saw : S → Event → S → Type 0) (mid now : S) (is_last : Bool) (why : Stop) (begun buffer : List ℕ) → Missed saw mid now why is_last begun buffer
    → IsTold why → RefusalSoFar saw mid now is_last why 0 begun buffer
refusal_begins saw mid now is_last why begun buffer missed told = record {
  read = now;
  missed = missed;
  told = told;
  sent = ran_none saw NoRead now (SentUpTo (refusal_text why) 0) (tt, refl);
}

pub refusal_waits : {S : Type 0} (saw : S → Event → S → Type 0) (mid now new : S) (is_last : Bool) (why : Stop) (at new_at : ℕ) (begun buffer : List ℕ)
    → RefusalSoFar saw mid now is_last why at begun buffer → Ran saw NoRead now new (WritesFrom (Err WouldWait) (refusal_text why) at new_at)
    → RefusalSoFar saw mid new is_last why new_at begun buffer
refusal_waits saw mid now new is_last why at new_at begun buffer so ran = record {
  read = so.read;
  missed = so.missed;
  told = so.told;
  sent = text_waits saw so.read now new (refusal_text why) at new_at so.sent ran;
}

-- what is sent is the text of the refusal
refuses_by : (result : Result (Unit {0}) ConnectionFault) (write_fails : Type 0) (why : Stop) (put : List ℕ) → IsTold why
    → Sends write_fails result (refusal_text why) (Some []) (Some put) → Refuses write_fails result why (Some []) (Some put)
refuses_by result write_fails stop.Ended put told sends = absurd told
refuses_by result write_fails stop.ReadFault put told sends = absurd told
refuses_by result write_fails stop.WriteFault put told sends = absurd told
refuses_by result write_fails (stop.Refused why head_only) put told sends = sends
refuses_by result write_fails (stop.OutOfMemory head_only) put told sends = sends

silent_not : (why : Stop) (events : List Event) → IsTold why → IsSilent why events
silent_not stop.Ended events told = absurd told
silent_not stop.ReadFault events told = absurd told
silent_not stop.WriteFault events told = absurd told
silent_not (stop.Refused why head_only) events told = tt
silent_not (stop.OutOfMemory head_only) events told = tt

pub refusal_out : {S H : Type 0} (answers : Answering H) (saw : S → Event → S → Type 0) (mid now new : S) (host : H) (is_last : Bool) (why : Stop) (at new_at : ℕ) (begun buffer : List ℕ)
    → RefusalSoFar saw mid now is_last why at begun buffer → Ran saw NoRead now new (WritesFrom (Ok tt) (refusal_text why) at new_at)
    → Ran saw (AwaitsRequest begun) mid new (TurnsAs answers (Ok End) is_last host host begun buffer)
refusal_out answers saw mid now new host is_last why at new_at begun buffer so ran =
    let text = refusal_text why in
    let events = ran.events ++ so.sent.events in
    let out = text_out saw so.read now new text at new_at so.sent ran in
    turn_refused answers saw mid so.read new why (Ok tt) is_last host begun buffer (TakesNext is_last) so.missed
    (both saw so.read now new text at new_at (Ok tt) (RefusesAs (Ok tt) why) so.sent ran
    (record { refuses = refuses_by (Ok tt) (IsLatest WriteFails events) why (all_put events) so.told out.1; silent = silent_not why events so.told }))

pub refusal_fails : {S H : Type 0} (answers : Answering H) (saw : S → Event → S → Type 0) (mid now new : S) (host : H) (is_last : Bool) (why : Stop) (failed : WriteFailed) (at new_at : ℕ) (begun buffer : List ℕ)
    → RefusalSoFar saw mid now is_last why at begun buffer → Ran saw NoRead now new (WritesFrom (Err (Failed failed)) (refusal_text why) at new_at)
    → Ran saw (AwaitsRequest begun) mid new (TurnsAs answers (Err fault.OutputFault) is_last host host begun buffer)
refusal_fails answers saw mid now new host is_last why failed at new_at begun buffer so ran =
    let text = refusal_text why in
    let events = ran.events ++ so.sent.events in
    turn_refused answers saw mid so.read new why (Err fault.OutputFault) is_last host begun buffer (TakesNext is_last) so.missed
    (both saw so.read now new text at new_at (Err (Failed failed)) (RefusesAs (Err fault.OutputFault) why) so.sent ran
    (record { refuses = refuses_by (Err fault.OutputFault) (IsLatest WriteFails events) why (all_put events) so.told (text_cut saw so.read now new text at new_at failed so.sent ran); silent = silent_not why events so.told }))

-- where nothing is sent for it, the turn is over at once
pub missed_silently : {S H : Type 0} (answers : Answering H) (saw : S → Event → S → Type 0) (mid now : S) (host : H) (is_last : Bool) (why : Stop) (result : Result (Unit {0}) ConnectionFault) (begun buffer : List ℕ)
    → Missed saw mid now why is_last begun buffer → RefusesAs result why []
    → Ran saw (AwaitsRequest begun) mid now (TurnsAs answers (next_of result) is_last host host begun buffer)
missed_silently answers saw mid now host is_last why result begun buffer missed refuses =
    turn_refused answers saw mid now now why result is_last host begun buffer (TakesNext is_last) missed (ran_none saw NoRead now (RefusesAs result why) refuses)
