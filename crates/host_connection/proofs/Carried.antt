-- A connection, phase by phase.
use Rattle.std.proofs.Common.{◌≡◌, ◌⊎◌, inl, inr, ℕ, ◌+◌, ◌-◌, ◌^◌, ◌<◌, ◌≤◌, List, [], ◌++◌, length, Bool, true, false, None, Result, Ok, Err, refl, sym, ap, subst, ◌∙◌, arith, codes}
use Rattle.std.specs.Prelude.{vec_len}
use Rattle.std.proofs.Math.Nat.{min-le_left}
use Rattle.std.proofs.lemmas.List.{length-append}
use Rattle.std.specs.Str.{bytes_eq}
use Rattle.std.specs.declared.vec.Vec.{Vec}
use Rattle.http_wire.specs.declared.faults.BodyFault.{BodyFault}
use Rattle.http_wire.specs.declared.faults.HeadFault.{HeadFault}
use Rattle.http_wire.specs.declared.halts.Halt.{Halt}
use Rattle.http_wire.specs.declared.halts.Halt.TheVariants.{Failed, WouldWait}
use Rattle.http_wire.specs.declared.sinks.WriteFailed.{WriteFailed}
use Rattle.http_wire.specs.Expectations.{continue_text}
use Rattle.http_wire.specs.Fields.{AnnouncesBody}
use Rattle.http_wire.specs.Gathering.{Gathered, nothing, GoesOnFrom, IsAmid, IsCounted, SendsOn}
use Rattle.http_wire.specs.Halting.{TriesBody, TriesHead, WritesFrom}
use Rattle.http_wire.specs.Requests.{RequestParts}
use Rattle.http_wire.specs.Timing.{Event, NoRead, Ran}
use Rattle.http_wire.specs.Wires.{AwaitsBody, AwaitsHead}
use Rattle.http_wire.proofs.Amid.{amid_first}
use Rattle.host_replies.specs.Replies.{closes}
use Rattle.host_connection.specs.declared.connections.ConnectionFault.{ConnectionFault}
use Rattle.host_connection.specs.declared.connections.ConnectionFault.TheVariants as fault
use Rattle.host_connection.specs.declared.phases.BodyPart.{BodyPart}
use Rattle.host_connection.specs.declared.phases.Phase.{Phase}
use Rattle.host_connection.specs.declared.phases.Phase.TheVariants as phase
use Rattle.host_connection.specs.declared.phases.Sending.{Sending}
use Rattle.host_connection.specs.declared.wordings.Wording.{Wording}
use Rattle.host_connection.specs.declared.wordings.Wording.TheVariants as wording
use Rattle.host_connection.specs.Wordings.{size_kept, worded}
use Rattle.host_connection.specs.declared.requests.Request.{Request}
use Rattle.host_connection.specs.declared.steps.Connection.{Connection}
use Rattle.host_connection.specs.declared.stops.Stop.{Stop}
use Rattle.host_connection.specs.declared.stops.Stop.TheVariants as stop
use Rattle.host_connection.specs.Carrying.{text_of, Carried, Carries, ConnectionSoFar, FollowsHead, FollowsReply, FollowsStop, InTurn, IsAnswering, IsFresh, ReadsNext, Refusing, Replying, Tells}
use Rattle.host_connection.specs.Phases.{InviteSoFar, BodySoFar, RefusalSoFar}
use Rattle.host_connection.specs.Resting.{IsResting}
use Rattle.host_connection.specs.Serving.{Answering, IsSent, is_last_at, limit_of}
use Rattle.host_connection.specs.Stopping.{stop_of_body, stop_of_head}
use Rattle.host_connection.specs.Timing.{AwaitsRequest, Connects, IsCaughtUp, ReadsHeadAs}
use Rattle.host_connection.proofs.InPhases.{Missed, head_begins, head_waits, head_comes, head_fails, length_refused, invite_begins, invite_waits, invite_out, invite_fails, body_begins, body_waits, body_size, body_kept, body_comes, body_fails, reply_begins, reply_waits, reply_out, reply_fails, refusal_begins, refusal_waits, refusal_out, refusal_fails, missed_silently}
use Rattle.host_connection.proofs.Turns.{is_end}
use Rattle.host_connection.proofs.TimedConnections.{none_yet, turn_more, turn_last, turn_failed}
use Rattle.host_connection.proofs.TurnParts.{Next, Exchange, End, RefusesAs, TurnsAs}

-- a phase that is equal to another
at_phase : {S H : Type 0} (answers : Answering H) (saw : S → Event → S → Type 0) (waits : Type 0) (start now : S) (first host : H) (buffer : List ℕ) (out : Gathered) (n : ℕ) (p q : Phase) → q ≡ p
    → Carried answers saw waits start first now host buffer out n p → Carried answers saw waits start first now host buffer out n q
at_phase answers saw waits start now first host buffer out n p q is carried = subst (λ r. Carried answers saw waits start first now host buffer out n r) (sym is) carried

counted : (out : Gathered) → out ≡ nothing → IsCounted out
counted out fresh = subst IsCounted (sym fresh) (omega arith)

pub at_connection : {S H : Type 0} (answers : Answering H) (saw : S → Event → S → Type 0) (waits : Type 0) (start now : S) (first host : H) (k c : Connection) → k ≡ c
    → Carries answers saw waits start first now host c → Carries answers saw waits start first now host k
at_connection answers saw waits start now first host k c is carries = subst (λ (x : Connection). Carries answers saw waits start first now host x) (sym is) carries

pub at_fields : {S H : Type 0} (answers : Answering H) (saw : S → Event → S → Type 0) (waits : Type 0) (start now : S) (first host : H) (c : Connection) (buffer : List ℕ) (n : ℕ) → c.wire ≡ buffer → c.number ≡ n
    → Carried answers saw waits start first now host buffer c.out n c.phase → Carries answers saw waits start first now host c
at_fields answers saw waits start now first host c buffer n wire number carried =
    subst (λ m. Carried answers saw waits start first now host c.wire c.out m c.phase) (sym number)
    (subst (λ b. Carried answers saw waits start first now host b c.out n c.phase) (sym wire) carried)

-- some of a reply is to be written
some_of : (close head_only : Bool) (w : Wording) → 0 < size_kept w → 0 < length (worded close head_only w)
some_of close head_only (wording.Made reply) some = omega (arith, length-append {A = ℕ})
some_of close head_only (wording.Kept text) some = some

pub reply_some : (s : Sending) → 0 < length (text_of s)
reply_some s = some_of s.close s.head_only s.wording s.some

some_first : (s : Sending) (out : Gathered) → out ≡ nothing → out.sent < length (text_of s)
some_first s out fresh = subst (λ (o : Gathered). o.sent < length (text_of s)) (sym fresh) (reply_some s)

-- ---- the beginning

pub new_connection : {S H : Type 0} (answers : Answering H) (saw : S → Event → S → Type 0) (waits : Type 0) (start : S) (host : H) (c : Connection) → IsFresh c → Carries answers saw waits start host start host c
new_connection answers saw waits start host c fresh =
    let so = none_yet answers saw start host c.wire fresh.0 in
    let P : ℕ → Type 0 = λ n. Carried answers saw waits start host start host c.wire c.out n phase.Head in
    at_phase answers saw waits start start host host c.wire c.out c.number phase.Head c.phase fresh.2
    (subst P (sym fresh.1) (record { began = start; before = host; begun = c.wire; so = so; turn = (head_begins saw start c.wire, refl) }))

-- connections that rest before one request have done the same
pub at_rest : {S H : Type 0} (answers : Answering H) (saw : S → Event → S → Type 0) (waits : Type 0) (start now : S) (first host : H) (n : ℕ) (c d : Connection) → IsResting n c → IsResting n d
    → Carries answers saw waits start first now host c → Carries answers saw waits start first now host d
at_rest answers saw waits start now first host n c d rests other carries =
    let headed : Carried answers saw waits start first now host c.wire d.out c.number phase.Head
    = at_phase answers saw waits start now first host c.wire c.out c.number c.phase phase.Head (sym rests.2) carries in
    at_fields answers saw waits start now first host d c.wire c.number (other.0 ∙ sym rests.0) (other.1 ∙ sym rests.1)
    (at_phase answers saw waits start now first host c.wire d.out c.number phase.Head d.phase other.2 headed)

-- ---- where no request is read

-- nothing is sent
silently : {S H : Type 0} (answers : Answering H) (saw : S → Event → S → Type 0) (start began now : S) (first : H) (n : ℕ) (host : H) (begun buffer : List ℕ) (why : Stop) (e : ConnectionFault)
    → ConnectionSoFar answers saw start began first n host begun → Missed saw began now why (is_last_at n) begun buffer → RefusesAs (Err e) why []
    → Ran saw (IsCaughtUp answers first) start now (Connects answers (Err e) first host)
silently answers saw start began now first n host begun buffer why e so missed refuses =
    turn_failed answers saw start began now e first n host host begun buffer so (missed_silently answers saw began now host (is_last_at n) why (Err e) begun buffer missed refuses)

-- something is sent
told : {S H : Type 0} (answers : Answering H) (saw : S → Event → S → Type 0) (waits : Type 0) (start began now : S) (first : H) (n : ℕ) (before host : H) (begun buffer : List ℕ) (out : Gathered) (why : Stop) (p : Phase)
    → ConnectionSoFar answers saw start began first n before begun → RefusalSoFar saw began now (is_last_at n) why 0 begun buffer → Tells why p → out ≡ nothing → host ≡ before
    → Carried answers saw waits start first now host buffer out n p
told answers saw waits start began now first n before host begun buffer out why phase.Head so refusal tells fresh same = absurd tells
told answers saw waits start began now first n before host begun buffer out why (phase.Invite i) so refusal tells fresh same = absurd tells
told answers saw waits start began now first n before host begun buffer out why (phase.Body b) so refusal tells fresh same = absurd tells
told answers saw waits start began now first n before host begun buffer out why (phase.Reply s) so refusal tells fresh same = (
  record {
    began = began;
    before = before;
    begun = begun;
    so = so;
    turn = inr (record { why = why; at = 0; so = refusal; text_is = tells.0; closing = tells.1; amid = amid_first (text_of s) out fresh; same = same });
  },
  inl (counted out fresh),
  some_first s out fresh,
)
told answers saw waits start began now first n before host begun buffer out why (phase.Ended result) so refusal tells fresh same = absurd tells

-- what is told follows
pub follows_told : (why reason : Stop) (p : Phase) → why ≡ reason → FollowsStop reason p → FollowsStop why p
follows_told why reason p is follows = subst (λ (w : Stop). FollowsStop w p) (sym is) follows

pub stopped : {S H : Type 0} (answers : Answering H) (saw : S → Event → S → Type 0) (waits : Type 0) (start began now : S) (first : H) (n : ℕ) (before host : H) (begun buffer : List ℕ) (out : Gathered) (why : Stop) (p : Phase)
    → ConnectionSoFar answers saw start began first n before begun → Missed saw began now why (is_last_at n) begun buffer → FollowsStop why p → out ≡ nothing → host ≡ before
    → Carried answers saw waits start first now host buffer out n p
stopped answers saw waits start began now first n before host begun buffer out stop.Ended p so missed follows fresh same =
    let missing = missed_silently answers saw began now before (is_last_at n) stop.Ended (Ok tt) begun buffer missed (record { refuses = (refl, refl); silent = refl }) in
    let whole = turn_last answers saw start began now first n before before begun buffer so missing in
    at_phase answers saw waits start now first host buffer out n (phase.Ended (Ok tt)) p follows (subst (λ h. Ran saw (IsCaughtUp answers first) start now (Connects answers (Ok tt) first h)) (sym same) whole)
stopped answers saw waits start began now first n before host begun buffer out stop.ReadFault p so missed follows fresh same =
    let whole = silently answers saw start began now first n before begun buffer stop.ReadFault fault.InputFault so missed (record { refuses = (refl, refl); silent = refl }) in
    at_phase answers saw waits start now first host buffer out n (phase.Ended (Err fault.InputFault)) p follows
    (subst (λ h. Ran saw (IsCaughtUp answers first) start now (Connects answers (Err fault.InputFault) first h)) (sym same) whole)
stopped answers saw waits start began now first n before host begun buffer out stop.WriteFault p so missed follows fresh same =
    let whole = silently answers saw start began now first n before begun buffer stop.WriteFault fault.OutputFault so missed (record { refuses = (refl, refl); silent = refl }) in
    at_phase answers saw waits start now first host buffer out n (phase.Ended (Err fault.OutputFault)) p follows
    (subst (λ h. Ran saw (IsCaughtUp answers first) start now (Connects answers (Err fault.OutputFault) first h)) (sym same) whole)
stopped answers saw waits start began now first n before host begun buffer out (stop.Refused why head_only) p so missed follows fresh same =
    told answers saw waits start began now first n before host begun buffer out (stop.Refused why head_only) p so
    (refusal_begins saw began now (is_last_at n) (stop.Refused why head_only) begun buffer missed tt) follows fresh same
stopped answers saw waits start began now first n before host begun buffer out (stop.OutOfMemory head_only) p so missed follows fresh same =
    told answers saw waits start began now first n before host begun buffer out (stop.OutOfMemory head_only) p so
    (refusal_begins saw began now (is_last_at n) (stop.OutOfMemory head_only) begun buffer missed tt) follows fresh same

-- ---- in a head

pub waits_in_head : {S H : Type 0} (answers : Answering H) (saw : S → Event → S → Type 0) (waits : Type 0) (start now new : S) (first host : H) (n : ℕ) (buffer rest : List ℕ) (out new_out : Gathered)
    → Carried answers saw waits start first now host buffer out n phase.Head → Ran saw (AwaitsHead buffer) now new (TriesHead (Err WouldWait) buffer rest)
    → Carried answers saw waits start first new host rest new_out n phase.Head
waits_in_head answers saw waits start now new first host n buffer rest out new_out c ran = record {
  began = c.began;
  before = c.before;
  begun = c.begun;
  so = c.so;
  turn = (head_waits saw c.began now new c.begun buffer rest c.turn.0 ran, c.turn.1);
}

pub no_head : {S H : Type 0} (answers : Answering H) (saw : S → Event → S → Type 0) (waits : Type 0) (start now new : S) (first host : H) (n : ℕ) (buffer rest : List ℕ) (out new_out : Gathered) (why : HeadFault) (p : Phase)
    → Carried answers saw waits start first now host buffer out n phase.Head → Ran saw (AwaitsHead buffer) now new (TriesHead (Err (Failed why)) buffer rest)
    → FollowsStop (stop_of_head why) p → new_out ≡ nothing → Carried answers saw waits start first new host rest new_out n p
no_head answers saw waits start now new first host n buffer rest out new_out why p c ran follows fresh =
    stopped answers saw waits start c.began new first n c.before host c.begun rest new_out (stop_of_head why) p c.so
    (head_fails saw c.began now new why (is_last_at n) c.begun buffer rest c.turn.0 ran) follows fresh c.turn.1

-- a body is read next
reads_next : {S H : Type 0} (answers : Answering H) (saw : S → Event → S → Type 0) (waits : Type 0) (start began now : S) (first : H) (n : ℕ) (before host : H) (begun buffer : List ℕ) (out : Gathered) (parts : RequestParts) (size : ℕ) (p : Phase)
    → ConnectionSoFar answers saw start began first n before begun → Ran saw (AwaitsHead begun) began now (ReadsHeadAs (Ok parts) begun buffer)
    → AnnouncesBody parts.fields (limit_of parts) size → ReadsNext parts size p → host ≡ before → Carried answers saw waits start first now host buffer out n p
reads_next answers saw waits start began now first n before host begun buffer out parts size phase.Head so read announced next same = absurd next
reads_next {S} answers saw waits start began now first n before host begun buffer out parts size (phase.Invite i) so read announced next same =
    let P : RequestParts → Type 0 = λ h. InviteSoFar saw began now h i.size i.at begun buffer in
    let Q : ℕ → Type 0 = λ s. InviteSoFar saw began now parts s i.at begun buffer in
    let R : ℕ → Type 0 = λ a. InviteSoFar saw began now parts size a begun buffer in
    let at = subst R (sym next.2) (invite_begins saw began now parts size begun buffer read announced next.3) in
    record { began = began; before = before; begun = begun; so = so; turn = (subst P (sym next.0) (subst Q (sym next.1) at), same) }
reads_next {S} answers saw waits start began now first n before host begun buffer out parts size (phase.Body b) so read announced next same =
    let P : RequestParts → Type 0 = λ h. BodySoFar saw began now h b.size begun b.body.items buffer in
    let Q : ℕ → Type 0 = λ s. BodySoFar saw began now parts s begun b.body.items buffer in
    let R : List ℕ → Type 0 = λ a. BodySoFar saw began now parts size begun a buffer in
    let at = subst R (sym next.2) (body_begins saw began now parts size begun buffer read announced next.3) in
    record { began = began; before = before; begun = begun; so = so; turn = (subst P (sym next.0) (subst Q (sym next.1) at), same) }
reads_next answers saw waits start began now first n before host begun buffer out parts size (phase.Reply s) so read announced next same = absurd next
reads_next answers saw waits start began now first n before host begun buffer out parts size (phase.Ended result) so read announced next same = absurd next

pub head_came : {S H : Type 0} (answers : Answering H) (saw : S → Event → S → Type 0) (waits : Type 0) (start now new : S) (first host : H) (n : ℕ) (buffer rest : List ℕ) (out new_out : Gathered) (parts : RequestParts) (p : Phase)
    → Carried answers saw waits start first now host buffer out n phase.Head → Ran saw (AwaitsHead buffer) now new (TriesHead (Ok parts) buffer rest)
    → FollowsHead parts p → new_out ≡ nothing → Carried answers saw waits start first new host rest new_out n p
head_came answers saw waits start now new first host n buffer rest out new_out parts p c ran (inl next) fresh =
    reads_next answers saw waits start c.began new first n c.before host c.begun rest new_out parts next.0 p c.so (head_comes saw c.began now new parts c.begun buffer rest c.turn.0 ran) next.1 next.2 c.turn.1
head_came answers saw waits start now new first host n buffer rest out new_out parts p c ran (inr none) fresh =
    stopped answers saw waits start c.began new first n c.before host c.begun rest new_out none.0 p c.so
    (length_refused saw c.began new parts none.0 (is_last_at n) c.begun rest (head_comes saw c.began now new parts c.begun buffer rest c.turn.0 ran) none.1) none.2 fresh c.turn.1

-- ---- in an interim reply

-- in an interim reply, and in a body, by the fields of the phase
abbrev pub AtInvitation : {S H : Type 0} → Answering H → (saw : S → Event → S → Type 0) → (start : S) → (first : H) → (now : S) → (host : H) → (buffer : List ℕ) → (n : ℕ) → (parts : RequestParts) → (size at : ℕ) → Type 0
AtInvitation answers saw start first now host buffer n parts size at =
    InTurn answers saw start first n (λ began before begun. InviteSoFar saw began now parts size at begun buffer × (host ≡ before))

abbrev pub AtBody : {S H : Type 0} → Answering H → (saw : S → Event → S → Type 0) → (start : S) → (first : H) → (now : S) → (host : H) → (buffer : List ℕ) → (n : ℕ) → (parts : RequestParts) → (size : ℕ) → (part : List ℕ) → Type 0
AtBody answers saw start first now host buffer n parts size part =
    InTurn answers saw start first n (λ began before begun. BodySoFar saw began now parts size begun part buffer × (host ≡ before))

pub waits_in_invitation : {S H : Type 0} (answers : Answering H) (saw : S → Event → S → Type 0) (start now new : S) (first host : H) (n : ℕ) (buffer : List ℕ) (parts : RequestParts) (size at new_at : ℕ)
    → AtInvitation answers saw start first now host buffer n parts size at → Ran saw NoRead now new (WritesFrom (Err WouldWait) continue_text at new_at)
    → AtInvitation answers saw start first new host buffer n parts size new_at
waits_in_invitation answers saw start now new first host n buffer parts size at new_at c ran = record {
  began = c.began;
  before = c.before;
  begun = c.begun;
  so = c.so;
  turn = (invite_waits saw c.began now new parts size at new_at c.begun buffer c.turn.0 ran, c.turn.1);
}

pub invited : {S H : Type 0} (answers : Answering H) (saw : S → Event → S → Type 0) (start now new : S) (first host : H) (n : ℕ) (buffer : List ℕ) (parts : RequestParts) (size at new_at : ℕ) (part : List ℕ)
    → AtInvitation answers saw start first now host buffer n parts size at → Ran saw NoRead now new (WritesFrom (Ok tt) continue_text at new_at) → part ≡ []
    → AtBody answers saw start first new host buffer n parts size part
invited answers saw start now new first host n buffer parts size at new_at part c ran none = record {
  began = c.began;
  before = c.before;
  begun = c.begun;
  so = c.so;
  turn = (
    subst (λ p. BodySoFar saw c.began new parts size c.begun p buffer) (sym none) (invite_out saw c.began now new parts size at new_at c.begun buffer c.turn.0 ran),
    c.turn.1,
  );
}

pub not_invited : {S H : Type 0} (answers : Answering H) (saw : S → Event → S → Type 0) (waits : Type 0) (start now new : S) (first host : H) (n : ℕ) (buffer : List ℕ) (new_out : Gathered) (parts : RequestParts) (size at new_at : ℕ)
    (failed : WriteFailed) (p : Phase) → AtInvitation answers saw start first now host buffer n parts size at → Ran saw NoRead now new (WritesFrom (Err (Failed failed)) continue_text at new_at)
    → FollowsStop stop.WriteFault p → new_out ≡ nothing → Carried answers saw waits start first new host buffer new_out n p
not_invited answers saw waits start now new first host n buffer new_out parts size at new_at failed p c ran follows fresh =
    stopped answers saw waits start c.began new first n c.before host c.begun buffer new_out stop.WriteFault p c.so
    (invite_fails saw c.began now new parts size at new_at failed (is_last_at n) c.begun buffer c.turn.0 ran) follows fresh c.turn.1

-- ---- in a body

pub waits_in_body : {S H A : Type 0} (answers : Answering H) (saw : S → Event → S → Type 0) (start now new : S) (first host : H) (n : ℕ) (buffer rest : List ℕ) (parts : RequestParts) (size : ℕ) (part : List ℕ) (body : Vec ℕ A)
    → AtBody answers saw start first now host buffer n parts size part
    → Ran saw (AwaitsBody (part ++ buffer) size) now new (TriesBody {A = A} (Err WouldWait) size (part ++ buffer) body rest)
    → AtBody answers saw start first new host rest n parts size body.items
waits_in_body {A = A} answers saw start now new first host n buffer rest parts size part body c ran = record {
  began = c.began;
  before = c.before;
  begun = c.begun;
  so = c.so;
  turn = (body_waits {A = A} saw c.began now new parts size body c.begun part buffer rest c.turn.0 ran, c.turn.1);
}

pub no_body : {S H A : Type 0} (answers : Answering H) (saw : S → Event → S → Type 0) (waits : Type 0) (start now new : S) (first host : H) (n : ℕ) (buffer rest : List ℕ) (out new_out : Gathered) (b : BodyPart) (body : Vec ℕ A) (why : BodyFault)
    (head_only : Bool) (p : Phase) → Carried answers saw waits start first now host buffer out n (phase.Body b) → head_only ≡ bytes_eq b.head.method (codes "HEAD")
    → Ran saw (AwaitsBody (b.body.items ++ buffer) b.size) now new (TriesBody {A = A} (Err (Failed why)) b.size (b.body.items ++ buffer) body rest)
    → FollowsStop (stop_of_body head_only why) p → new_out ≡ nothing → Carried answers saw waits start first new host rest new_out n p
no_body {A = A} answers saw waits start now new first host n buffer rest out new_out b body why head_only p c named ran follows fresh =
    stopped answers saw waits start c.began new first n c.before host c.begun rest new_out (stop_of_body head_only why) p c.so
    (body_fails {A = A} saw c.began now new b.head b.size body why head_only (is_last_at n) c.begun b.body.items buffer rest c.turn.0 named ran) follows fresh c.turn.1

pub answered : {S H A : Type 0} (answers : Answering H) (saw : S → Event → S → Type 0) (waits : Type 0) (start now new : S) (first host next : H) (n : ℕ) (buffer rest : List ℕ) (out new_out : Gathered) (b : BodyPart) (body : Vec ℕ A)
    (request : Request) (p : Phase) → Carried answers saw waits start first now host buffer out n (phase.Body b) → vec_len body ≡ length body.items
    → Ran saw (AwaitsBody (b.body.items ++ buffer) b.size) now new (TriesBody {A = A} (Ok tt) b.size (b.body.items ++ buffer) body rest)
    → request.head ≡ b.head → request.body.items ≡ body.items → request.is_last ≡ is_last_at n → IsAnswering answers host request next p → new_out ≡ nothing
    → Carried answers saw waits start first new next rest new_out n p
answered {A = A} answers saw waits start now new first host next n buffer rest out new_out b body request phase.Head c same ran head items last answering fresh = absurd answering
answered {A = A} answers saw waits start now new first host next n buffer rest out new_out b body request (phase.Invite i) c same ran head items last answering fresh = absurd answering
answered {A = A} answers saw waits start now new first host next n buffer rest out new_out b body request (phase.Body d) c same ran head items last answering fresh = absurd answering
answered {H = H} {A = A} answers saw waits start now new first host next n buffer rest out new_out b body request (phase.Reply s) c same ran head items last answering fresh =
    let taken = body_comes {A = A} saw c.began now new b.head b.size body request (is_last_at n) c.begun b.body.items buffer rest c.turn.0 same head items last ran in
    let P : H → Type 0 = λ h. IsSent answers (closes request.head request.is_last) h request.head request.body.items (text_of s) next in
    let Q : Bool → Type 0 = λ close. IsSent answers close host request.head request.body.items (text_of s) next in (
      record {
        began = c.began;
        before = c.before;
        begun = c.begun;
        so = c.so;
        turn = inl (record {
          request = request;
          at = 0;
          so = reply_begins answers saw c.began new c.before next (is_last_at n) request (text_of s) c.begun rest taken (subst P c.turn.1 (subst Q (sym answering.1) answering.0));
          closing = answering.1;
          amid = amid_first (text_of s) new_out fresh;
        });
      },
      inl (counted new_out fresh),
      some_first s new_out fresh,
    )
answered {A = A} answers saw waits start now new first host next n buffer rest out new_out b body request (phase.Ended result) c same ran head items last answering fresh = absurd answering

-- the request is left for later: its body stays as it is, whole
pub kept : {S H A : Type 0} (answers : Answering H) (saw : S → Event → S → Type 0) (start now new : S) (first host next : H) (n : ℕ) (buffer rest : List ℕ) (parts : RequestParts) (size : ℕ) (part : List ℕ) (body : Vec ℕ A)
    (b : BodyPart) → AtBody answers saw start first now host buffer n parts size part
    → Ran saw (AwaitsBody (part ++ buffer) size) now new (TriesBody {A = A} (Ok tt) size (part ++ buffer) body rest)
    → b.head ≡ parts → b.size ≡ vec_len body → b.body.items ≡ body.items → next ≡ host → AtBody answers saw start first new next rest n b.head b.size b.body.items
kept {A = A} answers saw start now new first host next n buffer rest parts size part body b c ran head sized items same =
    let whole : b.size ≡ size = sized ∙ body_size {A = A} saw now new size body (part ++ buffer) rest ran in
    let so = body_kept {A = A} saw c.began now new parts size body c.begun part buffer rest c.turn.0 ran in
    let P : RequestParts → Type 0 = λ h. BodySoFar saw c.began new h b.size c.begun b.body.items rest in
    let Q : ℕ → Type 0 = λ s. BodySoFar saw c.began new parts s c.begun b.body.items rest in
    let R : List ℕ → Type 0 = λ l. BodySoFar saw c.began new parts size c.begun l rest in
    record {
      began = c.began;
      before = c.before;
      begun = c.begun;
      so = c.so;
      turn = (subst P (sym head) (subst Q (sym whole) (subst R (sym items) so)), same ∙ c.turn.1);
    }

-- ---- in a reply

pub at_reply : {S H : Type 0} (answers : Answering H) (saw : S → Event → S → Type 0) (waits : Type 0) (start now : S) (first host : H) (c : Connection) (s : Sending) → c.phase ≡ phase.Reply s
    → Carries answers saw waits start first now host c → Carried answers saw waits start first now host c.wire c.out c.number (phase.Reply s)
at_reply answers saw waits start now first host c s is carries = subst (λ (p : Phase). Carried answers saw waits start first now host c.wire c.out c.number p) is carries

-- the writes alone
writes_of : {S : Type 0} (saw : S → Event → S → Type 0) (now new : S) (result : Result (Unit {0}) (Halt WriteFailed)) (text : List ℕ) (at : ℕ) (out : Gathered) (ran : Ran saw NoRead now new (GoesOnFrom result text at out))
    → Ran saw NoRead now new (WritesFrom result text at ran.claimed.0)
writes_of saw now new result text at out ran = record { events = ran.events; steps = ran.steps; timely = ran.timely; claimed = ran.claimed.1 }

-- what a reply that is left unfinished is
replying_waits : {S H : Type 0} (answers : Answering H) (saw : S → Event → S → Type 0) (began now new : S) (before host : H) (is_last : Bool) (begun buffer : List ℕ) (out new_out : Gathered) (s : Sending)
    → Replying answers saw began now before host is_last begun buffer out s → SendsOn saw now new (Err WouldWait) (text_of s) out new_out
    → Replying answers saw began new before host is_last begun buffer new_out s
replying_waits answers saw began now new before host is_last begun buffer out new_out s r sends =
    let ran = sends r.at r.amid in
    record {
      request = r.request;
      at = ran.claimed.0;
      so = reply_waits answers saw began now new before host is_last r.request (text_of s) r.at ran.claimed.0 begun buffer r.so (writes_of saw now new (Err WouldWait) (text_of s) r.at new_out ran);
      closing = r.closing;
      amid = ran.claimed.2;
    }

refusing_waits : {S H : Type 0} (saw : S → Event → S → Type 0) (began now new : S) (before host : H) (is_last : Bool) (begun buffer : List ℕ) (out new_out : Gathered) (s : Sending)
    → Refusing saw began now before host is_last begun buffer out s → SendsOn saw now new (Err WouldWait) (text_of s) out new_out
    → Refusing saw began new before host is_last begun buffer new_out s
refusing_waits saw began now new before host is_last begun buffer out new_out s r sends =
    let ran = sends r.at r.amid in
    let writes = writes_of saw now new (Err WouldWait) (text_of s) r.at new_out ran in
    let P : List ℕ → Type 0 = λ t. Ran saw NoRead now new (WritesFrom (Err WouldWait) t r.at ran.claimed.0) in
    record {
      why = r.why;
      at = ran.claimed.0;
      so = refusal_waits saw began now new is_last r.why r.at ran.claimed.0 begun buffer r.so (subst P (sym r.text_is) writes);
      text_is = r.text_is;
      closing = r.closing;
      amid = ran.claimed.2;
      same = r.same;
    }

either_waits : {S H : Type 0} (answers : Answering H) (saw : S → Event → S → Type 0) (began now new : S) (before host : H) (is_last : Bool) (begun buffer : List ℕ) (out new_out : Gathered) (s : Sending)
    → (Replying answers saw began now before host is_last begun buffer out s ⊎ Refusing saw began now before host is_last begun buffer out s)
    → SendsOn saw now new (Err WouldWait) (text_of s) out new_out
    → (Replying answers saw began new before host is_last begun buffer new_out s ⊎ Refusing saw began new before host is_last begun buffer new_out s)
either_waits answers saw began now new before host is_last begun buffer out new_out s (inl r) sends =
    inl (replying_waits answers saw began now new before host is_last begun buffer out new_out s r sends)
either_waits answers saw began now new before host is_last begun buffer out new_out s (inr r) sends =
    inr (refusing_waits saw began now new before host is_last begun buffer out new_out s r sends)

-- some of the text is left
left_behind : (text : List ℕ) (at : ℕ) (out : Gathered) → IsAmid text at out → at < length text → out.sent < length text
left_behind text at out amid less = omega (arith, amid.count, min-le_left at (2 ^ 64 - 1), less)

pub some_left : {S H : Type 0} (answers : Answering H) (saw : S → Event → S → Type 0) (began now new : S) (before host : H) (is_last : Bool) (begun buffer : List ℕ) (out new_out : Gathered) (s : Sending)
    → (Replying answers saw began now before host is_last begun buffer out s ⊎ Refusing saw began now before host is_last begun buffer out s)
    → SendsOn saw now new (Err WouldWait) (text_of s) out new_out → new_out.sent < length (text_of s)
some_left answers saw began now new before host is_last begun buffer out new_out s (inl r) sends =
    let ran = sends r.at r.amid in
    left_behind (text_of s) ran.claimed.0 new_out ran.claimed.2 ran.claimed.1.ends.1
some_left answers saw began now new before host is_last begun buffer out new_out s (inr r) sends =
    let ran = sends r.at r.amid in
    left_behind (text_of s) ran.claimed.0 new_out ran.claimed.2 ran.claimed.1.ends.1

pub waits_in_reply : {S H : Type 0} (answers : Answering H) (saw : S → Event → S → Type 0) (waits : Type 0) (start now new : S) (first host : H) (n : ℕ) (buffer : List ℕ) (out new_out : Gathered) (s : Sending)
    → Carried answers saw waits start first now host buffer out n (phase.Reply s) → SendsOn saw now new (Err WouldWait) (text_of s) out new_out → waits
    → Carried answers saw waits start first new host buffer new_out n (phase.Reply s)
waits_in_reply answers saw waits start now new first host n buffer out new_out s c sends wait = (
  record {
    began = c.0.began;
    before = c.0.before;
    begun = c.0.begun;
    so = c.0.so;
    turn = either_waits answers saw c.0.began now new c.0.before host (is_last_at n) c.0.begun buffer out new_out s c.0.turn sends;
  },
  inr wait,
  some_left answers saw c.0.began now new c.0.before host (is_last_at n) c.0.begun buffer out new_out s c.0.turn sends,
)

-- the turn is over, as the reply says
reply_over : {S H : Type 0} (answers : Answering H) (saw : S → Event → S → Type 0) (began now new : S) (before host : H) (is_last : Bool) (begun buffer : List ℕ) (out new_out : Gathered) (s : Sending) (turn : Next)
    → Replying answers saw began now before host is_last begun buffer out s → SendsOn saw now new (Ok tt) (text_of s) out new_out → s.close ≡ is_end turn
    → Ran saw (AwaitsRequest begun) began new (TurnsAs answers (Ok turn) is_last before host begun buffer)
reply_over answers saw began now new before host is_last begun buffer out new_out s turn r sends closing =
    let ran = sends r.at r.amid in
    reply_out answers saw began now new before host is_last turn r.request (text_of s) r.at ran.claimed.0 begun buffer r.so (writes_of saw now new (Ok tt) (text_of s) r.at new_out ran) (r.closing ∙ closing)

refusal_over : {S H : Type 0} (answers : Answering H) (saw : S → Event → S → Type 0) (began now new : S) (before host : H) (is_last : Bool) (begun buffer : List ℕ) (out new_out : Gathered) (s : Sending)
    → Refusing saw began now before host is_last begun buffer out s → SendsOn saw now new (Ok tt) (text_of s) out new_out
    → Ran saw (AwaitsRequest begun) began new (TurnsAs answers (Ok End) is_last before host begun buffer)
refusal_over answers saw began now new before host is_last begun buffer out new_out s r sends =
    let ran = sends r.at r.amid in
    let P : List ℕ → Type 0 = λ t. Ran saw NoRead now new (WritesFrom (Ok tt) t r.at ran.claimed.0) in
    subst (λ h. Ran saw (AwaitsRequest begun) began new (TurnsAs answers (Ok End) is_last before h begun buffer)) (sym r.same)
    (refusal_out answers saw began now new before is_last r.why r.at ran.claimed.0 begun buffer r.so (subst P (sym r.text_is) (writes_of saw now new (Ok tt) (text_of s) r.at new_out ran)))

-- the last reply closes
last_closes : {S H : Type 0} (answers : Answering H) (saw : S → Event → S → Type 0) (start began now : S) (first : H) (n : ℕ) (before host : H) (begun buffer : List ℕ) (out : Gathered) (s : Sending)
    → ConnectionSoFar answers saw start began first n before begun → Replying answers saw began now before host (is_last_at n) begun buffer out s → 100 ≤ n → s.close ≡ true
last_closes answers saw start began now first n before host begun buffer out s so r over =
    let at = so.so None None (record { taken = tt; end = λ latest. tt }) tt in
    let all : n ≡ 100 = omega (arith, at.within, over) in
    let last : is_last_at n ≡ true = subst (λ m. is_last_at m ≡ true) (sym all) refl in
    let named = r.so.taken.claimed.of_stream None None (record { taken = tt; end = λ latest. tt }) in
    sym r.closing ∙ ap (closes r.request.head) (named.2 ∙ last)

-- the reply after which the connection ends
over_last : {S H : Type 0} (answers : Answering H) (saw : S → Event → S → Type 0) (start began now new : S) (first : H) (n : ℕ) (before host : H) (begun buffer : List ℕ) (out new_out : Gathered) (s : Sending)
    → ConnectionSoFar answers saw start began first n before begun
    → (Replying answers saw began now before host (is_last_at n) begun buffer out s ⊎ Refusing saw began now before host (is_last_at n) begun buffer out s)
    → SendsOn saw now new (Ok tt) (text_of s) out new_out → ((s.close ≡ true) ⊎ (100 ≤ n))
    → Ran saw (AwaitsRequest begun) began new (TurnsAs answers (Ok End) (is_last_at n) before host begun buffer)
over_last answers saw start began now new first n before host begun buffer out new_out s so (inl r) sends (inl closing) =
    reply_over answers saw began now new before host (is_last_at n) begun buffer out new_out s End r sends closing
over_last answers saw start began now new first n before host begun buffer out new_out s so (inl r) sends (inr over) =
    reply_over answers saw began now new before host (is_last_at n) begun buffer out new_out s End r sends
    (last_closes answers saw start began now first n before host begun buffer out s so r over)
over_last answers saw start began now new first n before host begun buffer out new_out s so (inr r) sends closing =
    refusal_over answers saw began now new before host (is_last_at n) begun buffer out new_out s r sends

pub reply_last : {S H : Type 0} (answers : Answering H) (saw : S → Event → S → Type 0) (waits : Type 0) (start now new : S) (first host : H) (n : ℕ) (buffer : List ℕ) (out new_out : Gathered) (s : Sending)
    → Carried answers saw waits start first now host buffer out n (phase.Reply s) → SendsOn saw now new (Ok tt) (text_of s) out new_out → ((s.close ≡ true) ⊎ (100 ≤ n))
    → Ran saw (IsCaughtUp answers first) start new (Connects answers (Ok tt) first host)
reply_last answers saw waits start now new first host n buffer out new_out s c sends closing =
    turn_last answers saw start c.0.began new first n c.0.before host c.0.begun buffer c.0.so
    (over_last answers saw start c.0.began now new first n c.0.before host c.0.begun buffer out new_out s c.0.so c.0.turn sends closing)

-- the reply after which another request is read
over_more : {S H : Type 0} (answers : Answering H) (saw : S → Event → S → Type 0) (began now new : S) (before host : H) (is_last : Bool) (begun buffer : List ℕ) (out new_out : Gathered) (s : Sending)
    → (Replying answers saw began now before host is_last begun buffer out s ⊎ Refusing saw began now before host is_last begun buffer out s)
    → SendsOn saw now new (Ok tt) (text_of s) out new_out → s.close ≡ false
    → Ran saw (AwaitsRequest begun) began new (TurnsAs answers (Ok Exchange) is_last before host begun buffer)
over_more answers saw began now new before host is_last begun buffer out new_out s (inl r) sends open_ =
    reply_over answers saw began now new before host is_last begun buffer out new_out s Exchange r sends open_
over_more answers saw began now new before host is_last begun buffer out new_out s (inr r) sends open_ = cc (r.closing, open_)

pub reply_more : {S H : Type 0} (answers : Answering H) (saw : S → Event → S → Type 0) (waits : Type 0) (start now new : S) (first host : H) (n : ℕ) (buffer : List ℕ) (out new_out last_out : Gathered) (s : Sending)
    → Carried answers saw waits start first now host buffer out n (phase.Reply s) → SendsOn saw now new (Ok tt) (text_of s) out new_out → s.close ≡ false
    → Carried answers saw waits start first new host buffer last_out (n + 1) phase.Head
reply_more answers saw waits start now new first host n buffer out new_out last_out s c sends goes = record {
  began = new;
  before = host;
  begun = buffer;
  so = turn_more answers saw start c.0.began new first n c.0.before host c.0.begun buffer c.0.so
      (over_more answers saw c.0.began now new c.0.before host (is_last_at n) c.0.begun buffer out new_out s c.0.turn sends goes);
  turn = (head_begins saw new buffer, refl);
}

-- a write failed
reply_cut : {S H : Type 0} (answers : Answering H) (saw : S → Event → S → Type 0) (began now new : S) (before host : H) (is_last : Bool) (begun buffer : List ℕ) (out new_out : Gathered) (s : Sending) (failed : WriteFailed)
    → (Replying answers saw began now before host is_last begun buffer out s ⊎ Refusing saw began now before host is_last begun buffer out s)
    → SendsOn saw now new (Err (Failed failed)) (text_of s) out new_out
    → Ran saw (AwaitsRequest begun) began new (TurnsAs answers (Err fault.OutputFault) is_last before host begun buffer)
reply_cut answers saw began now new before host is_last begun buffer out new_out s failed (inl r) sends =
    let ran = sends r.at r.amid in
    reply_fails answers saw began now new before host is_last failed r.request (text_of s) r.at ran.claimed.0 begun buffer r.so (writes_of saw now new (Err (Failed failed)) (text_of s) r.at new_out ran)
reply_cut answers saw began now new before host is_last begun buffer out new_out s failed (inr r) sends =
    let ran = sends r.at r.amid in
    let P : List ℕ → Type 0 = λ t. Ran saw NoRead now new (WritesFrom (Err (Failed failed)) t r.at ran.claimed.0) in
    subst (λ h. Ran saw (AwaitsRequest begun) began new (TurnsAs answers (Err fault.OutputFault) is_last before h begun buffer)) (sym r.same)
    (refusal_fails answers saw began now new before is_last r.why failed r.at ran.claimed.0 begun buffer r.so
    (subst P (sym r.text_is) (writes_of saw now new (Err (Failed failed)) (text_of s) r.at new_out ran)))

pub reply_failed : {S H : Type 0} (answers : Answering H) (saw : S → Event → S → Type 0) (waits : Type 0) (start now new : S) (first host : H) (n : ℕ) (buffer : List ℕ) (out new_out : Gathered) (s : Sending) (failed : WriteFailed)
    → Carried answers saw waits start first now host buffer out n (phase.Reply s) → SendsOn saw now new (Err (Failed failed)) (text_of s) out new_out
    → Ran saw (IsCaughtUp answers first) start new (Connects answers (Err fault.OutputFault) first host)
reply_failed answers saw waits start now new first host n buffer out new_out s failed c sends =
    turn_failed answers saw start c.0.began new fault.OutputFault first n c.0.before host c.0.begun buffer c.0.so
    (reply_cut answers saw c.0.began now new c.0.before host (is_last_at n) c.0.begun buffer out new_out s failed c.0.turn sends)

-- the reply is out, and what follows it is entered
pub reply_followed : {S H : Type 0} (answers : Answering H) (saw : S → Event → S → Type 0) (waits : Type 0) (start now new : S) (first host : H) (n : ℕ) (buffer : List ℕ) (out new_out : Gathered) (s : Sending) (c : Connection)
    → Carried answers saw waits start first now host buffer out n (phase.Reply s) → SendsOn saw now new (Ok tt) (text_of s) out new_out → c.wire ≡ buffer → FollowsReply s.close n c.number c.phase
    → Carries answers saw waits start first new host c
reply_followed answers saw waits start now new first host n buffer out new_out s c so sends wire (inl last) =
    at_fields answers saw waits start new first host c buffer n wire last.1
    (at_phase answers saw waits start new first host buffer c.out n (phase.Ended (Ok tt)) c.phase last.2 (reply_last answers saw waits start now new first host n buffer out new_out s so sends last.0))
reply_followed answers saw waits start now new first host n buffer out new_out s c so sends wire (inr more) =
    at_fields answers saw waits start new first host c buffer (n + 1) wire more.2
    (at_phase answers saw waits start new first host buffer c.out (n + 1) phase.Head c.phase more.3 (reply_more answers saw waits start now new first host n buffer out new_out c.out s so sends more.0))
