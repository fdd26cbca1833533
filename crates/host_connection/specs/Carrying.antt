-- A connection that goes on where it left off: what it has done so far, and what a step of it leads to.
use Rattle.std.specs.Prelude.{◌≡◌, ◌⊎◌, ℕ, ◌+◌, ◌<◌, ◌≤◌, List, [], ◌++◌, length, Bool, true, false, Some, Ok, Err, vec_len}
use Rattle.std.specs.Io.KnownBytes.{Appends, prepend_known}
use Rattle.std.specs.List.{concat}
use Rattle.http_wire.specs.Expectations.{ExpectsContinue, continue_text}
use Rattle.http_wire.specs.Fields.{AnnouncesBody}
use Rattle.http_wire.specs.Gathering.{Gathered, IsAmid, IsCounted}
use Rattle.http_wire.specs.Halting.{Together}
use Rattle.http_wire.specs.HeadText.{CutShort}
use Rattle.http_wire.specs.Requests.{RequestParts}
use Rattle.http_wire.specs.Timing.{Event, all_put, GoesOn, Gives, Ran, Steps, Timely}
use Rattle.host_replies.specs.Replies.{Answer, closes}
use Rattle.host_connection.specs.declared.connections.ConnectionFault.TheVariants as fault
use Rattle.host_connection.specs.declared.phases.Phase.{Phase}
use Rattle.host_connection.specs.declared.phases.Phase.TheVariants as phase
use Rattle.host_connection.specs.declared.phases.Sending.{Sending}
use Rattle.host_connection.specs.declared.requests.Request.{Request}
use Rattle.host_connection.specs.declared.steps.Connection.{Connection}
use Rattle.host_connection.specs.declared.steps.Progress.{Progress}
use Rattle.host_connection.specs.declared.steps.Progress.TheVariants as progress
use Rattle.host_connection.specs.declared.steps.Wants.{Wants}
use Rattle.host_connection.specs.declared.steps.Wants.TheVariants as wants
use Rattle.host_connection.specs.declared.stops.Stop.{Stop}
use Rattle.host_connection.specs.declared.stops.Stop.TheVariants as stop
use Rattle.host_connection.specs.Again.{IsAgain}
use Rattle.host_connection.specs.Phases.{HeadSoFar, InviteSoFar, BodySoFar, ReplySoFar, RefusalSoFar, refusal_text}
use Rattle.host_connection.specs.Serving.{Answering, AreServed, Announced, IsSent, Stream, is_last_at, limit_of}
use Rattle.host_connection.specs.Timing.{Connects, IsCaughtUp}
use Rattle.host_connection.specs.Wordings.{is_kept, worded}

-- ---- before a turn

-- what was done before the request of number n: each exchange was followed by another
pub record SoFar {H : Type 0} (answers : Answering H) (first : H) (stream : Stream) (n : ℕ) (host : H) (old held new_held : Stream) : Type 0 where
  pub replies : List (List ℕ)
  pub served : AreServed answers 1 first stream replies host old
  pub written : Appends held new_held (concat replies)
  pub number : n ≡ 1 + length replies
  pub within : n ≤ 100

-- the same since its stream was this one: these events led here, and over each stream of which its reads are the next all requests before are answered
pub record ConnectionSoFar {S H : Type 0} (answers : Answering H) (saw : S → Event → S → Type 0) (old new : S) (first : H) (n : ℕ) (host : H) (buffer : List ℕ) : Type 0 where
  pub events : List Event
  pub steps : Steps saw old events new
  pub timely : Timely (IsCaughtUp answers first) events
  pub goes_on : GoesOn events
  pub so : (left new_left : Stream) → Gives events left new_left → Together left new_left
      → SoFar answers first left n host (prepend_known buffer new_left) (Some []) (Some (all_put events))

-- ---- in a turn

-- the request of number n is the next or is being answered: its turn began where all before were, and since then it came to this
pub record InTurn {S H : Type 0} (answers : Answering H) (saw : S → Event → S → Type 0) (start : S) (first : H) (n : ℕ)
    (CameTo : (began : S) → (before : H) → (begun : List ℕ) → Type 0) : Type 0 where
  pub began : S
  pub before : H
  pub begun : List ℕ
  pub so : ConnectionSoFar answers saw start began first n before begun
  pub turn : CameTo began before begun

-- the bytes of a reply that is on its way
abbrev pub text_of : Sending → List ℕ
text_of s = worded s.close s.head_only s.wording

-- the reply to a request that was read: a front of it was written, and what is gathered of it comes next
pub record Replying {S H : Type 0} (answers : Answering H) (saw : S → Event → S → Type 0) (began now : S) (before host : H) (is_last : Bool) (begun buffer : List ℕ) (out : Gathered) (s : Sending)
    : Type 0 where
  pub request : Request
  pub at : ℕ
  pub so : ReplySoFar answers saw began now before host is_last request (text_of s) at begun buffer
  pub closing : closes request.head request.is_last ≡ s.close
  pub amid : IsAmid (text_of s) at out

-- the reply where no request was read, after which the connection ends
pub record Refusing {S H : Type 0} (saw : S → Event → S → Type 0) (began now : S) (before host : H) (is_last : Bool) (begun buffer : List ℕ) (out : Gathered) (s : Sending) : Type 0 where
  pub why : Stop
  pub at : ℕ
  pub so : RefusalSoFar saw began now is_last why at begun buffer
  pub text_is : refusal_text why ≡ text_of s
  pub closing : s.close ≡ true
  pub amid : IsAmid (text_of s) at out
  pub same : host ≡ before

-- What a connection did since its stream was this and its service that, by what it is in the middle of. Some of a reply is still to be written. One
-- that isn't counted any more was left before it was out, where that may be.
abbrev pub Carried : {S H : Type 0} → Answering H → (saw : S → Event → S → Type 0) → (leaves : Type 0) → (start : S) → (first : H) → (now : S) → (host : H) → (buffer : List ℕ) → (out : Gathered) → (n : ℕ) → Phase → Type 0
Carried answers saw leaves start first now host buffer out n phase.Head =
    InTurn answers saw start first n (λ began before begun. HeadSoFar saw began now begun buffer × (host ≡ before))
Carried answers saw leaves start first now host buffer out n (phase.Invite i) =
    InTurn answers saw start first n (λ began before begun. InviteSoFar saw began now i.head i.size i.at begun buffer × (host ≡ before))
Carried answers saw leaves start first now host buffer out n (phase.Body b) =
    InTurn answers saw start first n (λ began before begun. BodySoFar saw began now b.head b.size begun b.body.items buffer × (host ≡ before))
Carried answers saw leaves start first now host buffer out n (phase.Reply s) =
    InTurn answers saw start first n (λ began before begun. Replying answers saw began now before host (is_last_at n) begun buffer out s
    ⊎ Refusing saw began now before host (is_last_at n) begun buffer out s)
    × (IsCounted out ⊎ leaves) × (out.sent < length (text_of s))
Carried answers saw leaves start first now host buffer out n (phase.Ended result) =
    Ran saw (IsCaughtUp answers first) start now (Connects answers result first host)

-- the same of a connection's value
abbrev pub Carries : {S H : Type 0} → Answering H → (saw : S → Event → S → Type 0) → (leaves : Type 0) → (start : S) → (first : H) → (now : S) → (host : H) → Connection → Type 0
Carries answers saw leaves start first now host c = Carried answers saw leaves start first now host c.wire c.out c.number c.phase

-- ---- a step

-- to read it waits while no whole head has come or not all of a body, to write while some of a reply is left
abbrev pub Awaits : Wants → (buffer : List ℕ) → Gathered → Phase → Type 0
Awaits wants.Read buffer out phase.Head = CutShort buffer
Awaits wants.Read buffer out (phase.Invite i) = ⊥
Awaits wants.Read buffer out (phase.Body b) = length (b.body.items ++ buffer) < b.size
Awaits wants.Read buffer out (phase.Reply s) = ⊥
Awaits wants.Read buffer out (phase.Ended result) = ⊥
Awaits wants.Write buffer out phase.Head = ⊥
Awaits wants.Write buffer out (phase.Invite i) = i.at < length continue_text
Awaits wants.Write buffer out (phase.Body b) = ⊥
Awaits wants.Write buffer out (phase.Reply s) = out.sent < length (text_of s)
Awaits wants.Write buffer out (phase.Ended result) = ⊥

-- The stream as it is has to wait. Or 2^64 bytes of a reply were written, which are no longer counted: then it goes no further.
abbrev pub IsHeld : (waits : Type 0) → Gathered → Phase → Type 0
IsHeld waits out phase.Head = waits
IsHeld waits out (phase.Invite i) = waits
IsHeld waits out (phase.Body b) = waits
IsHeld waits out (phase.Reply s) = waits ⊎ ¬ (IsCounted out)
IsHeld waits out (phase.Ended result) = waits

-- some state of a stream has to wait
abbrev pub MayWait : {S : Type 0} → (waits : S → Type 0) → Type 0
MayWait {S} waits = (stream : S) × waits stream

-- a body of this size is read next, of which nothing was taken, and nothing was written of its interim reply
abbrev pub AwaitsBodyOf : ℕ → Phase → Type 0
AwaitsBodyOf size phase.Head = ⊥
AwaitsBodyOf size (phase.Invite i) = (i.size ≡ size) × (i.at ≡ 0)
AwaitsBodyOf size (phase.Body b) = (b.size ≡ size) × (b.body.items ≡ [])
AwaitsBodyOf size (phase.Reply s) = ⊥
AwaitsBodyOf size (phase.Ended result) = ⊥

-- a request is whole, and isn't answered yet
abbrev pub IsAsked : Phase → Type 0
IsAsked phase.Head = ⊥
IsAsked (phase.Invite i) = ⊥
IsAsked (phase.Body b) = vec_len b.body ≡ b.size
IsAsked (phase.Reply s) = ⊥
IsAsked (phase.Ended result) = ⊥

-- What a step leads to: a connection that is still carried; it waits only where the stream has to, and as its phase says; it tells of a body before
-- it reads it; it is postponed with the whole request alone. Once it ends, that is the theorem of the whole connection.
abbrev pub Leads : {S H : Type 0} → Answering H → (saw : S → Event → S → Type 0) → (leaves : Type 0) → (waits : S → Type 0) → (start : S) → (first : H) → (now : S) → (host : H) → Connection → Progress → Type 0
Leads answers saw leaves waits start first now host c (progress.Waits w) =
    Carries answers saw leaves start first now host c × IsHeld (waits now) c.out c.phase × Awaits w c.wire c.out c.phase
Leads answers saw leaves waits start first now host c progress.More = Carries answers saw leaves start first now host c
Leads answers saw leaves waits start first now host c (progress.Body size) =
    Carries answers saw leaves start first now host c × AwaitsBodyOf size c.phase × (0 < size)
Leads answers saw leaves waits start first now host c progress.Postponed = Carries answers saw leaves start first now host c × IsAsked c.phase
Leads answers saw leaves waits start first now host c (progress.Ended result) =
    Ran saw (IsCaughtUp answers first) start now (Connects answers result first host) × (c.phase ≡ phase.Ended result)

-- the service answered one request
abbrev pub AnswersOne : {H : Type 0} → Answering H → (old new : H) → Type 0
AnswersOne answers old new = (parts : RequestParts) × (body : List ℕ) × (answer : Answer) × answers old parts body answer new

-- it answered one, or none, and is what it was
abbrev pub AnswersOnce : {H : Type 0} → Answering H → (old new : H) → Type 0
AnswersOnce answers old new = (new ≡ old) ⊎ AnswersOne answers old new

-- it has read and written nothing
abbrev pub IsFresh : Connection → Type 0
IsFresh c = (c.wire ≡ []) × (c.number ≡ 1) × (c.phase ≡ phase.Head)

-- ---- what private functions say

-- in a reply
abbrev pub IsReply : Phase → Type 0
IsReply phase.Head = ⊥
IsReply (phase.Invite i) = ⊥
IsReply (phase.Body b) = ⊥
IsReply (phase.Reply s) = Unit {0}
IsReply (phase.Ended result) = ⊥

-- the reply where no request was read for this reason, after which the connection ends
abbrev pub Tells : Stop → Phase → Type 0
Tells why phase.Head = ⊥
Tells why (phase.Invite i) = ⊥
Tells why (phase.Body b) = ⊥
Tells why (phase.Reply s) = (refusal_text why ≡ text_of s) × (s.close ≡ true)
Tells why (phase.Ended result) = ⊥

-- what follows where no request was read
abbrev pub FollowsStop : Stop → Phase → Type 0
FollowsStop stop.Ended p = p ≡ phase.Ended (Ok tt)
FollowsStop stop.ReadFault p = p ≡ phase.Ended (Err fault.InputFault)
FollowsStop stop.WriteFault p = p ≡ phase.Ended (Err fault.OutputFault)
FollowsStop (stop.Refused why head_only) p = Tells (stop.Refused why head_only) p
FollowsStop (stop.OutOfMemory head_only) p = Tells (stop.OutOfMemory head_only) p

-- a body of this size, which a head of these parts announces, is read next, after an interim reply where its client waits for one
abbrev pub ReadsNext : RequestParts → (size : ℕ) → Phase → Type 0
ReadsNext parts size phase.Head = ⊥
ReadsNext parts size (phase.Invite i) = (i.head ≡ parts) × (i.size ≡ size) × (i.at ≡ 0) × ExpectsContinue parts
ReadsNext parts size (phase.Body b) = (b.head ≡ parts) × (b.size ≡ size) × (b.body.items ≡ []) × ¬ (ExpectsContinue parts)
ReadsNext parts size (phase.Reply s) = ⊥
ReadsNext parts size (phase.Ended result) = ⊥

-- what follows a head of these parts
abbrev pub FollowsHead : RequestParts → Phase → Type 0
FollowsHead parts p = ((size : ℕ) × AnnouncesBody parts.fields (limit_of parts) size × ReadsNext parts size p)
    ⊎ ((why : Stop) × Announced parts (Err why) × FollowsStop why p)

-- how many phases are gone through at least before the service is asked again
abbrev pub until_asked : Phase → ℕ
until_asked phase.Head = 1
until_asked (phase.Invite i) = 1
until_asked (phase.Body b) = 0
until_asked (phase.Reply s) = 2
until_asked (phase.Ended result) = 3

-- what is asked of the service in a phase: nothing, or an answer, whose reply is then on its way
abbrev pub Asks : {H : Type 0} → Answering H → (old new : H) → (old_phase new_phase : Phase) → Type 0
Asks answers old new old_phase new_phase = ((new ≡ old) × (until_asked old_phase ≤ until_asked new_phase + 1))
    ⊎ (AnswersOne answers old new × (until_asked old_phase ≡ 0) × (until_asked new_phase ≡ 2))

-- the request is answered, and the reply to it is on its way
abbrev pub IsAnswering : {H : Type 0} → Answering H → (host : H) → Request → (next : H) → Phase → Type 0
IsAnswering answers host request next phase.Head = ⊥
IsAnswering answers host request next (phase.Invite i) = ⊥
IsAnswering answers host request next (phase.Body b) = ⊥
IsAnswering answers host request next (phase.Reply s) =
    IsSent answers s.close host request.head request.body.items (text_of s) next × (closes request.head request.is_last ≡ s.close)
IsAnswering answers host request next (phase.Ended result) = ⊥

-- what follows the reply to the request of number n
abbrev pub FollowsReply : (close : Bool) → (n new_n : ℕ) → Phase → Type 0
FollowsReply close n new_n p = (((close ≡ true) ⊎ (100 ≤ n)) × (new_n ≡ n) × (p ≡ phase.Ended (Ok tt)))
    ⊎ ((close ≡ false) × (n < 100) × (new_n ≡ n + 1) × (p ≡ phase.Head))

-- the reply to this head is on its way again
abbrev pub BeginsAgain : {H : Type 0} → Answering H → (host : H) → (head : List ℕ) → (next : H) → Phase → Type 0
BeginsAgain answers host head next phase.Head = ⊥
BeginsAgain answers host head next (phase.Invite i) = ⊥
BeginsAgain answers host head next (phase.Body b) = ⊥
BeginsAgain answers host head next (phase.Reply s) = IsAgain answers host head (text_of s) next × (s.close ≡ false) × (is_kept s.wording ≡ true)
BeginsAgain answers host head next (phase.Ended result) = ⊥
