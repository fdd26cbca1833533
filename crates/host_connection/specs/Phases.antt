-- A connection in the middle of a turn: what it has done since the turn began, by the phase that it is in.
use Rattle.std.specs.Prelude.{◌≡◌, ℕ, List, [], ◌++◌, take, Bool, true, Ok, Err}
use Rattle.http_wire.specs.Expectations.{ExpectsContinue, continue_text}
use Rattle.http_wire.specs.Fields.{AnnouncesBody}
use Rattle.http_wire.specs.Halting.{KeepsOn}
use Rattle.http_wire.specs.Requests.{RequestParts}
use Rattle.http_wire.specs.Timing.{Event, all_put, GoesOn, NoRead, Ran}
use Rattle.http_wire.specs.Wires.{AwaitsHead, AwaitsBody}
use Rattle.host_api.specs.declared.refusals.Refusal.TheVariants.{Head, OutOfMemory}
use Rattle.host_connection.specs.declared.stops.Stop.{Stop}
use Rattle.host_connection.specs.declared.stops.Stop.TheVariants as stop
use Rattle.host_connection.specs.declared.requests.Request.{Request}
use Rattle.host_connection.specs.Serving.{Answering, IsSent, Stops, TakesNext, limit_of}
use Rattle.host_connection.specs.Timing.{AwaitsRequest, InvitesAs, ReadsAs, ReadsHeadAs}
use Rattle.host_replies.specs.Replies.{closes, refused_answer, sent_text}

-- the text was written up to this place in it, and nothing else was done
abbrev pub SentUpTo : (text : List ℕ) → (at : ℕ) → List Event → Type 0
SentUpTo text at events = GoesOn events × (all_put events ≡ take at text)

-- In a head, since the turn began at `mid` with these bytes in the buffer. Between two requests it is so too.
abbrev pub HeadSoFar : {S : Type 0} → (saw : S → Event → S → Type 0) → (mid now : S) → (begun buffer : List ℕ) → Type 0
HeadSoFar saw mid now begun buffer = Ran saw (AwaitsHead begun) mid now (KeepsOn begun buffer)

-- in an interim reply: the head was read, its client waits for that reply, and the reply was written up to a place
pub record InviteSoFar {S : Type 0} (saw : S → Event → S → Type 0) (mid now : S) (parts : RequestParts) (size at : ℕ) (begun buffer : List ℕ) : Type 0 where
  pub read : S
  pub head : Ran saw (AwaitsHead begun) mid read (ReadsHeadAs (Ok parts) begun buffer)
  pub announced : AnnouncesBody parts.fields (limit_of parts) size
  pub expects : ExpectsContinue parts
  pub sent : Ran saw NoRead read now (SentUpTo continue_text at)

-- in a body: the head was read, its client was invited, and of the body this part came
pub record BodySoFar {S : Type 0} (saw : S → Event → S → Type 0) (mid now : S) (parts : RequestParts) (size : ℕ) (begun part buffer : List ℕ) : Type 0 where
  pub read : S
  pub invited : S
  pub behind : List ℕ
  pub head : Ran saw (AwaitsHead begun) mid read (ReadsHeadAs (Ok parts) begun behind)
  pub announced : AnnouncesBody parts.fields (limit_of parts) size
  pub invites : Ran saw NoRead read invited (InvitesAs (Ok tt) parts)
  pub came : Ran saw (AwaitsBody behind size) invited now (KeepsOn behind (part ++ buffer))

-- in a reply: the request was read and answered, and the reply was written up to a place
pub record ReplySoFar {S H : Type 0} (answers : Answering H) (saw : S → Event → S → Type 0) (mid now : S) (host next : H) (is_last : Bool) (request : Request) (text : List ℕ) (at : ℕ)
    (begun buffer : List ℕ) : Type 0 where
  pub read : S
  pub taken : Ran saw (AwaitsRequest begun) mid read (ReadsAs {A = Request} (Ok request) (TakesNext is_last) Stops begun buffer)
  pub is_sent : IsSent answers (closes request.head request.is_last) host request.head request.body.items text next
  pub sent : Ran saw NoRead read now (SentUpTo text at)

-- what is sent where no request is read
abbrev pub refusal_text : Stop → List ℕ
refusal_text stop.Ended = []
refusal_text stop.ReadFault = []
refusal_text stop.WriteFault = []
refusal_text (stop.Refused why head_only) = sent_text true head_only (refused_answer (Head why))
refusal_text (stop.OutOfMemory head_only) = sent_text true head_only (refused_answer OutOfMemory)

-- something is sent where no request is read for this reason
abbrev pub IsTold : Stop → Type 0
IsTold stop.Ended = ⊥
IsTold stop.ReadFault = ⊥
IsTold stop.WriteFault = ⊥
IsTold (stop.Refused why head_only) = Unit {0}
IsTold (stop.OutOfMemory head_only) = Unit {0}

-- in a refusal: no request was read, for this reason, and what is sent then was written up to a place
pub record RefusalSoFar {S : Type 0} (saw : S → Event → S → Type 0) (mid now : S) (is_last : Bool) (why : Stop) (at : ℕ) (begun buffer : List ℕ) : Type 0 where
  pub read : S
  pub missed : Ran saw (AwaitsRequest begun) mid read (ReadsAs {A = Request} (Err why) (TakesNext is_last) Stops begun buffer)
  pub told : IsTold why
  pub sent : Ran saw NoRead read now (SentUpTo (refusal_text why) at)
