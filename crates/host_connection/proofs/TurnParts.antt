-- What the parts of a turn do, in the words of lemmas.
use Rattle.std.specs.Prelude.{◌≡◌, ◌⊎◌, ℕ, ◌<◌, List, [], ◌++◌, length, Bool, true, false, Result, Ok, Err, IfSome, codes, Some, OnOk, MatchResult}
use Rattle.std.specs.Io.KnownBytes.{Consumes, Appends, prepend_known}
use Rattle.std.specs.Str.{bytes_eq}
use Rattle.http_wire.specs.Fields.{AnnouncesBody}
use Rattle.http_wire.specs.Requests.{RequestParts}
use Rattle.http_wire.specs.Sending.{AppendsFront}
use Rattle.host_api.specs.declared.refusals.Refusal.TheVariants.{Head, OutOfMemory}
use Rattle.host_connection.specs.declared.connections.ConnectionFault.{ConnectionFault}
use Rattle.host_connection.specs.declared.stops.Stop.{Stop}
use Rattle.host_replies.specs.Replies.{refused_answer, sent_text}
use Rattle.host_connection.specs.declared.connections.ConnectionFault.TheVariants as fault
use Rattle.host_connection.specs.declared.stops.Stop.TheVariants as stop
use Rattle.std.specs.declared.vec.Vec.{Vec}
use Rattle.http_wire.specs.Timing.{Event, ReadFails, WriteFails, all_put, IsLatest, GoesOn, Gives}
use Rattle.host_connection.specs.Serving.{Stream, limit_of, Answering, IsInterim, IsAnswered, IsNotRead, IsCut, IsBegun, IsFrontSent, RefusesBody, IsSent}
use Rattle.host_connection.specs.Timing.{ReadEnds}

-- the head announces a body of this size, which is read once this was sent
abbrev pub Invites : RequestParts → ℕ → List ℕ → Type 0
Invites parts size sent = AnnouncesBody parts.fields (limit_of parts) size × IsInterim parts sent

-- some of this, which isn't all that is to be sent before the body of a head, was sent
abbrev pub InvitesInPart : RequestParts → List ℕ → Type 0
InvitesInPart parts sent = (size : ℕ) × (rest : List ℕ) × (0 < length rest) × Invites parts size (sent ++ rest)

-- why a stream gives no body of this size
abbrev pub SizeStops : RequestParts → ℕ → (read_fails : Type 0) → Stream → Stop → Type 0
SizeStops parts size read_fails old stop.Ended = IfSome old (λ left. length left < size)
SizeStops parts size read_fails old stop.ReadFault = read_fails
SizeStops parts size read_fails old stop.WriteFault = ⊥
SizeStops parts size read_fails old (stop.Refused why head_only) = ⊥
SizeStops parts size read_fails old (stop.OutOfMemory head_only) = (head_only ≡ bytes_eq parts.method (codes "HEAD")) × (0 < size)

-- the body that a head announces is taken, and this was sent before
abbrev pub TakesBody : RequestParts → List ℕ → Stream → Stream → List ℕ → Type 0
TakesBody parts body old new sent = Invites parts (length body) sent × Consumes old new body

-- why it gives no body that the head announces, and what was sent
abbrev pub BodyStops : RequestParts → (read_fails write_fails : Type 0) → Stream → List ℕ → Stop → Type 0
BodyStops parts read_fails write_fails old sent stop.Ended = (size : ℕ) × Invites parts size sent × IfSome old (λ left. length left < size)
BodyStops parts read_fails write_fails old sent stop.ReadFault = read_fails × ((size : ℕ) × Invites parts size sent)
BodyStops parts read_fails write_fails old sent stop.WriteFault = write_fails × InvitesInPart parts sent
BodyStops parts read_fails write_fails old sent (stop.Refused why head_only) = (sent ≡ []) × RefusesBody parts why head_only
BodyStops parts read_fails write_fails old sent (stop.OutOfMemory head_only) =
    (head_only ≡ bytes_eq parts.method (codes "HEAD")) × ((size : ℕ) × (0 < size) × Invites parts size sent)

-- the text is sent, unless a write fails
abbrev pub Sends : (write_fails : Type 0) → Result (Unit {0}) ConnectionFault → List ℕ → Stream → Stream → Type 0
Sends write_fails (Ok done) text held new_held = Appends held new_held text
Sends write_fails (Err fault.InputFault) text held new_held = ⊥
Sends write_fails (Err fault.OutputFault) text held new_held = write_fails × AppendsFront text held new_held
Sends write_fails (Err fault.OutOfMemory) text held new_held = ⊥

-- what is sent where no request is read
abbrev pub Refuses : (write_fails : Type 0) → Result (Unit {0}) ConnectionFault → Stop → Stream → Stream → Type 0
Refuses write_fails result stop.Ended held new_held = (result ≡ Ok tt) × (new_held ≡ held)
Refuses write_fails result stop.ReadFault held new_held = (result ≡ Err fault.InputFault) × (new_held ≡ held)
Refuses write_fails result stop.WriteFault held new_held = (result ≡ Err fault.OutputFault) × (new_held ≡ held)
Refuses write_fails result (stop.Refused why head_only) held new_held =
    Sends write_fails result (sent_text true head_only (refused_answer (Head why))) held new_held
Refuses write_fails result (stop.OutOfMemory head_only) held new_held =
    Sends write_fails result (sent_text true head_only (refused_answer OutOfMemory)) held new_held

-- what follows an exchange: another one, or the end of the connection
pub data Next : Type 0 where
  Exchange : Next
  End : Next

-- what the answering of a request does
abbrev pub Exchanges : {H : Type 0} → Answering H → (write_fails : Type 0) → Result Next ConnectionFault → Bool → H → RequestParts → List ℕ → Stream → Stream → H → Type 0
Exchanges answers write_fails (Ok Exchange) close host parts body held new_held next =
    (close ≡ false) × ((sent : List ℕ) × IsSent answers close host parts body sent next × Appends held new_held sent)
Exchanges answers write_fails (Ok End) close host parts body held new_held next =
    (close ≡ true) × ((sent : List ℕ) × IsSent answers close host parts body sent next × Appends held new_held sent)
Exchanges answers write_fails (Err fault.InputFault) close host parts body held new_held next = ⊥
Exchanges answers write_fails (Err fault.OutputFault) close host parts body held new_held next =
    write_fails × ((sent : List ℕ) × (rest : List ℕ) × (0 < length rest)
    × IsSent answers close host parts body (sent ++ rest) next × Appends held new_held sent)
Exchanges answers write_fails (Err fault.OutOfMemory) close host parts body held new_held next = ⊥

-- what the turn of a connection does
abbrev pub Turns : {H : Type 0} → Answering H → (read_fails write_fails : Type 0) → Result Next ConnectionFault → Bool → H → Stream → Stream → Stream → Stream → H → Type 0
Turns answers read_fails write_fails (Ok Exchange) is_last host old new held new_held next =
    (sent : List ℕ) × IsAnswered answers host is_last false old sent next new × Appends held new_held sent
Turns answers read_fails write_fails (Ok End) is_last host old new held new_held next =
    (sent : List ℕ)
    × ((IsCut old sent × (next ≡ host)) ⊎ ((new : Stream) × IsAnswered answers host is_last true old sent next new) ⊎ (IsNotRead old sent × (next ≡ host)))
    × Appends held new_held sent
Turns answers read_fails write_fails (Err fault.InputFault) is_last host old new held new_held next =
    read_fails × ((sent : List ℕ) × IsBegun old sent × (next ≡ host) × Appends held new_held sent)
Turns answers read_fails write_fails (Err fault.OutputFault) is_last host old new held new_held next =
    write_fails × ((sent : List ℕ) × IsFrontSent answers host is_last old sent next × Appends held new_held sent)
Turns answers read_fails write_fails (Err fault.OutOfMemory) is_last host old new held new_held next = ⊥

-- they hold only a part of the body that is announced, and all that was written since is what comes before it
abbrev pub AwaitsAnnounced : RequestParts → (buffer got put : List ℕ) → Type 0
AwaitsAnnounced parts buffer got put = (size : ℕ) × Invites parts size put × (length (buffer ++ got) < size)

-- the same of a body of this size
pub record TakesBodyAs {A : Type 0} (result : Result (Vec ℕ A) Stop) (parts : RequestParts) (size : ℕ) (buffer new_buffer : List ℕ) (events : List Event)
    : Type 0 where
  pub nothing_put : all_put events ≡ []
  pub ends : ReadEnds result events
  pub of_stream : (left new_left : Stream) → Gives events left new_left
      → MatchResult result (λ body. (length body.items ≡ size) × Consumes (prepend_known buffer left) (prepend_known new_buffer new_left) body.items)
      (SizeStops parts size (IsLatest ReadFails events) (prepend_known buffer left))

-- where the stream ended, or a read or a write failed, nothing is written
abbrev pub IsSilent : Stop → List Event → Type 0
IsSilent stop.Ended events = events ≡ []
IsSilent stop.ReadFault events = events ≡ []
IsSilent stop.WriteFault events = events ≡ []
IsSilent (stop.Refused why head_only) events = Unit {0}
IsSilent (stop.OutOfMemory head_only) events = Unit {0}

-- what is sent where no request is read, and that it is nothing where the stream ended, or a read or a write failed
pub record RefusesAs (result : Result (Unit {0}) ConnectionFault) (why : Stop) (events : List Event) : Type 0 where
  pub refuses : Refuses (IsLatest WriteFails events) result why (Some []) (Some (all_put events))
  pub silent : IsSilent why events

-- what the answering of a request writes, and that another event may follow where it goes well
pub record ExchangesAs {H : Type 0} (answers : Answering H) (result : Result Next ConnectionFault) (close : Bool) (host : H) (parts : RequestParts) (body : List ℕ) (next : H)
    (events : List Event) : Type 0 where
  pub exchanges : Exchanges answers (IsLatest WriteFails events) result close host parts body (Some []) (Some (all_put events)) next
  pub goes_on : OnOk result (GoesOn events)

-- another exchange may follow
abbrev pub IsFollowed : Result Next ConnectionFault → List Event → Type 0
IsFollowed (Ok Exchange) events = GoesOn events
IsFollowed (Ok End) events = Unit {0}
IsFollowed (Err why) events = Unit {0}

-- what a turn of the connection does over each stream of which its reads are the next, and how its events end
pub record TurnsAs {H : Type 0} (answers : Answering H) (result : Result Next ConnectionFault) (is_last : Bool) (host next : H) (buffer new_buffer : List ℕ) (events : List Event)
    : Type 0 where
  pub followed : IsFollowed result events
  pub of_stream : (left new_left : Stream) → Gives events left new_left
      → Turns answers (IsLatest ReadFails events) (IsLatest WriteFails events) result is_last host (prepend_known buffer left) (prepend_known new_buffer new_left)
      (Some []) (Some (all_put events)) next
