-- One connection: requests in, and a reply to each.
use Rattle.std.specs.Prelude.{◌≡◌, ◌⊎◌, ℕ, ◌+◌, ◌<◌, ◌==◌, List, [], ◌∷◌, ◌++◌, length, Bool, true, false, Option, Result, Ok, Err, IfSome, codes}
use Rattle.std.specs.Io.KnownBytes.{Consumes, Appends}
use Rattle.std.specs.List.{concat}
use Rattle.std.specs.Str.{bytes_eq}
use Rattle.http_wire.specs.declared.faults.LengthFault.{LengthFault}
use Rattle.http_wire.specs.declared.faults.LengthFault.TheVariants as fault_of
use Rattle.http_wire.specs.Expectations.{ExpectsContinue, continue_text}
use Rattle.http_wire.specs.Fields.{AnnouncesBody, IsBodyLength}
use Rattle.http_wire.specs.HeadText.{CutShort}
use Rattle.http_wire.specs.Requests.{RequestParts, IsBadHead}
use Rattle.http_wire.specs.Wires.{TakesHead, ServesHead, RefusesLargeHead}
use Rattle.host_api.specs.Limits.{body_limit}
use Rattle.host_api.specs.declared.refusals.HeadRefusal.{HeadRefusal}
use Rattle.host_api.specs.declared.refusals.HeadRefusal.TheVariants.{HeadTooLarge, BadHead, CodingRefused, LengthBad, BodyTooLarge}
use Rattle.host_api.specs.declared.refusals.Refusal.TheVariants.{Head, OutOfMemory}
use Rattle.host_connection.specs.declared.requests.Request.{Request}
use Rattle.host_connection.specs.declared.connections.ConnectionFault.{ConnectionFault}
use Rattle.host_connection.specs.declared.connections.ConnectionFault.TheVariants as fault
use Rattle.host_connection.specs.declared.stops.Stop.{Stop}
use Rattle.host_connection.specs.declared.stops.Stop.TheVariants as stop
use Rattle.host_replies.specs.Replies.{Answer, closes, refused_answer, sent_for, sent_text}

-- the bytes of a stream that are left, where they are known
abbrev pub Stream : Type 0
Stream = Option (List ℕ)

-- how many bytes the body of a request has at most, by its method and its target
abbrev pub limit_of : RequestParts → ℕ
limit_of parts = body_limit parts.method parts.target

-- what a service, which may be a host, answers a request of these parts and this body, and what it is then
abbrev pub Answering : Type 0 → Type 1
Answering H = H → RequestParts → List ℕ → Answer → H → Type 0

-- ---- one exchange

-- a request is taken from the stream: a head that says these parts, and the body that it announces
pub record TakesRequest (old new : Stream) (parts : RequestParts) (body : List ℕ) : Type 0 where
  pub rest : Stream
  pub head : ServesHead old rest parts
  pub announced : AnnouncesBody parts.fields (limit_of parts) (length body)
  pub taken : Consumes rest new body

-- what is sent between a head of these parts and its body: the interim reply, where the client may wait for it
abbrev pub IsInterim : RequestParts → List ℕ → Type 0
IsInterim parts text = (ExpectsContinue parts × (text ≡ continue_text)) ⊎ ((¬ (ExpectsContinue parts)) × (text ≡ []))

-- a request is taken, and sent are its interim reply, if its client may wait for one, and its reply; the connection ends after it or not
pub record IsAnswered {H : Type 0} (answers : Answering H) (host : H) (is_last close : Bool) (old : Stream) (sent : List ℕ) (next : H) (new : Stream) : Type 0 where
  pub parts : RequestParts
  pub body : List ℕ
  pub request : TakesRequest old new parts body
  pub interim : List ℕ
  pub is_interim : IsInterim parts interim
  pub closing : closes parts is_last ≡ close
  pub answer : Answer
  pub is_answer : answers host parts body answer next
  pub sent_is : sent ≡ interim ++ sent_for close parts.method answer

-- a head is there that announces a body of this size, which is read once this was sent; the rest of the stream is behind the head
pub record IsInvited (old rest : Stream) (size : ℕ) (sent : List ℕ) : Type 0 where
  pub parts : RequestParts
  pub head : ServesHead old rest parts
  pub announced : AnnouncesBody parts.fields (limit_of parts) size
  pub is_interim : IsInterim parts sent

-- no head that is served can be read, which is told, and the reply has its body, since the method is not known
abbrev pub IsHeadRefused : Stream → List ℕ → Type 0
IsHeadRefused old sent =
    ((new : Stream) × RefusesLargeHead old new × (sent ≡ sent_text true false (refused_answer (Head HeadTooLarge))))
    ⊎ ((new : Stream) × (text : List ℕ) × TakesHead old new text × IsBadHead text
    × (sent ≡ sent_text true false (refused_answer (Head BadHead))))

-- what is told of a fault of the body's length
abbrev pub refusal_of : LengthFault → HeadRefusal
refusal_of fault_of.CodingRefused = CodingRefused
refusal_of fault_of.LengthBad = LengthBad
refusal_of fault_of.BodyTooLarge = BodyTooLarge

-- the head announces no body that is read
pub record IsBodyRefused (old : Stream) (sent : List ℕ) : Type 0 where
  pub parts : RequestParts
  pub new : Stream
  pub head : ServesHead old new parts
  pub why : LengthFault
  pub none : IsBodyLength (Err why) parts.fields (limit_of parts)
  pub sent_is : sent ≡ sent_for true parts.method (refused_answer (Head (refusal_of why)))

-- there is no memory for the head that is there, and the reply has its body, since the method is not known
abbrev pub IsHeadWithoutMemory : Stream → List ℕ → Type 0
IsHeadWithoutMemory old sent =
    ((rest : Stream) × (parts : RequestParts) × ServesHead old rest parts) × (sent ≡ sent_text true false (refused_answer OutOfMemory))

-- there is no memory for the body that the head announces
pub record IsBodyWithoutMemory (old : Stream) (sent : List ℕ) : Type 0 where
  pub rest : Stream
  pub size : ℕ
  pub some : 0 < size
  pub interim : List ℕ
  pub invited : IsInvited old rest size interim
  pub sent_is : sent ≡ interim ++ sent_for true invited.parts.method (refused_answer OutOfMemory)

-- the request is not read whole, and this is sent
abbrev pub IsNotRead : Stream → List ℕ → Type 0
IsNotRead old sent = IsHeadRefused old sent ⊎ IsBodyRefused old sent ⊎ IsHeadWithoutMemory old sent ⊎ IsBodyWithoutMemory old sent

-- ---- where the stream ends before the next whole request

-- the stream ends before the body that its head announces is whole, and this was sent for it
pub record IsBodyCut (old : Stream) (sent : List ℕ) : Type 0 where
  pub rest : Stream
  pub size : ℕ
  pub invited : IsInvited old rest size sent
  pub short : IfSome rest (λ left. length left < size)

-- the stream ends before the next whole request, and this was sent since: in its head, and nothing, or in its body
abbrev pub IsCut : Stream → List ℕ → Type 0
IsCut old sent = (IfSome old CutShort × (sent ≡ [])) ⊎ IsBodyCut old sent

-- ---- where a read or a write failed

-- this may be sent for a request before its body is read: nothing, or all that comes before its body
abbrev pub IsBegun : Stream → List ℕ → Type 0
IsBegun old sent = (sent ≡ []) ⊎ ((rest : Stream) × (size : ℕ) × IsInvited old rest size sent)

-- a request is answered, and of what is sent for it the first part is sent, and all that comes before its body
abbrev pub IsReplyCut : {H : Type 0} → Answering H → H → Bool → Stream → (sent rest : List ℕ) → H → Type 0
IsReplyCut answers host is_last old sent rest next =
    (new : Stream) × (close : Bool) × (answered : IsAnswered answers host is_last close old (sent ++ rest) next new)
    × ((more : List ℕ) × (sent ≡ answered.interim ++ more))

-- A front of what is sent for a request was sent, and some of it was not. What the request did remains where its reply was cut;
-- where it isn't read, or its body wasn't yet, it does nothing.
pub record IsFrontSent {H : Type 0} (answers : Answering H) (host : H) (is_last : Bool) (old : Stream) (sent : List ℕ) (next : H) : Type 0 where
  pub rest : List ℕ
  pub some : 0 < length rest
  pub whole : IsReplyCut answers host is_last old sent rest next ⊎ ((IsNotRead old (sent ++ rest) ⊎ IsBegun old (sent ++ rest)) × (next ≡ host))

-- ---- a whole connection

-- the exchange of this number is the last that is answered
abbrev pub is_last_at : ℕ → Bool
is_last_at n = n == 100

-- these were sent, each for a request after which the connection goes on, the first of them for that of number n
abbrev pub AreServed : {H : Type 0} → Answering H → ℕ → H → Stream → List (List ℕ) → H → Stream → Type 0
AreServed answers n host old [] next new = (next ≡ host) × (new ≡ old)
AreServed {H = H} answers n host old (sent ∷ more) next new =
    (mid : H) × (left : Stream) × IsAnswered answers host (is_last_at n) false old sent mid left
    × AreServed answers (n + 1) mid left more next new

-- how a connection ended that had come to the request of number n: what was sent since, and what the host has
abbrev pub Ends : {H : Type 0} → Answering H → (read_fails write_fails : Type 0) → Result (Unit {0}) ConnectionFault → ℕ → H → Stream → List ℕ → H → Type 0
Ends answers read_fails write_fails (Ok done) n host old sent next =
    (IsCut old sent × (next ≡ host)) ⊎ ((new : Stream) × IsAnswered answers host (is_last_at n) true old sent next new)
    ⊎ (IsNotRead old sent × (next ≡ host))
Ends answers read_fails write_fails (Err fault.InputFault) n host old sent next = read_fails × IsBegun old sent × (next ≡ host)
Ends answers read_fails write_fails (Err fault.OutputFault) n host old sent next =
    write_fails × IsFrontSent answers host (is_last_at n) old sent next
Ends answers read_fails write_fails (Err fault.OutOfMemory) n host old sent next = (n ≡ 1) × (sent ≡ []) × (next ≡ host)

-- What a connection does: it sends what the requests of its stream are answered, each over what the host has by then,
-- up to the first after which it ends. It ends earlier only where the stream does, where a read or a write fails, or
-- where there is no memory to begin.
pub record Serves {H : Type 0} (answers : Answering H) (read_fails write_fails : Type 0) (result : Result (Unit {0}) ConnectionFault)
    (host next : H) (stream held new_held : Stream) : Type 0 where
  pub replies : List (List ℕ)
  pub mid : H
  pub left : Stream
  pub served : AreServed answers 1 host stream replies mid left
  pub sent : List ℕ
  pub ends : Ends answers read_fails write_fails result (length replies + 1) mid left sent next
  pub written : Appends held new_held (concat replies ++ sent)

-- ---- the parts of a turn: why no request is read

-- why a stream gives no head
abbrev pub HeadStops : (read_fails : Type 0) → Stream → Stop → Type 0
HeadStops read_fails old stop.Ended = IfSome old CutShort
HeadStops read_fails old stop.ReadFault = read_fails
HeadStops read_fails old stop.WriteFault = ⊥
HeadStops read_fails old (stop.Refused why head_only) = IsHeadRefused old (sent_text true head_only (refused_answer (Head why)))
HeadStops read_fails old (stop.OutOfMemory head_only) = IsHeadWithoutMemory old (sent_text true head_only (refused_answer OutOfMemory))

-- no body of a head of these parts is read, for this reason, which is told without a body where the method asks for that
abbrev pub RefusesBody : RequestParts → HeadRefusal → Bool → Type 0
RefusesBody parts why head_only =
    (head_only ≡ bytes_eq parts.method (codes "HEAD"))
    × ((fault : LengthFault) × (why ≡ refusal_of fault) × IsBodyLength (Err fault) parts.fields (limit_of parts))

-- how long the body is that is read, or why none is
abbrev pub Announced : RequestParts → Result ℕ Stop → Type 0
Announced parts (Ok size) = AnnouncesBody parts.fields (limit_of parts) size
Announced parts (Err stop.Ended) = ⊥
Announced parts (Err stop.ReadFault) = ⊥
Announced parts (Err stop.WriteFault) = ⊥
Announced parts (Err (stop.Refused why head_only)) = RefusesBody parts why head_only
Announced parts (Err (stop.OutOfMemory head_only)) = ⊥

-- a request is taken, which is the last or not, and this was sent before its body
abbrev pub TakesNext : Bool → Request → Stream → Stream → List ℕ → Type 0
TakesNext is_last request old new sent =
    TakesRequest old new request.head request.body.items × IsInterim request.head sent × (request.is_last ≡ is_last)

-- why it gives no request, and what was sent
abbrev pub Stops : (read_fails write_fails : Type 0) → Stream → List ℕ → Stop → Type 0
Stops read_fails write_fails old sent stop.Ended = IsCut old sent
Stops read_fails write_fails old sent stop.ReadFault = read_fails × IsBegun old sent
Stops read_fails write_fails old sent stop.WriteFault = write_fails × ((rest : List ℕ) × (0 < length rest) × IsBegun old (sent ++ rest))
Stops read_fails write_fails old sent (stop.Refused why head_only) = IsNotRead old (sent ++ sent_text true head_only (refused_answer (Head why)))
Stops read_fails write_fails old sent (stop.OutOfMemory head_only) = IsNotRead old (sent ++ sent_text true head_only (refused_answer OutOfMemory))

-- ---- the reply to a request

-- the reply to a request is this
pub record IsSent {H : Type 0} (answers : Answering H) (close : Bool) (host : H) (parts : RequestParts) (body sent : List ℕ) (next : H) : Type 0 where
  pub answer : Answer
  pub is_answer : answers host parts body answer next
  pub sent_is : sent ≡ sent_for close parts.method answer
