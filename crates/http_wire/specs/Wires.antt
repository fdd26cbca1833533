-- What the calls on a wire take from its stream, and when they read it.
use Rattle.std.specs.Prelude.{◌≡◌, ℕ, ◌<◌, ◌≤◌, ◌⊎◌, List, [], ◌++◌, Option, Result, Ok, Err, IfSome, length, take, vec_len}
use Rattle.std.specs.Io.KnownBytes.{Consumes, Keeps, IsAtEnd, prepend_known}
use Rattle.std.specs.declared.vec.Vec.{Vec}
use Rattle.httparse.specs.Spans.{RequestExceeds}
use Rattle.http_wire.specs.declared.faults.BodyFault.{BodyFault}
use Rattle.http_wire.specs.declared.faults.BodyFault.TheVariants as body_fault
use Rattle.http_wire.specs.declared.faults.HeadFault.{HeadFault}
use Rattle.http_wire.specs.declared.faults.HeadFault.TheVariants as head_fault
use Rattle.http_wire.specs.HeadText.{IsHeadText, CutShort, Overlong, head_limit}
use Rattle.http_wire.specs.Requests.{RequestParts, Says, IsBadHead, field_limit}
use Rattle.http_wire.specs.Timing.{Event, AtEnd, ReadFails, all_got, all_put, IsLatest, GoesOn, Gives}

-- the text is a head of at most `head_limit` bytes at the front of what was left, and is gone
pub record TakesHead (old new : Option (List ℕ)) (text : List ℕ) : Type 0 where
  pub taken : Consumes old new text
  pub head : IsHeadText text
  pub short : length text ≤ head_limit

-- the head at the front of what was left says these parts, and is gone
abbrev pub ServesHead : Option (List ℕ) → Option (List ℕ) → RequestParts → Type 0
ServesHead old new parts = (text : List ℕ) × TakesHead old new text × Says text parts

-- a whole head, which is served, is at the front of what is left
abbrev pub HasWholeHead : Option (List ℕ) → Type 0
HasWholeHead left = (new : Option (List ℕ)) × (parts : RequestParts) × ServesHead left new parts

-- the head at the front of what was left has more fields than fit, and is gone; or it is too long, and nothing is gone
abbrev pub RefusesLargeHead : Option (List ℕ) → Option (List ℕ) → Type 0
RefusesLargeHead old new =
    ((text : List ℕ) × TakesHead old new text × RequestExceeds field_limit text) ⊎ (IfSome old Overlong × Keeps old new)

-- ---- what is read, and when

-- no whole head is in the buffer and the bytes that came, these are fewer than the limit, and nothing was written since
abbrev pub AwaitsHead : (buffer got put : List ℕ) → Type 0
AwaitsHead buffer got put = CutShort (buffer ++ got) × (put ≡ [])

-- the buffer and the bytes that came are fewer than the body, and nothing was written since
abbrev pub AwaitsBody : (buffer : List ℕ) → (size : ℕ) → (got put : List ℕ) → Type 0
AwaitsBody buffer size got put = (length (buffer ++ got) < size) × (put ≡ [])

-- what each answer to the reading of a head says of the stream: a head that is served or bad is gone from it, and so is one that has too many
-- fields; any other answer leaves the stream as it was
abbrev pub HeadIsOf : Result RequestParts HeadFault → (old new : Option (List ℕ)) → Type 0
HeadIsOf (Ok parts) old new = ServesHead old new parts
HeadIsOf (Err head_fault.Ended) old new = IfSome old CutShort × Keeps old new
HeadIsOf (Err head_fault.ReadFault) old new = Keeps old new
HeadIsOf (Err head_fault.HeadTooLarge) old new = RefusesLargeHead old new
HeadIsOf (Err head_fault.BadHead) old new = (text : List ℕ) × TakesHead old new text × IsBadHead text
HeadIsOf (Err head_fault.OutOfMemory) old new = HasWholeHead old × Keeps old new

-- how the reads end with each answer
abbrev pub HeadEnds : Result RequestParts HeadFault → List Event → Type 0
HeadEnds (Ok parts) events = GoesOn events
HeadEnds (Err head_fault.Ended) events = IsLatest AtEnd events
HeadEnds (Err head_fault.ReadFault) events = IsLatest ReadFails events
HeadEnds (Err head_fault.HeadTooLarge) events = GoesOn events
HeadEnds (Err head_fault.BadHead) events = GoesOn events
HeadEnds (Err head_fault.OutOfMemory) events = GoesOn events

-- nothing was written, and the answer is that of each stream of which these reads are the next, the buffer before it
pub record ReadsHead (result : Result RequestParts HeadFault) (buffer new_buffer : List ℕ) (events : List Event) : Type 0 where
  pub nothing_put : all_put events ≡ []
  pub ends : HeadEnds result events
  pub of_stream : (left new_left : Option (List ℕ)) → Gives events left new_left
      → HeadIsOf result (prepend_known buffer left) (prepend_known new_buffer new_left)

-- a part of a body was taken, and never the whole
abbrev pub TakesPart : ℕ → (old new : Option (List ℕ)) → Type 0
TakesPart size old new = (bytes : List ℕ) × Consumes old new bytes × (length bytes < size)

-- what each answer to the reading of a body says of the stream
abbrev pub BodyIsOf : {A : Type 0} → Result (Vec ℕ A) BodyFault → (size : ℕ) → (old new : Option (List ℕ)) → Type 0
BodyIsOf (Ok body) size old new = (vec_len body ≡ size) × Consumes old new body.items
BodyIsOf (Err body_fault.Ended) size old new =
    TakesPart size old new × (IsAtEnd new × IfSome old (λ left. length left < size))
BodyIsOf (Err body_fault.ReadFault) size old new = TakesPart size old new
BodyIsOf (Err body_fault.OutOfMemory) size old new = TakesPart size old new

-- how the reads end with each answer
abbrev pub BodyEnds : {B : Type 0} → Result B BodyFault → List Event → Type 0
BodyEnds (Ok body) events = GoesOn events
BodyEnds (Err body_fault.Ended) events = IsLatest AtEnd events
BodyEnds (Err body_fault.ReadFault) events = IsLatest ReadFails events
BodyEnds (Err body_fault.OutOfMemory) events = GoesOn events

-- where the stream ended or a read failed, nothing is left in the buffer, also of what was there before
abbrev pub BodyLeaves : {B : Type 0} → Result B BodyFault → (new_buffer : List ℕ) → Type 0
BodyLeaves (Ok body) new_buffer = Unit {0}
BodyLeaves (Err body_fault.Ended) new_buffer = new_buffer ≡ []
BodyLeaves (Err body_fault.ReadFault) new_buffer = new_buffer ≡ []
BodyLeaves (Err body_fault.OutOfMemory) new_buffer = Unit {0}

-- nothing was written, the reads end and the buffer is left as the answer to a body of this size says, and it is that of each stream of which
-- these reads are the next, the buffer before it
pub record ReadsBody {A : Type 0} (result : Result (Vec ℕ A) BodyFault) (size : ℕ) (buffer new_buffer : List ℕ) (events : List Event) : Type 0 where
  pub nothing_put : all_put events ≡ []
  pub ends : BodyEnds result events
  pub leaves : BodyLeaves result new_buffer
  pub of_stream : (left new_left : Option (List ℕ)) → Gives events left new_left
      → BodyIsOf result size (prepend_known buffer left) (prepend_known new_buffer new_left)

-- ---- what private functions say

-- where a head ends in the buffer, or why it has no end there
abbrev pub HeadFound : Result ℕ HeadFault → (bytes : List ℕ) → List Event → Type 0
HeadFound (Ok count) bytes events = GoesOn events × (count ≤ length bytes) × IsHeadText (take count bytes)
HeadFound (Err head_fault.Ended) bytes events = IsLatest AtEnd events
    × ((stream known : Option (List ℕ)) → Keeps stream (prepend_known bytes known) → IsAtEnd known → IfSome stream CutShort)
HeadFound (Err head_fault.ReadFault) bytes events = IsLatest ReadFails events
HeadFound (Err head_fault.HeadTooLarge) bytes events = GoesOn events
    × ((stream known : Option (List ℕ)) → Keeps stream (prepend_known bytes known) → IfSome stream Overlong)
HeadFound (Err head_fault.BadHead) bytes events = ⊥
HeadFound (Err head_fault.OutOfMemory) bytes events = ⊥

-- what came is after what was in the buffer, and nothing was written
pub record FindsHead (result : Result ℕ HeadFault) (buffer new_buffer : List ℕ) (events : List Event) : Type 0 where
  pub nothing_put : all_put events ≡ []
  pub grown : new_buffer ≡ buffer ++ all_got events
  pub found : HeadFound result new_buffer events
