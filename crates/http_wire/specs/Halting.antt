-- Calls that may have to wait, and go on where they left off.
use Rattle.std.specs.Prelude.{◌≡◌, ℕ, ◌<◌, ◌≤◌, List, [], ◌++◌, length, take, Option, Some, None, Result, Ok, Err}
use Rattle.std.specs.declared.vec.Vec.{Vec}
use Rattle.http_wire.specs.declared.faults.BodyFault.{BodyFault}
use Rattle.http_wire.specs.declared.faults.HeadFault.{HeadFault}
use Rattle.http_wire.specs.declared.halts.Halt.{Halt}
use Rattle.http_wire.specs.declared.halts.Halt.TheVariants.{Failed, WouldWait}
use Rattle.http_wire.specs.declared.sinks.WriteFailed.{WriteFailed}
use Rattle.http_wire.specs.Requests.{RequestParts}
use Rattle.http_wire.specs.Timing.{Event, WriteFails, all_got, all_put, GoesOn, IsLatest}
use Rattle.http_wire.specs.Wires.{FindsHead, ReadsBody, ReadsHead}

-- a read or a write failed, which is this event; or it would have to wait, which is none: the stream is as it was
abbrev pub Halts : {S E : Type 0} → (saw : S → Event → S → Type 0) → (waits : S → Type 0) → Event → S → S → Halt E → Type 0
Halts saw waits event old new (Failed why) = saw old event new
Halts saw waits event old new WouldWait = waits new × (new ≡ old)

-- nothing was taken or written: all that came is behind what was there, and another event may follow
pub record KeepsOn (before now : List ℕ) (events : List Event) : Type 0 where
  pub nothing_put : all_put events ≡ []
  pub goes_on : GoesOn events
  pub grown : now ≡ before ++ all_got events

-- a head is read, or none for some reason, as by a call that never would have to wait; or a read would, and all that came is kept
abbrev pub TriesHead : Result RequestParts (Halt HeadFault) → (buffer new_buffer : List ℕ) → List Event → Type 0
TriesHead (Ok parts) buffer new_buffer events = ReadsHead (Ok parts) buffer new_buffer events
TriesHead (Err (Failed why)) buffer new_buffer events = ReadsHead (Err why) buffer new_buffer events
TriesHead (Err WouldWait) buffer new_buffer events = KeepsOn buffer new_buffer events

-- The same of a body of this size. The part of it that was there counts as what is before the buffer; where a read would have to wait, all
-- that came is behind that, in the part and in the buffer.
abbrev pub TriesBody : {A : Type 0} → Result (Unit {0}) (Halt BodyFault) → (size : ℕ) → (before : List ℕ) → (body : Vec ℕ A) → (new_buffer : List ℕ) → List Event → Type 0
TriesBody (Ok done) size before body new_buffer events = ReadsBody (Ok body) size before new_buffer events
TriesBody {A = A} (Err (Failed why)) size before body new_buffer events = ReadsBody {A = A} (Err why) size before new_buffer events
TriesBody (Err WouldWait) size before body new_buffer events = KeepsOn before (body.items ++ new_buffer) events

-- how writes of a text up to this place end: all of it is written; or a write failed, or would have to wait, and some is left
abbrev pub TextEnds : Result (Unit {0}) (Halt WriteFailed) → (text : List ℕ) → (at : ℕ) → List Event → Type 0
TextEnds (Ok done) text at events = GoesOn events × (at ≡ length text)
TextEnds (Err (Failed why)) text at events = IsLatest WriteFails events × (at < length text)
TextEnds (Err WouldWait) text at events = GoesOn events × (at < length text)

-- the text was written from one place in it on, up to another
pub record WritesFrom (result : Result (Unit {0}) (Halt WriteFailed)) (text : List ℕ) (at new_at : ℕ) (events : List Event) : Type 0 where
  pub within : new_at ≤ length text
  pub put : take at text ++ all_put events ≡ take new_at text
  pub ends : TextEnds result text new_at events

-- what is left of a stream that isn't known isn't known either
abbrev pub Together : (left new_left : Option (List ℕ)) → Type 0
Together None None = Unit {0}
Together None (Some bytes) = ⊥
Together (Some bytes) new_left = Unit {0}

-- ---- what private functions say

-- where a head ends in the buffer, or why it has no end there; or a read would have to wait
abbrev pub TriesToFind : Result ℕ (Halt HeadFault) → (buffer new_buffer : List ℕ) → List Event → Type 0
TriesToFind (Ok count) buffer new_buffer events = FindsHead (Ok count) buffer new_buffer events
TriesToFind (Err (Failed why)) buffer new_buffer events = FindsHead (Err why) buffer new_buffer events
TriesToFind (Err WouldWait) buffer new_buffer events = KeepsOn buffer new_buffer events
