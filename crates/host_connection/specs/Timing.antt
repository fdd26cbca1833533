-- When a connection reads and writes.
use Rattle.std.specs.Prelude.{◌≡◌, ℕ, ◌<◌, List, [], ◌++◌, length, Some, Result, Ok, Err, MatchResult}
use Rattle.std.specs.Io.KnownBytes.{prepend_known}
use Rattle.std.specs.List.{concat}
use Rattle.http_wire.specs.Requests.{RequestParts}
use Rattle.http_wire.specs.Timing.{Event, AtEnd, ReadFails, WriteFails, all_put, IsLatest, GoesOn, Gives}
use Rattle.http_wire.specs.Wires.{ServesHead}
use Rattle.host_connection.specs.declared.connections.ConnectionFault.{ConnectionFault}
use Rattle.host_connection.specs.declared.connections.ConnectionFault.TheVariants as fault
use Rattle.host_connection.specs.declared.stops.Stop.{Stop}
use Rattle.host_connection.specs.declared.stops.Stop.TheVariants as stop
use Rattle.host_connection.specs.Serving.{Answering, Stream, AreServed, IsCut, Serves, IsInterim, HeadStops}

-- A connection may read: the bytes that came are whole requests after each of which it goes on, and then no whole one and no
-- head that is refused; all that was written is what is sent for these, and what comes before the body of one that is cut in
-- it. A connection whose stream ended here would have written just that.
pub record IsCaughtUp {H : Type 0} (answers : Answering H) (host : H) (got put : List ℕ) : Type 0 where
  pub replies : List (List ℕ)
  pub next : H
  pub rest : List ℕ
  pub served : AreServed answers 1 host (Some got) replies next (Some rest)
  pub sent : List ℕ
  pub cut : IsCut (Some rest) sent
  pub put_is : put ≡ concat replies ++ sent

-- What a connection did by these events, over each stream of which its reads are the next: where it says that a read or
-- a write failed, that was the last event, and where it says that there was no memory, there was none.
pub record Connects {H : Type 0} (answers : Answering H) (result : Result (Unit {0}) ConnectionFault) (host next : H) (events : List Event) : Type 0 where
  -- where there was no memory to begin, nothing was read or written
  pub idle : result ≡ Err fault.OutOfMemory → events ≡ []
  pub serves : (left new_left : Stream) → Gives events left new_left
      → Serves answers (IsLatest ReadFails events) (IsLatest WriteFails events) result host next left (Some []) (Some (all_put events))

-- ---- the parts of a turn

-- the bytes that came hold no whole request and no head that is refused, and all that was written since is what comes before the body
abbrev pub AwaitsRequest : (buffer got put : List ℕ) → Type 0
AwaitsRequest buffer got put = IsCut (Some (buffer ++ got)) put

-- what is to be sent before the body of a head of these parts was written, or a front of it, since a write failed
abbrev pub InvitesAs : Result (Unit {0}) Stop → RequestParts → List Event → Type 0
InvitesAs (Ok done) parts events = GoesOn events × IsInterim parts (all_put events)
InvitesAs (Err stop.Ended) parts events = ⊥
InvitesAs (Err stop.ReadFault) parts events = ⊥
InvitesAs (Err stop.WriteFault) parts events = IsLatest WriteFails events
    × ((rest : List ℕ) × (0 < length rest) × IsInterim parts (all_put events ++ rest))
InvitesAs (Err (stop.Refused why head_only)) parts events = ⊥
InvitesAs (Err (stop.OutOfMemory head_only)) parts events = ⊥

-- how the events end, where something was read or why it was not
abbrev pub ReadEnds : {A : Type 0} → Result A Stop → List Event → Type 0
ReadEnds (Ok value) events = GoesOn events
ReadEnds (Err stop.Ended) events = IsLatest AtEnd events
ReadEnds (Err stop.ReadFault) events = IsLatest ReadFails events
ReadEnds (Err stop.WriteFault) events = IsLatest WriteFails events
ReadEnds (Err (stop.Refused why head_only)) events = GoesOn events
ReadEnds (Err (stop.OutOfMemory head_only)) events = GoesOn events

-- nothing was written, and of each stream of which these reads are the next a head was taken, or it says why not
pub record ReadsHeadAs (result : Result RequestParts Stop) (buffer new_buffer : List ℕ) (events : List Event) : Type 0 where
  pub nothing_put : all_put events ≡ []
  pub ends : ReadEnds result events
  pub of_stream : (left new_left : Stream) → Gives events left new_left
      → MatchResult result (ServesHead (prepend_known buffer left) (prepend_known new_buffer new_left))
      (HeadStops (IsLatest ReadFails events) (prepend_known buffer left))

-- of each stream of which these reads are the next something was taken, or it says why not, and what was written
pub record ReadsAs {A : Type 0} (result : Result A Stop) (takes : A → Stream → Stream → List ℕ → Type 0)
    (stops : (read_fails write_fails : Type 0) → Stream → List ℕ → Stop → Type 0) (buffer new_buffer : List ℕ) (events : List Event) : Type 0 where
  pub ends : ReadEnds result events
  pub of_stream : (left new_left : Stream) → Gives events left new_left
      → MatchResult result (λ value. takes value (prepend_known buffer left) (prepend_known new_buffer new_left) (all_put events))
      (stops (IsLatest ReadFails events) (IsLatest WriteFails events) (prepend_known buffer left) (all_put events))
