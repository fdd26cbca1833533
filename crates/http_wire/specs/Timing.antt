-- When a stream of bytes in both directions is read and written: one event for each read and each write.
use Rattle.std.specs.Prelude.{◌≡◌, ℕ, ◌+◌, ◌<◌, List, [], ◌∷◌, ◌++◌, length, Option}
use Rattle.std.specs.Io.KnownBytes.{Consumes, Keeps, Appends, IsAtEnd}

-- a read gave these bytes, or the end, or failed; a write took these bytes, or failed
pub data Event : Type 0 where
  Got : (bytes : List ℕ) → Event
  AtEnd : Event
  ReadFails : Event
  Put : (bytes : List ℕ) → Event
  WriteFails : Event

-- the event of a read that gave these bytes: none come only at the end
abbrev pub read_of : List ℕ → Event
read_of [] = AtEnd
read_of (b ∷ bytes) = Got (b ∷ bytes)

-- A trail is a list of events, the latest first. All bytes that its reads gave, the earliest first.
abbrev pub all_got : List Event → List ℕ
all_got [] = []
all_got (Got bytes ∷ past) = all_got past ++ bytes
all_got (event ∷ past) = all_got past

-- all bytes that its writes took, the earliest first
abbrev pub all_put : List Event → List ℕ
all_put [] = []
all_put (Put bytes ∷ past) = all_put past ++ bytes
all_put (event ∷ past) = all_put past

-- how many of the events are reads
abbrev pub count_reads : List Event → ℕ
count_reads [] = 0
count_reads (Got bytes ∷ past) = count_reads past + 1
count_reads (AtEnd ∷ past) = count_reads past + 1
count_reads (ReadFails ∷ past) = count_reads past + 1
count_reads (Put bytes ∷ past) = count_reads past
count_reads (WriteFails ∷ past) = count_reads past

-- the latest event is this one
abbrev pub IsLatest : Event → List Event → Type 0
IsLatest event [] = ⊥
IsLatest event (latest ∷ past) = latest ≡ event

-- another event may follow: the latest is neither the end of the input nor a fault
abbrev pub GoesOn : List Event → Type 0
GoesOn [] = Unit {0}
GoesOn (Got bytes ∷ past) = Unit {0}
GoesOn (Put bytes ∷ past) = Unit {0}
GoesOn (event ∷ past) = ⊥

-- a read comes only where it may, after the bytes that were got and put before it, and a write at any time; one that
-- goes well moves a byte at least, but for a read that finds the end
abbrev pub IsAllowed : (may_read : List ℕ → List ℕ → Type 0) → Event → (got put : List ℕ) → Type 0
IsAllowed may_read (Got bytes) got put = (0 < length bytes) × may_read got put
IsAllowed may_read AtEnd got put = may_read got put
IsAllowed may_read ReadFails got put = may_read got put
IsAllowed may_read (Put bytes) got put = 0 < length bytes
IsAllowed may_read WriteFails got put = Unit {0}

-- each event was allowed after those before it, and nothing follows the end of the input or a fault
abbrev pub Timely : (may_read : List ℕ → List ℕ → Type 0) → List Event → Type 0
Timely may_read [] = Unit {0}
Timely may_read (event ∷ past) = GoesOn past × IsAllowed may_read event (all_got past) (all_put past) × Timely may_read past

-- these events lead from one state to another
abbrev pub Steps : {S : Type 0} → (saw : S → Event → S → Type 0) → S → List Event → S → Type 0
Steps saw old [] new = new ≡ old
Steps {S} saw old (event ∷ past) new = (mid : S) × Steps saw old past mid × saw mid event new

-- what an event does to the bytes that are left to be read and to those that were written, where they are known; a
-- fault comes only where there can be one
abbrev pub Moves : (read_fails write_fails : Type 0) → Event → (left held new_left new_held : Option (List ℕ)) → Type 0
Moves read_fails write_fails (Got bytes) left held new_left new_held = Consumes left new_left bytes × (new_held ≡ held)
Moves read_fails write_fails AtEnd left held new_left new_held = Consumes left new_left [] × IsAtEnd new_left × (new_held ≡ held)
Moves read_fails write_fails ReadFails left held new_left new_held = read_fails × Keeps left new_left × (new_held ≡ held)
Moves read_fails write_fails (Put bytes) left held new_left new_held = (new_left ≡ left) × Appends held new_held bytes
Moves read_fails write_fails WriteFails left held new_left new_held = write_fails × (new_left ≡ left) × Keeps held new_held

-- What a call read and wrote, and when: its trail leads from one state to another, each read came where it may, and
-- the claim holds of the trail.
pub record Ran {S : Type 0} (saw : S → Event → S → Type 0) (may_read : List ℕ → List ℕ → Type 0) (old new : S)
    (claim : List Event → Type 0) : Type 0 where
  pub events : List Event
  pub steps : Steps saw old events new
  pub timely : Timely may_read events
  pub claimed : claim events

-- no read at all
abbrev pub NoRead : List ℕ → List ℕ → Type 0
NoRead got put = ⊥

-- a stream of which these reads are the next: they took its front, and where they came to an end, so did it
pub record Gives (events : List Event) (left new_left : Option (List ℕ)) : Type 0 where
  pub taken : Consumes left new_left (all_got events)
  pub end : IsLatest AtEnd events → IsAtEnd new_left
