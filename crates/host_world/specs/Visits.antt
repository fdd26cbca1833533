-- The reads of a visitor.
use Rattle.std.specs.Prelude.{◌≡◌, ℕ, ◌-◌, List, length, slice_get, Option, Some, None, is_some, Ok, if◌then◌else◌}
use Rattle.world_desk.specs.Desks.{change_at}
use Rattle.world_read.specs.Reads.{FileReading, IsNext, ReadState, wanted}

-- the read, if it waits for a chunk
abbrev pub waiting_of : Option ReadState → Option ReadState
waiting_of None = None
waiting_of (Some read) = if is_some (wanted read.content) then Some read else None

-- the read in hand: the last one, if it waits for a chunk
abbrev pub in_hand : List ReadState → Option ReadState
in_hand reads = waiting_of (slice_get reads (length reads - 1))

-- the last read goes on with this reading
abbrev pub with_reading : FileReading → List ReadState → List ReadState
with_reading reading reads = change_at (length reads - 1) (λ read. record read { content = Ok reading }) reads

-- what the reading of a read in hand is next, with what is taken; without a read in hand there is none
abbrev pub IsNextOf : Option ReadState → Option (List ℕ) → Option FileReading → Type 0
IsNextOf None taken next = next ≡ None
IsNextOf (Some read) taken next = IsNext read.request read.content taken next
