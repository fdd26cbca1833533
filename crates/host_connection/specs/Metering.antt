-- How many bytes a step reads and writes.
use Rattle.std.specs.Prelude.{◌≡◌, ℕ, ◌+◌, List, length}
use Rattle.http_wire.specs.Timing.{Event, Got, AtEnd, ReadFails, Put, WriteFails, all_got, all_put}

-- how many bytes an event reads
abbrev pub read_by : Event → ℕ
read_by (Got bytes) = length bytes
read_by AtEnd = 0
read_by ReadFails = 0
read_by (Put bytes) = 0
read_by WriteFails = 0

-- and how many it writes
abbrev pub written_by : Event → ℕ
written_by (Got bytes) = 0
written_by AtEnd = 0
written_by ReadFails = 0
written_by (Put bytes) = length bytes
written_by WriteFails = 0

-- how many bytes events move together
abbrev pub moved : List Event → ℕ
moved events = length (all_got events) + length (all_put events)

-- an event on a stream, of which so many bytes may be read and written before it, and so many after it
abbrev pub Meters : {S : Type 0} → (saw : S → Event → S → Type 0) → (old : S) → (reads writes : ℕ) → Event → (new : S) → (new_reads new_writes : ℕ) → Type 0
Meters saw old reads writes event new new_reads new_writes =
    saw old event new × (new_reads + read_by event ≡ reads) × (new_writes + written_by event ≡ writes)
