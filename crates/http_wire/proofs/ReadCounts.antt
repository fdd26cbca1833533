-- How many reads there are, where each comes only while bytes are missing.
use Rattle.std.proofs.Common.{ℕ, ◌+◌, ◌-◌, ◌<◌, ◌≤◌, List, [], ◌∷◌, ◌++◌, length, length-append, arith}
use Rattle.http_wire.specs.HeadText.{head_limit}
use Rattle.http_wire.specs.Timing.{Event, Got, AtEnd, ReadFails, Put, WriteFails, all_got, all_put, count_reads, GoesOn, Timely}
use Rattle.http_wire.specs.Wires.{AwaitsHead, AwaitsBody}

-- each read before another gave a byte at least
reads_gave : (may : List ℕ → List ℕ → Type 0) (events : List Event) → Timely may events → GoesOn events → count_reads events ≤ length (all_got events)
reads_gave may [] timely on = omega arith
reads_gave may (Got bytes ∷ past) timely on =
    let before = reads_gave may past timely.2 timely.0 in
    let some : 0 < length bytes = timely.1.0 in
    omega (arith, length-append (all_got past) bytes)
reads_gave may (AtEnd ∷ past) timely on = absurd on
reads_gave may (ReadFails ∷ past) timely on = absurd on
reads_gave may (Put bytes ∷ past) timely on = reads_gave may past timely.2 timely.0
reads_gave may (WriteFails ∷ past) timely on = absurd on

-- a read comes only where fewer bytes than these are there
abbrev IsShort : (may : List ℕ → List ℕ → Type 0) → (buffer : List ℕ) → (size : ℕ) → Type 0
IsShort may buffer size = (got put : List ℕ) → may got put → length (buffer ++ got) < size

one_more : (may : List ℕ → List ℕ → Type 0) (buffer : List ℕ) (size : ℕ) (past : List Event) → IsShort may buffer size
    → may (all_got past) (all_put past) → Timely may past → GoesOn past → count_reads past + 1 ≤ size - length buffer
one_more may buffer size past short allowed timely on =
    let before = reads_gave may past timely on in
    let fewer = short (all_got past) (all_put past) allowed in
    omega (arith, length-append buffer (all_got past))

reads_are_few : (may : List ℕ → List ℕ → Type 0) (buffer : List ℕ) (size : ℕ) (events : List Event) → IsShort may buffer size
    → Timely may events → count_reads events ≤ size - length buffer
reads_are_few may buffer size [] short timely = omega arith
reads_are_few may buffer size (Got bytes ∷ past) short timely = one_more may buffer size past short timely.1.1 timely.2 timely.0
reads_are_few may buffer size (AtEnd ∷ past) short timely = one_more may buffer size past short timely.1 timely.2 timely.0
reads_are_few may buffer size (ReadFails ∷ past) short timely = one_more may buffer size past short timely.1 timely.2 timely.0
reads_are_few may buffer size (Put bytes ∷ past) short timely = reads_are_few may buffer size past short timely.2
reads_are_few may buffer size (WriteFails ∷ past) short timely = reads_are_few may buffer size past short timely.2

pub head_reads : (buffer : List ℕ) (events : List Event) → Timely (AwaitsHead buffer) events → count_reads events ≤ head_limit - length buffer
head_reads buffer events = reads_are_few (AwaitsHead buffer) buffer head_limit events (λ got put awaits. awaits.0.short)

pub body_reads : (buffer : List ℕ) (size : ℕ) (events : List Event) → Timely (AwaitsBody buffer size) events → count_reads events ≤ size - length buffer
body_reads buffer size events = reads_are_few (AwaitsBody buffer size) buffer size events (λ got put awaits. awaits.0)
