-- What went over a socket.
use Rattle.std.specs.Prelude.{◌≡◌, ℕ, zero, suc, List, [], ◌∷◌, ⊤, None, refl}
use Rattle.http_wire.specs.Timing.{Event, Got, AtEnd, Moves, Put, ReadFails, WriteFails}

-- ---- how events are noted in numbers, since a tag has no other data

-- the bytes of an event, each greater by four, before these numbers
abbrev pub bytes_before : List ℕ → (rest : List ℕ) → List ℕ
bytes_before [] rest = rest
bytes_before (b ∷ bytes) rest = suc (suc (suc (suc b))) ∷ bytes_before bytes rest

-- an event is noted before those that came before it: the numbers below four begin one
abbrev pub noted_read : (bytes : List ℕ) → (past : List ℕ) → List ℕ
noted_read bytes past = bytes_before bytes (0 ∷ past)

abbrev pub noted_write : (bytes : List ℕ) → (past : List ℕ) → List ℕ
noted_write bytes past = bytes_before bytes (1 ∷ past)

abbrev pub noted_read_failure : (past : List ℕ) → List ℕ
noted_read_failure past = 2 ∷ past

abbrev pub noted_write_failure : (past : List ℕ) → List ℕ
noted_write_failure past = 3 ∷ past

-- the latest event has this byte too, before its others
abbrev pub with_byte : ℕ → List Event → List Event
with_byte b (AtEnd ∷ past) = Got (b ∷ []) ∷ past
with_byte b (Got bytes ∷ past) = Got (b ∷ bytes) ∷ past
with_byte b (Put bytes ∷ past) = Put (b ∷ bytes) ∷ past
with_byte b past = past

-- one number more
abbrev pub with_number : ℕ → List Event → List Event
with_number zero past = AtEnd ∷ past
with_number (suc zero) past = Put [] ∷ past
with_number (suc (suc zero)) past = ReadFails ∷ past
with_number (suc (suc (suc zero))) past = WriteFails ∷ past
with_number (suc (suc (suc (suc b)))) past = with_byte b past

-- the events that were noted, the latest first
abbrev pub events_of : List ℕ → List Event
events_of [] = []
events_of (n ∷ numbers) = with_number n (events_of numbers)

-- ---- what a socket tells

-- an event is noted after those before it
abbrev pub notes : List Event → Event → List Event → Type 0
notes old event new = new ≡ event ∷ old

-- what a socket gives and takes isn't known beforehand
pub moves : (event : Event) → Moves ⊤ ⊤ event None None None None
moves (Got bytes) = (tt, refl)
moves AtEnd = (tt, tt, refl)
moves ReadFails = (tt, tt, refl)
moves (Put bytes) = (refl, tt)
moves WriteFails = (tt, refl, tt)
