-- What was noted is what is told.
use Rattle.std.proofs.Common.{◌≡◌, ◌∙◌, ℕ, List, [], ◌∷◌, ap, refl}
use Rattle.http_wire.specs.Timing.{Event, Put, read_of}
use Rattle.tcp_socket.specs.Trails.{events_of, noted_read, noted_write, with_byte}

-- a read with one byte more
read_more : (b : ℕ) (bytes : List ℕ) (past : List Event) → with_byte b (read_of bytes ∷ past) ≡ read_of (b ∷ bytes) ∷ past
read_more b [] past = refl
read_more b (c ∷ bytes) past = refl

-- a read
pub tells_read : (bytes past : List ℕ) → events_of (noted_read bytes past) ≡ read_of bytes ∷ events_of past
tells_read [] past = refl
tells_read (b ∷ bytes) past = ap (with_byte b) (tells_read bytes past) ∙ read_more b bytes (events_of past)

-- a write
pub tells_write : (bytes past : List ℕ) → events_of (noted_write bytes past) ≡ Put bytes ∷ events_of past
tells_write [] past = refl
tells_write (b ∷ bytes) past = ap (with_byte b) (tells_write bytes past)
