-- Texts that are gathered and written, piece by piece.
use Rattle.std.specs.Prelude.{◌≡◌, ℕ, ◌+◌, ◌-◌, ◌^◌, ◌<◌, ◌≤◌, min, List, [], ◌++◌, drop, length, Option, Some, None, Result, Ok, Err, OnOk}
use Rattle.http_wire.specs.declared.halts.Halt.{Halt}
use Rattle.http_wire.specs.declared.halts.Halt.TheVariants.{Failed, WouldWait}
use Rattle.http_wire.specs.declared.sinks.WriteFailed.{WriteFailed}
use Rattle.http_wire.specs.Halting.{WritesFrom}
use Rattle.http_wire.specs.Sending.{Sent}
use Rattle.http_wire.specs.Timing.{Event, NoRead, Ran, WriteFails, all_put, IsLatest, GoesOn}

-- What is gathered of a text and not yet written, and how many bytes of the text were written before it, a count that stops at the largest
-- number of 64 bits. Of what is put next so many bytes were taken before.
pub record Gathered : Type 0 where
  pub rest : List ℕ
  pub sent : ℕ
  pub passed : ℕ

-- nothing of a text
abbrev pub nothing : Gathered
nothing = record { rest = []; sent = 0; passed = 0 }

-- of what is put next, which is the text from its front on, all was taken before that was gathered or written
abbrev pub from_front : Gathered → Gathered
from_front out = record { rest = out.rest; sent = out.sent; passed = min (out.sent + length out.rest) (2 ^ 64 - 1) }

-- the text was written up to this place in it, what is gathered comes next, and more may be left
pub record IsAmid (text : List ℕ) (at : ℕ) (out : Gathered) : Type 0 where
  pub within : at ≤ length text
  pub count : out.sent ≡ min at (2 ^ 64 - 1)
  pub left : List ℕ
  pub behind : drop at text ≡ out.rest ++ left

-- the count is below its largest number, also with what is gathered: so it is exact
abbrev pub IsCounted : Gathered → Type 0
IsCounted out = out.sent + length out.rest < 2 ^ 64 - 1

-- the text goes on from one place in it to another
abbrev pub GoesOnFrom : Result (Unit {0}) (Halt WriteFailed) → (text : List ℕ) → (at : ℕ) → Gathered → List Event → Type 0
GoesOnFrom result text at out events = (new_at : ℕ) × WritesFrom result text at new_at events × IsAmid text new_at out

-- a call goes on with the text, wherever in it the calls before left it, and reads nothing
abbrev pub SendsOn : {S : Type 0} → (saw : S → Event → S → Type 0) → (now new : S) → Result (Unit {0}) (Halt WriteFailed) → (text : List ℕ)
    → (out new_out : Gathered) → Type 0
SendsOn saw now new result text out new_out = (at : ℕ) → IsAmid text at out → Ran saw NoRead now new (GoesOnFrom result text at new_out)

-- ---- what private functions say

-- so many bytes of the text are written, and the rest is not
abbrev pub Written : (written text : List ℕ) → (count : ℕ) → (rest : List ℕ) → Type 0
Written written text count rest = Sent (Some []) (Some written) text count rest

-- the same after more writes: of the text this rest is left, or a write failed or would have to wait, and more may be left
abbrev pub WrittenNow : Result (Unit {0}) (Halt WriteFailed) → (written text : List ℕ) → (count : ℕ) → (rest : List ℕ) → Type 0
WrittenNow (Ok done) written text count rest = Written written text count rest
WrittenNow (Err why) written text count rest = (left : List ℕ) × (0 < length (rest ++ left)) × Written written text count (rest ++ left)

-- how the writes end: another event may follow, or the last of them failed
abbrev pub WritesEnd : Result (Unit {0}) (Halt WriteFailed) → List Event → Type 0
WritesEnd (Ok done) events = GoesOn events
WritesEnd (Err (Failed why)) events = IsLatest WriteFails events
WritesEnd (Err WouldWait) events = GoesOn events

-- writes that follow others lead from one rest of a text to another, of that text with more at its end
pub record WritesOn (result : Result (Unit {0}) (Halt WriteFailed)) (more : List ℕ) (count new_count : ℕ) (rest new_rest : List ℕ) (events : List Event)
    : Type 0 where
  pub ends : WritesEnd result events
  pub text : (written text : List ℕ) → Written written text count rest → WrittenNow result (written ++ all_put events) (text ++ more) new_count new_rest

-- the same of what is gathered before and after them, where what was taken before is passed over
pub record Puts (result : Result (Unit {0}) (Halt WriteFailed)) (more : List ℕ) (old new : Gathered) (events : List Event) : Type 0 where
  pub writes : WritesOn result (drop old.passed more) old.sent new.sent old.rest new.rest events
  pub passed : OnOk result (new.passed ≡ old.passed - length more)
