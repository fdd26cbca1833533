-- How much of a text was written.
use Rattle.std.specs.Prelude.{◌≡◌, ℕ, ◌-◌, ◌^◌, ◌<◌, min, List, [], ◌++◌, Option, Some, Result, Ok, Err, length}
use Rattle.std.specs.Io.KnownBytes.{Appends}
use Rattle.http_wire.specs.declared.faults.WriteFault.{WriteFault}
use Rattle.http_wire.specs.Timing.{Event, WriteFails, all_put, IsLatest, GoesOn}

-- since the sink held start, the front of the text was appended, rest is what was not, and count is the front's
-- length, which stops at the largest number of 64 bits
pub record Sent (start held : Option (List ℕ)) (text : List ℕ) (count : ℕ) (rest : List ℕ) : Type 0 where
  pub gone : List ℕ
  pub text_is : text ≡ gone ++ rest
  pub count_is : count ≡ min (length gone) (2 ^ 64 - 1)
  pub appended : Appends start held gone

-- the same, and some of the text is left
abbrev pub SentFront : Option (List ℕ) → Option (List ℕ) → List ℕ → ℕ → Type 0
SentFront start held text count = (rest : List ℕ) × (0 < length rest) × Sent start held text count rest

-- a front of the text was appended, and some of the text was not
abbrev pub AppendsFront : List ℕ → (held new_held : Option (List ℕ)) → Type 0
AppendsFront text held new_held =
    (front : List ℕ) × (rest : List ℕ) × (0 < length rest) × (text ≡ front ++ rest) × Appends held new_held front

-- the writes took the whole text; or the last of them failed, after a front of it
abbrev pub WritesText : Result (Unit {0}) WriteFault → (text : List ℕ) → List Event → Type 0
WritesText (Ok done) text events = GoesOn events × (all_put events ≡ text)
WritesText (Err fault) text events = IsLatest WriteFails events × SentFront (Some []) (Some (all_put events)) text fault.0
