-- How the end of a head is found, byte by byte.
use Rattle.std.specs.Prelude.{◌≡◌, ℕ, ◌-◌, ◌≤◌, Bool, true, false, List, [], ◌∷◌, ◌++◌, length, drop, Option, Some, None, ◌==◌, if◌then◌else◌}
use Rattle.httparse.specs.Ascii.{line_feed, carriage_return}
use Rattle.http_wire.specs.declared.scans.State.{State}
use Rattle.http_wire.specs.declared.scans.State.TheVariants.{Before, BeforeReturn, Text, Between, BetweenReturn, Done}

-- the state after one more byte
abbrev pub step_of : State → ℕ → State
step_of Before b = if b == line_feed then Before else (if b == carriage_return then BeforeReturn else Text)
step_of BeforeReturn b = if b == line_feed then Before else Text
step_of Text b = if b == line_feed then Between else Text
step_of Between b = if b == line_feed then Done else (if b == carriage_return then BetweenReturn else Text)
step_of BetweenReturn b = if b == line_feed then Done else Text
step_of Done b = Done

abbrev pub is_done : State → Bool
is_done Before = false
is_done BeforeReturn = false
is_done Text = false
is_done Between = false
is_done BetweenReturn = false
is_done Done = true

-- the bytes after the head's end, if it comes
abbrev pub rest_from : State → List ℕ → Option (List ℕ)
rest_from s [] = if is_done s then Some [] else None
rest_from s (b ∷ bytes) = if is_done s then Some (b ∷ bytes) else rest_from (step_of s b) bytes

-- a search from the front of these bytes is in that state after so many of them
pub record HasSearched (bytes : List ℕ) (state : State) (scanned : ℕ) : Type 0 where
  pub within : scanned ≤ length bytes
  pub same : (more : List ℕ) → rest_from Before (bytes ++ more) ≡ rest_from state (drop scanned bytes ++ more)

-- a search of these bytes that began in one state is in another, and has this rest of them before it
pub record ScansTo (begun : State) (bytes : List ℕ) (state : State) (rest : List ℕ) : Type 0 where
  pub within : length rest ≤ length bytes
  pub is_rest : rest ≡ drop (length bytes - length rest) bytes
  pub same : (more : List ℕ) → rest_from begun (bytes ++ more) ≡ rest_from state (rest ++ more)
