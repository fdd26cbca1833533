-- What a list is.
use Rattle.std.specs.Prelude.{ℕ}

-- how many items were pushed, and what it is now
pub record Versions (E : Type 0) : Type 0 where
  pub times : ℕ
  pub now : E
