-- The next number that passes a test.
use Rattle.std.specs.Prelude.{◌≡◌, ℕ, ◌<◌, Bool, true, false, Option, Some, None}

-- the least number above this one that passes the test, if one does
abbrev pub IsNext : (ℕ → Bool) → ℕ → Option ℕ → Type 0
IsNext test after None = (i : ℕ) → after < i → test i ≡ false
IsNext test after (Some j) = (after < j) × (test j ≡ true) × ((i : ℕ) → after < i → i < j → test i ≡ false)
