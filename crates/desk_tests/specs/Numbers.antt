-- The order of numbers.
use Rattle.std.proofs.Common.{ℕ, ◌≤◌, le_refl, le_trans}

pub itself : (n : ℕ) → n ≤ n
itself n = le_refl n

pub goes_on : (a b c : ℕ) → a ≤ b → b ≤ c → a ≤ c
goes_on a b c ab bc = le_trans ab bc
