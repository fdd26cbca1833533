-- Slices that are written one after another.
use Rattle.std.specs.Prelude.{ℕ, List, [], ◌∷◌, ◌++◌}
use Rattle.byte_slices.specs.declared.slices.Slices.{Slices}

-- all their bytes
abbrev pub joined : Slices → List ℕ
joined s = s.first.now ++ (s.second.now ++ (s.third.now ++ s.fourth.now))

-- the first of two that has a byte, or the second
abbrev pub either : List ℕ → List ℕ → List ℕ
either [] ys = ys
either (x ∷ xs) ys = x ∷ xs

-- the first of all that has a byte, or the last
abbrev pub first_of : Slices → List ℕ
first_of s = either s.first.now (either s.second.now (either s.third.now s.fourth.now))
