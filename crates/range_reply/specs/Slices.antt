-- What the chunks of holds show, and where bytes occur in it.
use Rattle.std.specs.Prelude.{ℕ, List, All, Contains, map}
use Rattle.std.specs.Str.Iter.{HasSubslice}
use Rattle.byte_view.specs.Cuts.{IsPure, slice}
use Rattle.byte_view.specs.Holds.{Held, held_part}

-- the bytes that a hold has of its stretch
abbrev pub shown : Held → List ℕ
shown h = held_part h h.first h.last

-- the bytes that the files themselves have in the stretches of these holds
abbrev pub all_meant : List Held → List (List ℕ)
all_meant holds = map (λ h. slice h.file h.first h.last) holds

-- no held chunk differs from a piece of its file that has the same digest
abbrev pub ArePure : List Held → Type 0
ArePure holds = All (λ h. All (IsPure h.file) h.chunks) holds

-- at least one of these texts contains these bytes, one after another
abbrev pub OccursInOne : List ℕ → List (List ℕ) → Type 0
OccursInOne bytes texts = (text : List ℕ) × Contains texts text × HasSubslice text bytes
