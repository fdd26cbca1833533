-- Stretches of a file that are held one after another.
use Rattle.std.specs.Prelude.{◌≡◌, ◌⊎◌, ℕ, List, [], ◌∷◌, ◌++◌, All, map}
use Rattle.std.specs.List.{FoldsTo}
use Rattle.byte_view.specs.Holds.{Held, IsHeld}
use Rattle.chunk_reads.specs.declared.faults.ReadFault.{ReadFault}
use Rattle.chunk_reads.specs.declared.faults.ReadFault.TheVariants.{OutOfMemory}
use Rattle.range_reply.specs.Bodies.{stretch_of}
use Rattle.range_reply.specs.declared.holds.Holds.{Holds}
use Rattle.range_reply.specs.declared.holds.Holds.TheVariants.{Alone, Listed}

-- what is held, in order
abbrev pub held_in : Holds → List Held
held_in (Alone hold) = hold ∷ []
held_in (Listed holds) = holds.items

-- a holder gives holds of these stretches of a file, one after another, and nothing else is done with it
pub record AreHeld {H : Type 0} (gave : H → Held → H → Type 0) (old : H) (file : List ℕ) (stretches : List (ℕ × ℕ)) (holds : List Held) (new : H) : Type 0 where
  pub same_file : All (λ h. h.file ≡ file) holds
  pub in_order : map (λ h. (h.first, h.last)) holds ≡ stretches
  pub lawful : All IsHeld holds
  pub given : FoldsTo gave old holds new

-- why these stretches of a file can't be held: the next one can't, after those before it; or there was no memory to keep some of them
abbrev pub AreNotHeld : {H : Type 0} → (gave : H → Held → H → Type 0) → (failed : H → List ℕ → ℕ → ℕ → ReadFault → H → Type 0) → H → List ℕ → List (ℕ × ℕ) → ReadFault → H
    → Type 0
AreNotHeld {H} gave failed old file stretches why new =
    (before : List (ℕ × ℕ)) × (left : List (ℕ × ℕ)) × (holds : List Held) × (mid : H) × (stretches ≡ before ++ left) × AreHeld gave old file before holds mid
    × (((stretch : ℕ × ℕ) × (more : List (ℕ × ℕ)) × (left ≡ stretch ∷ more) × failed mid file stretch.0 stretch.1 why new)
    ⊎ ((why ≡ OutOfMemory) × (new ≡ mid)))

-- ---- what private functions say

-- this stretch is held
abbrev pub IsHoldOf : {H : Type 0} → (gave : H → Held → H → Type 0) → H → List ℕ → ℕ × ℕ → Held → H → Type 0
IsHoldOf gave old file stretch hold new = (hold.file ≡ file) × (stretch_of hold ≡ stretch) × IsHeld hold × gave old hold new

-- why it isn't: it can't be, or there was no memory before
abbrev pub IsNoHold : {H : Type 0} → (failed : H → List ℕ → ℕ → ℕ → ReadFault → H → Type 0) → H → List ℕ → ℕ × ℕ → ReadFault → H → Type 0
IsNoHold failed old file stretch why new = failed old file stretch.0 stretch.1 why new ⊎ ((why ≡ OutOfMemory) × (new ≡ old))

-- one more is held, of this stretch
abbrev pub IsNextHold : {H : Type 0} → (gave : H → Held → H → Type 0) → H → List ℕ → ℕ × ℕ → (before after : List Held) → H → Type 0
IsNextHold gave old file stretch before after new =
    (hold : Held) × (after ≡ before ++ hold ∷ []) × IsHoldOf gave old file stretch hold new

-- why it isn't: it can't be, or there was no memory before or after it
abbrev pub IsNextFault : {H : Type 0} → (gave : H → Held → H → Type 0) → (failed : H → List ℕ → ℕ → ℕ → ReadFault → H → Type 0) → H → List ℕ → ℕ × ℕ → ReadFault → H → Type 0
IsNextFault gave failed old file stretch why new =
    failed old file stretch.0 stretch.1 why new
    ⊎ ((why ≡ OutOfMemory) × (new ≡ old))
    ⊎ ((why ≡ OutOfMemory) × ((hold : Held) × IsHoldOf gave old file stretch hold new))
