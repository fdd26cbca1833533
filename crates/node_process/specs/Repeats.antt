-- A call of a shelf that is made again for as long as it lacks a descriptor and one is given.
use Rattle.std.specs.Prelude.{◌≡◌, ℕ, zero, suc, ◌≤◌, ◌⊎◌, Bool, true, false, Result, Err}
use Rattle.blob_store.specs.declared.access_faults.AccessFault.{AccessFault}
use Rattle.blob_store.specs.declared.access_faults.AccessFault.TheVariants.{NoDescriptor}
use Rattle.node_process.specs.declared.repeating.Once.{Once}

-- what a call may answer, or one that asks for a descriptor, and what it leaves of itself
abbrev pub Step : Type 0 → Type 0 → Type 1
Step A C = C → A → C → Type 0

-- so many calls, one after another, each of which lacked a descriptor, and one was given then
unfoldable pub Lacked : {T C G : Type 0} → Step (Once T) C → Step Bool G → ℕ → C → G → C → G → Type 0
Lacked calls gives zero call give last giver = (call ≡ last) × (give ≡ giver)
Lacked calls gives (suc before) call give last giver =
    (between : _) × (asked : _) × (once : _) × Lacked calls gives before call give between asked
    × calls between once last × (once.outcome ≡ Err NoDescriptor) × gives asked true giver

-- The result is that of the last of some calls, which are so many more than one at most, and each before lacked a descriptor. If that one lacks one as well,
-- none is given then, or no more calls may be made.
abbrev pub IsRepeated : {T C G : Type 0} → Step (Once T) C → Step Bool G → (most : ℕ) → C → G → Result T AccessFault → Type 0
IsRepeated calls gives most call give result =
    (again : ℕ) × (last : _) × (giver : _) × (once : _) × (after : _)
    × (again ≤ most) × Lacked calls gives again call give last giver × calls last once after × (result ≡ once.outcome)
    × (result ≡ Err NoDescriptor → ((refused : _) × gives giver false refused) ⊎ (again ≡ most))
