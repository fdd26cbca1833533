-- What the mending of a file leaves.
use Rattle.std.proofs.Common.{◌≡◌, ℕ, ◌+◌, ◌≤◌, List, [], ◌∷◌, ◌++◌, length, take, ⊎_elim, ◌∙◌, ap, subst, arith, length-append}
use Rattle.std.proofs.lemmas.List.{nil_from_length}
use Rattle.host_disk.specs.Crashes.{Cut, IsWritten, Only, Torn}
use Rattle.record_file.specs.Frames.{MayLeave}
use Rattle.record_file.specs.Openings.{HasSomeGate}
use Rattle.record_file.proofs.AroundGates.{torn_at, written_at, cut_behind, take_with}

module _ (front rest file : List ℕ) (images : List ℕ → Type 0) (at : ℕ) (at_is : at ≡ length front) (gate : ℕ) (is : file ≡ front ++ gate ∷ rest) (only : Only file images) where
  -- nothing was written
  pub gate_stands : (c : List ℕ) → images c → HasSomeGate front gate rest c
  gate_stands c left = record { some = gate; shut = λ zero_gate. zero_gate; is = only c left ∙ is }

  -- a gate was written where there was none of 0
  pub some_gate : (gate ≡ 0 → ⊥) → (c : List ℕ) → MayLeave (Torn at 1) images c → HasSomeGate front gate rest c
  some_gate other c left = ⊎_elim (gate_stands c) (λ from. record {
    some = _;
    shut = λ zero_gate. absurd (other zero_gate);
    is = torn_at front gate rest from.0 (only from.0 from.1 ∙ is) c (subst (λ (k : ℕ). Torn k 1 from.0 c) at_is from.2);
  }) left

  pub gate_written : (value : ℕ) (new : List ℕ) → IsWritten file at (value ∷ []) new → new ≡ front ++ value ∷ rest
  gate_written value new written = written_at front gate rest file is value new (subst (λ (k : ℕ). IsWritten file k (value ∷ []) new) at_is written)

  -- what follows the gate was cut
  pub gate_kept : (c : List ℕ) → MayLeave (Cut (at + 1)) images c → (r : List ℕ) × c ≡ front ++ gate ∷ r
  gate_kept c left = ⊎_elim (λ now. (rest, only c now ∙ is)) (λ from. (_, cut_behind front gate rest from.0 (only from.0 from.1 ∙ is) c (subst (λ (k : ℕ). Cut (k + 1) from.0 c) at_is from.2))) left

  pub gate_left : take (at + 1) file ≡ front ++ gate ∷ []
  gate_left = ap (λ (k : ℕ). take (k + 1) file) at_is ∙ take_with front gate rest file is

  pub nothing_behind : length file ≤ at + 1 → file ≡ front ++ gate ∷ []
  nothing_behind small = is ∙ ap (λ (r : List ℕ). front ++ gate ∷ r) (nil_from_length rest (omega (arith, ap length is, at_is, length-append front (gate ∷ rest))))
