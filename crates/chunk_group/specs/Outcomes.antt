-- What reads through a group may come to.
use Rattle.std.specs.Prelude.{◌≡◌, List, ℕ, Result, Ok, Err}
use Rattle.std.proofs.Common.{true, ap, sym, subst, ◌∙◌}
use Rattle.host_names.specs.declared.digests.Digest.{Digest}
use Rattle.chunk_reads.specs.declared.faults.ReadFault.{ReadFault}
use Rattle.chunk_lru.specs.Recent.{has_name}
use Rattle.chunk_group.specs.Faults.{MayAnswer}

-- a read of a key may come to this: a chunk of its name, or a fault that may be answered
abbrev pub IsOutcome : {Share : Type 0} → (bytes : Share → List ℕ) → (allows : Digest → ReadFault → Type 0) → Digest → Result Share ReadFault → Type 0
IsOutcome bytes allows key (Ok share) = has_name key (bytes share) ≡ true
IsOutcome bytes allows key (Err fault) = MayAnswer allows key fault

-- a source's outcomes may be shared: what each clone of an outcome is, is one too, where a clone of a share has its bytes
pub clones_of_outcomes : {Share : Type 0} (bytes : Share → List ℕ) (allows : Digest → ReadFault → Type 0) (is_clone : Result Share ReadFault → Result Share ReadFault → Type 0)
    → ((a b : Share) → is_clone (Ok a) (Ok b) → bytes b ≡ bytes a) → ((a : Share) (f : ReadFault) → is_clone (Ok a) (Err f) → ⊥)
    → ((f : ReadFault) (a : Share) → is_clone (Err f) (Ok a) → ⊥) → ((f g : ReadFault) → is_clone (Err f) (Err g) → g ≡ f)
    → (key : Digest) (outcome share : Result Share ReadFault) → is_clone outcome share → IsOutcome bytes allows key outcome → IsOutcome bytes allows key share
clones_of_outcomes bytes allows is_clone shares one other faults key (Ok a) (Ok b) clone fits = ap (has_name key) (shares a b clone) ∙ fits
clones_of_outcomes bytes allows is_clone shares one other faults key (Ok a) (Err f) clone fits = absurd (one a f clone)
clones_of_outcomes bytes allows is_clone shares one other faults key (Err f) (Ok a) clone fits = absurd (other f a clone)
clones_of_outcomes bytes allows is_clone shares one other faults key (Err f) (Err g) clone fits = subst (MayAnswer allows key) (sym (faults f g clone)) fits
