-- What an outcome of a key is.
use Rattle.std.proofs.Common.{◌≡◌, true, List, ℕ, Result, Ok, Err, IfOk, IfErr, ap, sym}
use Rattle.std.proofs.Math.Logic.{∥∥₁_elim, ∥∥₁_prop}
use Rattle.std.proofs.lemmas.Slice.Eq.{bytes_eq-Decides}
use mathlib.Core.Bool.{Bool-set}
use Rattle.host_names.specs.declared.digests.Digest.{Digest}
use Rattle.host_names.specs.Digests.{digest_of}
use Rattle.chunk_reads.specs.declared.faults.ReadFault.{ReadFault}
use Rattle.chunk_reads.specs.declared.faults.ReadFault.TheVariants as fault
use Rattle.chunk_lru.proofs.Sizes.{same_name}
use Rattle.chunk_group.specs.Faults.{MayAnswer}
use Rattle.chunk_group.specs.Outcomes.{IsOutcome}

module _ {Share : Type 0} (bytes : Share → List ℕ) (allows : Digest → ReadFault → Type 0) (key : Digest) where
  -- a chunk of its name
  pub outcome-named : (r : Result Share ReadFault) → ∥ IsOutcome bytes allows key r ∥₁ → IfOk r (λ share. digest_of (bytes share) ≡ key)
  outcome-named (Ok share) is = same_name key (bytes share) (∥∥₁_elim is (Bool-set _ _) (λ x. x))
  outcome-named (Err why) is = tt

  -- or a fault that may be answered
  may : (why : ReadFault) → ∥ MayAnswer allows key why ∥₁ → MayAnswer allows key why
  may fault.OutOfMemory is = tt
  may fault.Missing is = ∥∥₁_elim is ∥∥₁_prop (λ x. x)
  may fault.Damaged is = ∥∥₁_elim is ∥∥₁_prop (λ x. x)
  may fault.Device is = ∥∥₁_elim is ∥∥₁_prop (λ x. x)

  pub outcome-allowed : (r : Result Share ReadFault) → ∥ IsOutcome bytes allows key r ∥₁ → IfErr r (λ why. MayAnswer allows key why)
  outcome-allowed (Ok share) is = tt
  outcome-allowed (Err why) is = may why is

  -- what has its name, or a fault that may be answered, is one
  pub outcome_of : (r : Result Share ReadFault) → IfOk r (λ share. digest_of (bytes share) ≡ key) → IfErr r (λ why. MayAnswer allows key why)
      → ∥ IsOutcome bytes allows key r ∥₁
  outcome_of (Ok share) named may = ∣ (bytes_eq-Decides key.0 (digest_of (bytes share)).0).1 (ap (λ (d : Digest). d.0) (sym named)) ∣₁
  outcome_of (Err why) named may = ∣ may ∣₁
