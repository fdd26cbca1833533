-- Why threads can't hold a stretch of a file.
use Rattle.std.proofs.Common.{◌≡◌, inl, inr, List, ◌∷◌, ◌++◌, ℕ, MatchResult, IfErr, Result, Ok, Err, map, Contains, refl, subst, arith}
use Rattle.std.proofs.lemmas.List.Elements.{Contains-append_right}
use Rattle.host_names.specs.declared.digests.Digest.{Digest}
use Rattle.host_names.specs.Digests.{digest_of}
use Rattle.byte_view.specs.Cuts.{pieces_met}
use Rattle.chunk_reads.specs.declared.faults.ReadFault.{ReadFault}
use Rattle.chunk_group.specs.Faults.{MayAnswer}
use Rattle.chunk_group.specs.Holding.{MayNotHold}
use Rattle.chunk_reads.specs.Reading.{IsNotHeld, Reads}

-- what is known of a read in threads
abbrev pub Allowed : {N : Type 0} → (allows : Digest → ReadFault → Type 0) → Reads N
Allowed allows old name answer new = MatchResult answer (λ chunk. digest_of chunk ≡ name) (λ fault. MayAnswer allows name fault)

among : (names before left : List Digest) (name : Digest) → before ++ name ∷ left ≡ names → Contains names name
among names before left name e = subst (λ (l : List Digest). Contains l name) e (Contains-append_right before (name ∷ left) name (0, omega arith, refl))

module _ {N : Type 0} (allows : Digest → ReadFault → Type 0) (old new : N) (file : List ℕ) (first last : ℕ) where
  pub may_not : (why : ReadFault) → IsNotHeld (Allowed allows) old file first last why new → MayNotHold allows file first last why
  may_not why (inl (inl at)) = inr (inl (at.1, among (map digest_of (pieces_met file first last)) (map digest_of at.3.0) at.2 at.1 at.3.1, at.4))
  may_not why (inl (inr full)) = inl full.0
  may_not why (inr wrong) = inr (inr (wrong.0, (wrong.1.0, wrong.1.1)))

  pub may_not_hold : {X : Type 0} (r : Result X ReadFault) → IfErr r (λ why. IsNotHeld (Allowed allows) old file first last why new) → IfErr r (λ why. MayNotHold allows file first last why)
  may_not_hold (Ok x) is = tt
  may_not_hold (Err why) is = may_not why is
