-- What holds of a reader before a stretch is held, and is kept by each read of a chunk, holds after it.
use Rattle.std.proofs.Common.{◌≡◌, inl, inr, ℕ, List, [], ◌∷◌, ◌++◌, Ok, Err, All, Result, map, sym, ap, subst, ◌∙◌}
use Rattle.std.proofs.lemmas.List.Elements.{All-from_recursion}
use Rattle.std.specs.List.{AllByRecursion}
use Rattle.host_names.specs.declared.digests.Digest.{Digest}
use Rattle.host_names.specs.Digests.{digest_of}
use Rattle.byte_view.specs.Cuts.{IsPure, pieces_met}
use Rattle.byte_view.specs.Holds.{Held, IsHeld}
use Rattle.chunk_reads.specs.Reading.{AreNotRead, HaveWrongLengths, IsNotHeld, Reads, ReadsInTurn, ReadsSome}
use Rattle.chunk_reads.specs.declared.faults.ReadFault.{ReadFault}
use Rattle.chunk_reads.specs.declared.faults.ReadFault.TheVariants.{Damaged, OutOfMemory}

module _ {N : Type 0} (reads : Reads N) where
  abbrev pub Gave : N → Held → N → Type 0
  Gave old hold new = ReadsInTurn reads old hold.chunks new

  abbrev pub Failed : N → List ℕ → ℕ → ℕ → ReadFault → N → Type 0
  Failed old file first last why new = IsNotHeld reads old file first last why new

-- `Asked` holds of each name that is asked for where the file is read
module _ {N : Type 0} (reads : Reads N) (file : List ℕ) (Asked : Digest → Type 0) (asked : (first last : ℕ) → AllByRecursion Asked (map digest_of (pieces_met file first last)))
    (Inv : N → Type 0) (of_read : (old new : N) (name : Digest) (answer : Result (List ℕ) ReadFault) → Asked name → Inv old → reads old name answer new → Inv new) where
  abbrev AreAsked : List Digest → Type 0
  AreAsked names = AllByRecursion Asked names

  turns_pass : (old new : N) (chunks : List (List ℕ)) → AreAsked (map digest_of chunks) → Inv old → ReadsInTurn reads old chunks new → Inv new
  turns_pass old new [] are inv turns = subst Inv (sym turns) inv
  turns_pass old new (c ∷ chunks) are inv turns = turns_pass turns.0 new chunks are.1 (of_read old turns.0 (digest_of c) (Ok c) are.0 inv turns.1) turns.2

  -- the names of a stretch's chunks
  asked_as : (chunks : List (List ℕ)) (first last : ℕ) → map digest_of chunks ≡ map digest_of (pieces_met file first last) → AreAsked (map digest_of chunks)
  asked_as chunks first last same = subst AreAsked (sym same) (asked first last)

  asked_held : (h : Held) → h.file ≡ file → IsHeld h → AreAsked (map digest_of h.chunks)
  asked_held h same held = asked_as h.chunks h.first h.last (held.named ∙ ap (λ f. map digest_of (pieces_met f h.first h.last)) same)

  pub of_gave : (old new : N) (h : Held) → h.file ≡ file → IsHeld h → Inv old → Gave reads old h new → Inv new
  of_gave old new h same held inv gave = turns_pass old new h.chunks (asked_held h same held) inv gave

  -- ---- where it isn't read

  asked_parts : (chunks : List (List ℕ)) (left : List Digest) → AreAsked (map digest_of chunks ++ left) → AreAsked (map digest_of chunks) × AreAsked left
  asked_parts [] left are = (tt, are)
  asked_parts (c ∷ chunks) left are =
      let rest = asked_parts chunks left are.1 in
      ((are.0, rest.0), rest.1)

  some_pass : (old mid : N) (names left : List Digest) → AreAsked names → Inv old → ReadsSome reads old names left mid → Inv mid × AreAsked left
  some_pass old mid names left are inv some =
      let parts = asked_parts some.0 left (subst AreAsked (sym some.1) are) in
      (turns_pass old mid some.0 parts.0 inv some.2, parts.1)

  module _ (Stop : ReadFault → N → Type 0) (of_fault : (old new : N) (name : Digest) (why : ReadFault) → Asked name → Inv old → reads old name (Err why) new → Stop why new)
      (of_none : (new : N) → Inv new → Stop OutOfMemory new)
      (of_wrong : (old new : N) (chunks : List (List ℕ)) (first last : ℕ) → Inv old → Inv new → HaveWrongLengths chunks file first last → ReadsInTurn reads old chunks new
      → Stop Damaged new)
    where
      not_read : (old new : N) (names : List Digest) (why : ReadFault) → AreAsked names → Inv old → AreNotRead reads old names why new → Stop why new
      not_read old new names why are inv (inl at) =
          let before = some_pass old at.0 names (at.1 ∷ at.2) are inv at.3 in
          of_fault at.0 new at.1 why before.1.0 before.0 at.4
      not_read old new names why are inv (inr (full, (left, fewer, some))) =
          subst (λ w. Stop w new) (sym full) (of_none new (some_pass old new names left are inv some).0)

      pub of_failed : (old new : N) (first last : ℕ) (why : ReadFault) → Inv old → Failed reads old file first last why new → Stop why new
      of_failed old new first last why inv (inl stop) = not_read old new (map digest_of (pieces_met file first last)) why (asked first last) inv stop
      of_failed old new first last why inv (inr wrong) =
          let chunks = wrong.1.0 in
          let after = turns_pass old new chunks (asked_as chunks first last wrong.1.1.named) inv wrong.1.2 in
          subst (λ w. Stop w new) (sym wrong.0) (of_wrong old new chunks first last inv after wrong.1.1 wrong.1.2)

  -- ---- where each chunk is a piece

  module _ (of_chunk : (old new : N) (chunk : List ℕ) → Inv old → reads old (digest_of chunk) (Ok chunk) new → IsPure file chunk) where
    pub turns_pure : (old new : N) (chunks : List (List ℕ)) → AreAsked (map digest_of chunks) → Inv old → ReadsInTurn reads old chunks new → AllByRecursion (IsPure file) chunks
    turns_pure old new [] are inv turns = tt
    turns_pure old new (c ∷ chunks) are inv turns =
        (of_chunk old turns.0 c inv turns.1, turns_pure turns.0 new chunks are.1 (of_read old turns.0 (digest_of c) (Ok c) are.0 inv turns.1) turns.2)

    pub of_pure : (old new : N) (h : Held) → h.file ≡ file → IsHeld h → Inv old → Gave reads old h new → All (IsPure file) h.chunks
    of_pure old new h same held inv gave = All-from_recursion (IsPure file) h.chunks (turns_pure old new h.chunks (asked_held h same held) inv gave)
