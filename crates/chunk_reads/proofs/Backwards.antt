-- What holds at the end, and held before each read where it holds after it, held at each read.
use Rattle.std.specs.Prelude.{IsTrue}
use Rattle.std.proofs.Common.{◌≡◌, inl, inr, Bool, ℕ, List, [], ◌∷◌, Result, Ok, Err, subst}
use Rattle.host_names.specs.Digests.{digest_of}
use Rattle.host_names.specs.declared.digests.Digest.{Digest}
use Rattle.chunk_reads.specs.Reading.{IsNotHeld, Reads, ReadsInTurn}
use Rattle.chunk_reads.specs.declared.faults.ReadFault.{ReadFault}

module _ {N : Type 0} (honest : N → Bool) (reads well : Reads N)
    (one : (old new : N) (name : Digest) (answer : Result (List ℕ) ReadFault) → IsTrue (honest new) → reads old name answer new → IsTrue (honest old) × well old name answer new) where
  pub turns : (old new : N) (chunks : List (List ℕ)) → IsTrue (honest new) → ReadsInTurn reads old chunks new → IsTrue (honest old) × ReadsInTurn well old chunks new
  turns old new [] so is = (subst (λ n. IsTrue (honest n)) is so, is)
  turns old new (c ∷ chunks) so is =
      let rest = turns is.0 new chunks so is.2 in
      let first = one old is.0 (digest_of c) (Ok c) rest.0 is.1 in
      (first.0, (is.0, first.1, rest.1))

  pub not_held : (old new : N) (file : List ℕ) (first last : ℕ) (why : ReadFault) → IsTrue (honest new) → IsNotHeld reads old file first last why new
      → IsTrue (honest old) × IsNotHeld well old file first last why new
  not_held old new file first last why so (inl (inl is)) =
      let end = one is.0 new is.1 (Err why) so is.4 in
      let some = is.3 in
      let all = turns old is.0 some.0 end.0 some.2 in
      (all.0, inl (inl (is.0, is.1, is.2, (some.0, some.1, all.1), end.1)))
  not_held old new file first last why so (inl (inr is)) =
      let some = is.1.2 in
      let all = turns old new some.0 so some.2 in
      (all.0, inl (inr (is.0, (is.1.0, is.1.1, (some.0, some.1, all.1)))))
  not_held old new file first last why so (inr is) =
      let some = is.1 in
      let all = turns old new some.0 so some.2 in
      (all.0, inr (is.0, (some.0, some.1, all.1)))
