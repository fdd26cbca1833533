-- Reads that are those of something else.
use Rattle.std.proofs.Common.{◌≡◌, inl, inr, ℕ, List, [], ◌∷◌, Result, Ok, Err, map, sym, ap, subst}
use Rattle.host_names.specs.declared.digests.Digest.{Digest}
use Rattle.host_names.specs.Digests.{digest_of}
use Rattle.byte_view.specs.Cuts.{pieces_met}
use Rattle.chunk_reads.specs.Reading.{AreNotRead, IsNotHeld, Reads, ReadsInTurn}
use Rattle.chunk_reads.specs.declared.faults.ReadFault.{ReadFault}

module _ {N M : Type 0} (reads : Reads N) (others : Reads M) (as_other : N → M) (Good : N → Type 0)
    (step : (old new : N) (name : Digest) (answer : Result (List ℕ) ReadFault) → Good old → reads old name answer new → others (as_other old) name answer (as_other new) × Good new) where
  pub in_turn : (old new : N) (chunks : List (List ℕ)) → Good old → ReadsInTurn reads old chunks new → ReadsInTurn others (as_other old) chunks (as_other new) × Good new
  in_turn old new [] good same = (ap as_other same, subst Good (sym same) good)
  in_turn old new (chunk ∷ chunks) good turns =
      let first = step old turns.0 (digest_of chunk) (Ok chunk) good turns.1 in
      let more = in_turn turns.0 new chunks first.1 turns.2 in
      ((as_other turns.0, first.0, more.0), more.1)

  not_read : (old new : N) (names : List Digest) (why : ReadFault) → Good old → AreNotRead reads old names why new → AreNotRead others (as_other old) names why (as_other new) × Good new
  not_read old new names why good (inl (mid, name, left, (chunks, named, turns), fault)) =
      let before = in_turn old mid chunks good turns in
      let last = step mid new name (Err why) before.1 fault in
      (inl (as_other mid, name, left, (chunks, named, before.0), last.0), last.1)
  not_read old new names why good (inr (memory, (left, fewer, (chunks, named, turns)))) =
      let before = in_turn old new chunks good turns in
      (inr (memory, (left, fewer, (chunks, named, before.0))), before.1)

  pub not_held : (old new : N) (file : List ℕ) (first last : ℕ) (why : ReadFault) → Good old → IsNotHeld reads old file first last why new
      → IsNotHeld others (as_other old) file first last why (as_other new) × Good new
  not_held old new file first last why good (inl fault) =
      let is = not_read old new (map digest_of (pieces_met file first last)) why good fault in
      (inl is.0, is.1)
  not_held old new file first last why good (inr (damaged, (chunks, wrong, turns))) =
      let all = in_turn old new chunks good turns in
      (inr (damaged, (chunks, wrong, all.0)), all.1)
