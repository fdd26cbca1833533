-- A read that misses no chunk fails only where a chunk differs from a piece of its file that has its name.
use Rattle.std.proofs.Common.{◌≡◌, ◌≢◌, ◌⊎◌, inl, inr, ◌+◌, ◌-◌, ℕ, List, [], ◌∷◌, All, Contains, drop, map, length, take, Some, None, refl, sym, ap, ◌∙◌}
use Rattle.std.specs.List.{AllByRecursion}
use Rattle.std.proofs.lemmas.List.Elements.{All-contains_itself, All-drop, All-from_recursion, All-head, All-tail, All-take, recursion_from_All}
use Rattle.host_names.specs.Digests.{digest_of}
use Rattle.host_names.specs.declared.digests.Digest.{Digest}
use Rattle.byte_view.specs.Cuts.{IsPure, cut, pieces_met, place_of}
use Rattle.chunk_reads.specs.Reading.{AreNotRead, IsNotHeld}
use Rattle.chunk_reads.specs.declared.faults.ReadFault.{ReadFault}
use Rattle.chunk_reads.specs.declared.faults.ReadFault.TheVariants.{OutOfMemory}
use Rattle.range_reply.specs.Holding.{AreNotHeld}
use Rattle.range_reply.specs.Sending.{IsNotRead}
use Rattle.range_spec.specs.declared.selection.Choice.{Choice}
use Rattle.world_read.specs.declared.requests.FileRequest.{FileRequest}
use Rattle.world_read.specs.Requests.{plan_of}
use Rattle.world_read.specs.Reads.{Failed, IsStage}
use Rattle.world_read.specs.Taking.{Gives, GivesNot, Takes, Taking, taking}
use Rattle.world_read.proofs.Taken.{held, taken}

-- pure chunks are the pieces whose names they have
same_pieces : (file : List ℕ) (cs ps : List (List ℕ)) → map digest_of cs ≡ map digest_of ps → All (IsPure file) cs → All (Contains (cut file)) ps → cs ≡ ps
same_pieces file [] [] e pure of_file = cc
same_pieces file [] (p ∷ ps) e pure of_file = absurd (cc)
same_pieces file (c ∷ cs) [] e pure of_file = absurd (cc)
same_pieces file (c ∷ cs) (p ∷ ps) e pure of_file =
    let first : digest_of c ≡ digest_of p = cc in
    let rest : map digest_of cs ≡ map digest_of ps = cc in
    let one : c ≡ p = All-head (IsPure file) c cs pure p (All-head (Contains (cut file)) p ps of_file) first in
    let others : cs ≡ ps = same_pieces file cs ps rest (All-tail (IsPure file) c cs pure) (All-tail (Contains (cut file)) p ps of_file) in
    cc

pieces_there : (file : List ℕ) (first last : ℕ) → All (Contains (cut file)) (pieces_met file first last)
pieces_there file first last =
    let p = place_of first in
    All-take (Contains (cut file)) (place_of last + 1 - p) (drop p (cut file)) (All-drop (Contains (cut file)) p (cut file) (All-contains_itself (cut file)))

module _ (file : List ℕ) (new : Taking) (none : new.missed ≡ None) (why : ReadFault) (memory : why ≢ OutOfMemory) where
  not_missed : (left : List (List ℕ)) (name : Digest) → new ≡ record { left = left; missed = Some name } → ⊥
  not_missed left name is = let both : None ≡ Some name = sym none ∙ ap (λ (t : Taking). t.missed) is in cc

  chunks_read : (old : Taking) (names : List Digest) → AreNotRead Takes old names why new → ⊥
  chunks_read old names (inl (mid, name, left, some, inl (out, same))) = memory out
  chunks_read old names (inl (mid, name, left, some, inr (lacks, missed))) = not_missed mid.left name missed
  chunks_read old names (inr (out, some)) = memory out

  stretch_held : (old : Taking) (first last : ℕ) → AllByRecursion (IsPure file) old.left → GivesNot old file first last why new → ⊥
  stretch_held old first last pure (inl fails) = chunks_read old (map digest_of (pieces_met file first last)) fails
  stretch_held old first last pure (inr (damaged, (chunks, wrong, turns))) =
      let all = All-from_recursion (IsPure file) chunks (taken (IsPure file) old new chunks turns pure).0 in
      wrong.wrong (ap (map length) (same_pieces file chunks (pieces_met file first last) wrong.named all (pieces_there file first last)))

  stretches_held : (old : Taking) (stretches : List (ℕ × ℕ)) → AllByRecursion (IsPure file) old.left → AreNotHeld Gives GivesNot old file stretches why new → ⊥
  stretches_held old stretches pure (before, left, holds, mid, parts, are, inl (stretch, more, next, fails)) =
      stretch_held mid stretch.0 stretch.1 (held (IsPure file) old mid holds are.given pure).1 fails
  stretches_held old stretches pure (before, left, holds, mid, parts, are, inr (out, same)) = memory out

  plan_read : (old : Taking) (plan : Choice) → AllByRecursion (IsPure file) old.left → IsNotRead Gives GivesNot old file plan why new → ⊥
  plan_read old plan pure (inl fails) = stretches_held old _ pure fails
  plan_read old plan pure (inr (intervals, holds, mid, many, are, no_boundary, fails)) = stretches_held mid _ (held (IsPure file) old mid holds are.given pure).1 fails

pub fails_impure : (request : FileRequest) (file : List ℕ) (chunks : List (List ℕ)) → IsStage request file chunks Failed → All (IsPure file) chunks → ⊥
fails_impure request file chunks (why, left, memory, fails) pure =
    plan_read file (record { left = left; missed = None }) refl why memory (taking chunks) (plan_of request file) (recursion_from_All (IsPure file) chunks pure) fails
