-- What is answered to the reading of a file is of the file itself.
use Rattle.std.proofs.Common.{◌≡◌, ◌⊎◌, inl, inr, Bool, true, false, ℕ, List, ◌++◌, Result, Ok, Err, refl}
use Rattle.chunk_reads.specs.declared.faults.ReadFault.TheVariants as fault
use Rattle.range_spec.specs.declared.selection.Choice.{Choice}
use Rattle.range_spec.specs.declared.selection.Choice.TheVariants.{Whole, One, Many, None416}
use Rattle.http_wire.specs.Requests.{RequestParts}
use Rattle.host_api.specs.declared.refusals.Refusal.{Refusal}
use Rattle.host_replies.specs.Replies.{Answer, is_head, refused_answer}
use Rattle.chunk_reads.specs.declared.faults.ReadFault.{ReadFault}
use Rattle.host_answers.specs.FileReplies.{IsFileGiven, IsFileReply, IsPlanCarriedOut}
use Rattle.host_answers.specs.Houses.{Failed, Gave}
use Rattle.host_answers.specs.Reads.{GivesBy, ReadsBy, SendsBy}
use Rattle.host_replies.specs.FileAsks.{refusal_of_read}
use Rattle.host_answers.proofs.Reading.{Sends}

module _ {H : Type 0} (gave : Gave H) (failed : Failed H) (house next : H) where
  abbrev IsPlanReply : (path file : List ℕ) → Choice → Answer → Type 0
  IsPlanReply path file plan answer = IsPlanCarriedOut path file plan answer ⊎ ((why : ReadFault) × (answer ≡ refused_answer (refusal_of_read why)))

  sent_of : (path file : List ℕ) (plan : Choice) (answer : Answer) → Sends gave failed house next path file plan answer → IsPlanReply path file plan answer
  sent_of path file plan answer (inl (body, read, is)) = inl (inr (body, (read.holds ++ read.more, read.exact), is))
  sent_of path file plan answer (inr (inl (why, read, is))) = inr (why, is)
  sent_of path file plan answer (inr (inr (is, same))) = inr (fault.OutOfMemory, is)

  sends_of : (path file : List ℕ) (plan : Choice) (answer : Answer) → SendsBy gave failed house path file plan answer next → IsPlanReply path file plan answer
  sends_of path file Whole answer is = sent_of path file Whole answer is
  sends_of path file (One first last) answer is = sent_of path file (One first last) answer is
  sends_of path file (Many intervals) answer is = sent_of path file (Many intervals) answer is
  sends_of path file None416 answer (is, same) = inl (inl (refl, is))

  gives_of : (by_head : Bool) (parts : RequestParts) (path file : List ℕ) (answer : Answer) → GivesBy gave failed by_head house parts path file answer next
      → IsFileGiven by_head parts path file answer ⊎ ((why : ReadFault) × (answer ≡ refused_answer (refusal_of_read why)))
  gives_of true parts path file answer (inl is, same) = inl is
  gives_of true parts path file answer (inr is, same) = inr (fault.OutOfMemory, is)
  gives_of false parts path file answer (range, asks, sends) = elim (sends_of path file _ answer sends) [ inl given ↦ inl (range, asks, given) | inr why ↦ inr why ]

  pub reads_of : (parts : RequestParts) (path : List ℕ) (found : Result (List ℕ) Refusal) (answer : Answer) → ReadsBy gave failed house parts path found answer next
      → IsFileReply parts path found answer
  reads_of parts path (Err why) answer (is, same) = is
  reads_of parts path (Ok file) answer gives = gives_of (is_head parts) parts path file answer gives
