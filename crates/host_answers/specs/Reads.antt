-- What is answered to the reading of a file, by what is held of it.
use Rattle.std.specs.Prelude.{◌≡◌, ◌⊎◌, ℕ, List, Bool, true, false, Result, Ok, Err, length}
use Rattle.chunk_reads.specs.declared.faults.ReadFault.{ReadFault}
use Rattle.range_spec.specs.declared.grammar.Asked.{Asked}
use Rattle.range_spec.specs.declared.selection.Choice.{Choice}
use Rattle.range_spec.specs.declared.selection.Choice.TheVariants.{None416}
use Rattle.range_reply.specs.Sending.{IsNotRead, IsRead, SentFile}
use Rattle.http_wire.specs.Requests.{RequestParts}
use Rattle.host_api.specs.Types.{type_of}
use Rattle.host_api.specs.declared.refusals.Refusal.{Refusal}
use Rattle.host_api.specs.declared.refusals.Refusal.TheVariants as reason
use Rattle.host_replies.specs.FileAsks.{AsksRange, plan_of, refusal_of_read}
use Rattle.host_replies.specs.Replies.{Answer, is_head, refused_answer, unread_answer}
use Rattle.host_replies.specs.SentFiles.{sent_answer}
use Rattle.host_answers.specs.Houses.{Failed, Gave}

-- ---- the reply

module _ {H : Type 0} (gave : Gave H) (failed : Failed H) where
  -- What a plan asks for of the file at a path is held and sent, or it is told why it can't be held; before that there may
  -- be no memory. Where the file has no byte of it, that is told, and nothing is held.
  abbrev pub SendsBy : H → (path file : List ℕ) → Choice → Answer → H → Type 0
  SendsBy house path file None416 answer next =
      (answer ≡ refused_answer (reason.NotSatisfiable (length file))) × (next ≡ house)
  SendsBy house path file plan answer next =
      ((body : SentFile) × IsRead gave house file plan (type_of path) body next × (answer ≡ sent_answer path file body))
      ⊎ ((why : ReadFault) × IsNotRead gave failed house file plan why next
      × (answer ≡ refused_answer (refusal_of_read why)))
      ⊎ ((answer ≡ refused_answer reason.OutOfMemory) × (next ≡ house))

  -- the reply to GET, or to HEAD, to which nothing of a file is held, since no byte of it is sent
  abbrev pub GivesBy : (by_head : Bool) → H → RequestParts → (path file : List ℕ) → Answer → H → Type 0
  GivesBy true house parts path file answer next =
      ((answer ≡ unread_answer (type_of path) file) ⊎ (answer ≡ refused_answer reason.OutOfMemory)) × (next ≡ house)
  GivesBy false house parts path file answer next =
      (range : Asked) × AsksRange parts range × SendsBy house path file (plan_of parts range file) answer next

  -- the reply with this file at the path, or that there is none for this reason
  abbrev pub ReadsBy : H → RequestParts → (path : List ℕ) → Result (List ℕ) Refusal → Answer → H → Type 0
  ReadsBy house parts path (Err why) answer next = (answer ≡ refused_answer why) × (next ≡ house)
  ReadsBy house parts path (Ok file) answer next = GivesBy (is_head parts) house parts path file answer next
