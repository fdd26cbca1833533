-- What the reply to the reading of a file says of the file itself.
use Rattle.std.specs.Prelude.{◌≡◌, ◌⊎◌, ℕ, List, Bool, true, false, All, Result, Ok, Err, length}
use Rattle.byte_view.specs.Cuts.{IsPure}
use Rattle.byte_view.specs.Holds.{Held}
use Rattle.chunk_reads.specs.declared.faults.ReadFault.{ReadFault}
use Rattle.range_spec.specs.declared.grammar.Asked.{Asked}
use Rattle.range_spec.specs.declared.selection.Choice.{Choice}
use Rattle.range_spec.specs.declared.selection.Choice.TheVariants.{None416}
use Rattle.range_reply.specs.Sending.{IsExact, SentFile}
use Rattle.http_wire.specs.Requests.{RequestParts}
use Rattle.host_api.specs.Types.{type_of}
use Rattle.host_api.specs.declared.refusals.Refusal.{Refusal}
use Rattle.host_api.specs.declared.refusals.Refusal.TheVariants as reason
use Rattle.host_replies.specs.Replies.{Answer, is_head, refused_answer, unread_answer}
use Rattle.host_replies.specs.SentFiles.{sent_answer}
use Rattle.host_replies.specs.FileAsks.{AsksRange, plan_of, refusal_of_read}

-- what is sent of a file for a plan is of the file itself, unless a chunk that was held differs from a piece of it that
-- has the same digest
abbrev pub IsOfFile : (file : List ℕ) → Choice → (content_type : List ℕ) → SentFile → Type 0
IsOfFile file plan content_type body =
    (holds : List Held) × (All (λ h. All (IsPure file) h.chunks) holds → IsExact file plan content_type body)

-- the answer to such a plan of the file at a path: that the file has no byte of it, or what is sent of the file
abbrev pub IsPlanCarriedOut : (path file : List ℕ) → Choice → Answer → Type 0
IsPlanCarriedOut path file plan answer =
    ((plan ≡ None416) × (answer ≡ refused_answer (reason.NotSatisfiable (length file))))
    ⊎ ((body : SentFile) × IsOfFile file plan (type_of path) body × (answer ≡ sent_answer path file body))

-- the answer to GET, or to HEAD, which is told the file's length and its tag
abbrev pub IsFileGiven : (by_head : Bool) → RequestParts → (path file : List ℕ) → Answer → Type 0
IsFileGiven true parts path file answer = answer ≡ unread_answer (type_of path) file
IsFileGiven false parts path file answer =
    (range : Asked) × AsksRange parts range × IsPlanCarriedOut path file (plan_of parts range file) answer

-- the answer to the reading of this file at the path, or of none for this reason: what is asked for of the file, or that
-- it can't be read
abbrev pub IsFileReply : RequestParts → (path : List ℕ) → Result (List ℕ) Refusal → Answer → Type 0
IsFileReply parts path (Err why) answer = answer ≡ refused_answer why
IsFileReply parts path (Ok file) answer =
    IsFileGiven (is_head parts) parts path file answer
    ⊎ ((why : ReadFault) × (answer ≡ refused_answer (refusal_of_read why)))
