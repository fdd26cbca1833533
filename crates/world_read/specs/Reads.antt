-- Reads of files, chunk by chunk.
use Rattle.std.specs.Prelude.{◌≡◌, ◌≢◌, ℕ, List, [], ◌∷◌, ◌++◌, All, Option, Some, None, Result, Ok, Err}
use Rattle.host_names.specs.declared.digests.Digest.{Digest}
use Rattle.byte_view.specs.Cuts.{IsPure}
use Rattle.chunk_reads.specs.declared.faults.ReadFault.{ReadFault}
use Rattle.chunk_reads.specs.declared.faults.ReadFault.TheVariants.{OutOfMemory}
use Rattle.range_reply.specs.Sending.{IsExact, IsNotRead, IsRead, SentFile}
use Rattle.site_state.specs.States.{State}
use Rattle.host_api.specs.Types.{type_of}
use Rattle.host_api.specs.declared.refusals.Refusal.{Refusal}
use Rattle.host_replies.specs.Replies.{Answer, refused_answer}
use Rattle.host_replies.specs.SentFiles.{sent_answer}
use Rattle.world_read.specs.declared.requests.FileRequest.{FileRequest}
use Rattle.world_read.specs.Requests.{file_asked, plan_of}
use Rattle.world_read.specs.Taking.{Gives, GivesNot, Taking, taking}

-- how far a read has come: it waits for the chunk of this name; it is answered; or it has failed
pub data ReadStage : Type 0 where
  Waits : (name : Digest) → ReadStage
  Answered : (answer : Answer) → ReadStage
  Failed : ReadStage

-- the reading of a file: the chunks that it has taken so far, in order, and how far it has come with them
pub record FileReading : Type 0 where
  pub file : List ℕ
  pub chunks : List (List ℕ)
  pub stage : ReadStage

-- a read: what was asked for, the place of its look among those of its visitor, and its file, or the answer where there is none
pub record ReadState : Type 0 where
  pub request : FileRequest
  pub look : ℕ
  pub content : Result FileReading Answer

-- ---- how a read goes on

-- With these chunks the read of what is to be sent has all, and that is the answer; or it misses a chunk, and waits for that; or it misses none,
-- and yet can't be read.
abbrev pub IsStage : FileRequest → List ℕ → List (List ℕ) → ReadStage → Type 0
IsStage request file chunks (Answered answer) =
    (body : SentFile) × (left : Taking) × IsRead Gives (taking chunks) file (plan_of request file) (type_of request.path) body left
    × (answer ≡ sent_answer request.path file body)
IsStage request file chunks (Waits name) =
    (why : ReadFault) × (left : List (List ℕ)) × (why ≢ OutOfMemory)
    × IsNotRead Gives GivesNot (taking chunks) file (plan_of request file) why (record { left = left; missed = Some name })
IsStage request file chunks Failed =
    (why : ReadFault) × (left : List (List ℕ)) × (why ≢ OutOfMemory)
    × IsNotRead Gives GivesNot (taking chunks) file (plan_of request file) why (record { left = left; missed = None })

-- it begins with the file that is asked for, and no chunk; where there is none, the reason is the answer
abbrev pub Begins : FileRequest → Result (List ℕ) Refusal → Result FileReading Answer → Type 0
Begins request (Ok file) (Ok reading) = (reading.file ≡ file) × (reading.chunks ≡ []) × IsStage request file [] reading.stage
Begins request (Ok file) (Err answer) = ⊥
Begins request (Err reason) content = content ≡ Err (refused_answer reason)

-- a visitor's look begins this read, in the state that its log gives
abbrev pub IsBegun : FileRequest → ℕ → State → ReadState → Type 0
IsBegun request look state read = (read.request ≡ request) × (read.look ≡ look) × Begins request (file_asked state request) read.content

-- it takes a chunk; at a fault it fails
abbrev pub GoesOnWith : FileRequest → FileReading → Option (List ℕ) → FileReading → Type 0
GoesOnWith request old (Some chunk) new =
    (new.file ≡ old.file) × (new.chunks ≡ old.chunks ++ chunk ∷ []) × IsStage request old.file (old.chunks ++ chunk ∷ []) new.stage
GoesOnWith request old None new = new ≡ record old { stage = Failed }

-- ---- reads in hand

-- the name of the chunk that is waited for
abbrev pub wanted_at : ReadStage → Option Digest
wanted_at (Waits name) = Some name
wanted_at stage = None

abbrev pub wanted : Result FileReading Answer → Option Digest
wanted (Ok reading) = wanted_at reading.stage
wanted (Err answer) = None

-- the reading of a read that waits goes on with what is taken; one that doesn't wait stays
abbrev pub GoesOnAt : FileRequest → Option Digest → FileReading → Option (List ℕ) → Option FileReading → Type 0
GoesOnAt request (Some name) reading taken next = (new : FileReading) × (next ≡ Some new) × GoesOnWith request reading taken new
GoesOnAt request None reading taken next = next ≡ None

abbrev pub IsNext : FileRequest → Result FileReading Answer → Option (List ℕ) → Option FileReading → Type 0
IsNext request (Ok reading) taken next = GoesOnAt request (wanted_at reading.stage) reading taken next
IsNext request (Err answer) taken next = next ≡ None

-- the answer, once there is one
abbrev pub answer_at : ReadStage → Option Answer
answer_at (Answered answer) = Some answer
answer_at stage = None

abbrev pub answer_in : Result FileReading Answer → Option Answer
answer_in (Ok reading) = answer_at reading.stage
answer_in (Err answer) = Some answer

-- ---- right answers

-- the answer to a request for a file of these bytes is the reply to it over the whole file
abbrev pub IsReplyOver : FileRequest → List ℕ → Answer → Type 0
IsReplyOver request file answer =
    (body : SentFile) × IsExact file (plan_of request file) (type_of request.path) body × (answer ≡ sent_answer request.path file body)

abbrev pub IsRightStage : FileRequest → List ℕ → List (List ℕ) → ReadStage → Type 0
IsRightStage request file chunks (Answered answer) = All (IsPure file) chunks → IsReplyOver request file answer
IsRightStage request file chunks stage = Unit {0}

-- where none of its chunks differs from a piece of the file that has its name, an answer is the reply over the file; where there is no file, it is the
-- refusal
abbrev pub IsRight : FileRequest → Result (List ℕ) Refusal → Result FileReading Answer → Type 0
IsRight request (Ok file) (Ok reading) = (reading.file ≡ file) × IsRightStage request file reading.chunks reading.stage
IsRight request (Ok file) (Err answer) = ⊥
IsRight request (Err reason) content = content ≡ Err (refused_answer reason)
