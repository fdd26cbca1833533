-- When an answer to a GET is read.
use Rattle.std.specs.Prelude.{◌≡◌, ℕ, ◌⊎◌, List, [], Option, Result, Ok, Err, IfSome}
use Rattle.std.specs.declared.vec.Vec.{Vec}
use Rattle.http_wire.specs.declared.answers.AnswerFault.{AnswerFault}
use Rattle.http_wire.specs.declared.answers.AnswerFault.TheVariants.{NotOk, ReadFault, BadHead, TooLong, OutOfMemory}
use Rattle.http_wire.specs.declared.faults.BodyFault.{BodyFault}
use Rattle.http_wire.specs.declared.faults.BodyFault.TheVariants as body_fault
use Rattle.http_wire.specs.declared.faults.HeadFault.{HeadFault}
use Rattle.http_wire.specs.declared.faults.HeadFault.TheVariants as head_fault
use Rattle.http_wire.specs.Answers.{IsAnswer, IsCut}
use Rattle.http_wire.specs.Timing.{Event, AtEnd, ReadFails, all_put, IsLatest, GoesOn, Gives}

-- of what came more has to come, and nothing was written since: so no body is read whose length is over the limit
abbrev pub AwaitsAnswer : (limit : ℕ) → (got put : List ℕ) → Type 0
AwaitsAnswer limit got put = IsCut limit got × (put ≡ [])

-- how the reads end with each answer
abbrev pub AnswerEnds : {B : Type 0} → Result B AnswerFault → List Event → Type 0
AnswerEnds (Ok body) events = GoesOn events
AnswerEnds (Err ReadFault) events = IsLatest AtEnd events ⊎ IsLatest ReadFails events
AnswerEnds (Err NotOk) events = GoesOn events
AnswerEnds (Err BadHead) events = GoesOn events
AnswerEnds (Err TooLong) events = GoesOn events
AnswerEnds (Err OutOfMemory) events = GoesOn events

-- nothing was written, the reads end as the answer says, and it is that of each stream of which these reads are the next
pub record ReadsAnswer {A : Type 0} (result : Result (Vec ℕ A) AnswerFault) (limit : ℕ) (events : List Event) : Type 0 where
  pub nothing_put : all_put events ≡ []
  pub ends : AnswerEnds result events
  pub of_stream : (left new_left : Option (List ℕ)) → Gives events left new_left → IfSome left (IsAnswer (IsLatest ReadFails events) result limit)

-- ---- what private functions say

-- what an answer is without a head, and without a body
abbrev pub fault_of_head : HeadFault → AnswerFault
fault_of_head head_fault.Ended = ReadFault
fault_of_head head_fault.ReadFault = ReadFault
fault_of_head head_fault.HeadTooLarge = BadHead
fault_of_head head_fault.BadHead = BadHead
fault_of_head head_fault.OutOfMemory = OutOfMemory

abbrev pub fault_of_body : BodyFault → AnswerFault
fault_of_body body_fault.Ended = ReadFault
fault_of_body body_fault.ReadFault = ReadFault
fault_of_body body_fault.OutOfMemory = OutOfMemory
