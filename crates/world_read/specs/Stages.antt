-- What the values of the code mean.
use Rattle.std.specs.Prelude.{◌≡◌, false, Result, Ok, Err}
use Rattle.host_replies.specs.Bodies.{answer_of}
use Rattle.host_replies.specs.Replies.{Answer}
use Rattle.host_replies.specs.declared.replies.Reply.{Reply}
use Rattle.world_read.specs.declared.reads.Stage.{Stage}
use Rattle.world_read.specs.declared.reads.Stage.TheVariants as of
use Rattle.world_read.specs.Reads.{Answered, Failed, FileReading, ReadStage, Waits}

abbrev pub stage_of : Stage → ReadStage
stage_of (of.Waits name) = Waits name
stage_of (of.Answered reply) = Answered (answer_of reply)
stage_of of.Failed = Failed

abbrev pub content_of : Result FileReading Reply → Result FileReading Answer
content_of (Ok reading) = Ok reading
content_of (Err reply) = Err (answer_of reply)

-- ---- what the types keep

-- the body of the answer, if there is one, is there to be sent
abbrev pub IsSentStage : ReadStage → Type 0
IsSentStage (Answered answer) = answer.withheld ≡ false
IsSentStage stage = Unit {0}

abbrev pub IsSent : Result FileReading Answer → Type 0
IsSent (Ok reading) = IsSentStage reading.stage
IsSent (Err answer) = answer.withheld ≡ false
