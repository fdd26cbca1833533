-- How far a connection has come.
use Rattle.std.specs.Prelude.{ℕ, zero, suc, List, Option, None, length, vec_len}
use Rattle.host_replies.specs.declared.replies.held_files.HeldFile.{HeldFile}
use Rattle.http_wire.specs.Gathering.{Gathered}
use Rattle.host_connection.specs.declared.phases.Phase.{Phase}
use Rattle.host_connection.specs.declared.phases.Phase.TheVariants as phase
use Rattle.host_connection.specs.declared.steps.Connection.{Connection}
use Rattle.host_connection.specs.declared.steps.stages.Stage.{Stage}
use Rattle.host_connection.specs.declared.steps.stages.Stage.TheVariants as stage
use Rattle.host_connection.specs.Wordings.{held_for}

-- where a head is read, by how many bytes came and were not taken
abbrev pub head_stage : ℕ → Stage
head_stage zero = stage.Idle
head_stage (suc more) = stage.Head (suc more)

-- by what it is in the middle of, with these bytes that were read and not taken, and so much gathered of a reply
abbrev pub stage_in : (buffer : List ℕ) → Gathered → Phase → Stage
stage_in buffer out phase.Head = head_stage (length buffer)
stage_in buffer out (phase.Invite i) = stage.Interim i.at i.size
stage_in buffer out (phase.Body b) = stage.Body (vec_len b.body) b.size
stage_in buffer out (phase.Reply s) = stage.Reply out.sent
stage_in buffer out (phase.Ended result) = stage.Ended

abbrev pub stage_of : Connection → Stage
stage_of c = stage_in c.wire c.out c.phase

-- what is held of a file by what it is in the middle of: by a reply that is on its way
abbrev pub held_by : Phase → Option HeldFile
held_by (phase.Reply s) = held_for s.wording
held_by phase = None
