-- What the connection of a peer is doing.
use Rattle.std.specs.Prelude.{ℕ, zero, suc, length}
use Rattle.peer_link.specs.declared.connections.PeerConnection.{PeerConnection}
use Rattle.peer_link.specs.declared.phases.PeerPhase.{PeerPhase}
use Rattle.peer_link.specs.declared.phases.PeerPhase.TheVariants as phase
use Rattle.peer_link.specs.declared.connections.PeerStage.{PeerStage}
use Rattle.peer_link.specs.declared.connections.PeerStage.TheVariants as stage

-- in a head of which this many bytes came
abbrev pub head_stage : (buffered : ℕ) → PeerStage
head_stage zero = stage.Idle
head_stage (suc more) = stage.Head

-- the same by its phase
abbrev pub stage_in : (buffered : ℕ) → PeerPhase → PeerStage
stage_in buffered phase.Head = head_stage buffered
stage_in buffered (phase.Answer answer) = stage.Answer
stage_in buffered (phase.Ended result) = stage.Ended

abbrev pub stage_of : PeerConnection → PeerStage
stage_of c = stage_in (length c.wire) c.phase
