-- The connection of a peer between two steps: what it has written so far, and what a step leads to.
use Rattle.std.specs.Prelude.{◌≡◌, ◌⊎◌, ℕ, ◌+◌, ◌<◌, ◌≤◌, List, [], Bool, true, false, Option, Result, Ok, Err, IsErrOf, length, take, option_map}
use Rattle.std.specs.Io.KnownBytes.{Appends}
use Rattle.http_wire.specs.declared.faults.HeadFault.{HeadFault}
use Rattle.http_wire.specs.declared.faults.HeadFault.TheVariants as head_fault
use Rattle.http_wire.specs.Gathering.{Gathered, IsAmid, IsCounted, nothing}
use Rattle.http_wire.specs.HeadText.{CutShort}
use Rattle.http_wire.specs.Requests.{RequestParts}
use Rattle.peer_link.specs.declared.phases.PeerAnswer.{PeerAnswer}
use Rattle.peer_link.specs.declared.connections.PeerConnection.{PeerConnection}
use Rattle.peer_link.specs.declared.phases.PeerPhase.{PeerPhase}
use Rattle.peer_link.specs.declared.phases.PeerPhase.TheVariants as phase
use Rattle.peer_link.specs.declared.connections.PeerProgress.{PeerProgress}
use Rattle.peer_link.specs.declared.connections.PeerProgress.TheVariants as progress
use Rattle.peer_link.specs.declared.connections.PeerWants.{PeerWants}
use Rattle.peer_link.specs.declared.connections.PeerWants.TheVariants as wants
use Rattle.peer_link.specs.declared.faults.ServeFault.{ServeFault}
use Rattle.peer_link.specs.declared.faults.ServeFault.TheVariants as fault
use Rattle.http_wire.specs.Wires.{ServesHead}
use Rattle.peer_link.specs.Answers.{Answers, HasServed, Known, answer_text, known}

-- the chunk of an answer, if there is one
abbrev pub chunk_of : PeerAnswer → Option (List ℕ)
chunk_of answer = option_map (λ chunk. chunk.value) answer.chunk

-- all bytes of an answer
abbrev pub text_of : PeerAnswer → List ℕ
text_of answer = answer_text (chunk_of answer)

-- requests were answered; then one more was taken, which has this answer, and the front of it was written up to this place
pub record HasBegun (first now : Known) (answer : Option (List ℕ)) (at : ℕ) : Type 0 where
  pub mid : Known
  pub served : HasServed first mid
  pub parts : RequestParts
  pub request : ServesHead mid.left now.left parts
  pub answers : Answers parts answer
  pub front : Appends mid.held now.held (take at (answer_text answer))

-- the same of an answer that is on its way: what is gathered of it comes next
pub record IsAmidAnswer (first now : Known) (answer : Option (List ℕ)) (out : Gathered) : Type 0 where
  pub at : ℕ
  pub begun : HasBegun first now answer at
  pub amid : IsAmid (answer_text answer) at out

-- the front of an answer was written, and some of it was not
pub record IsAnswerCut (first now : Known) : Type 0 where
  pub answer : Option (List ℕ)
  pub at : ℕ
  pub begun : HasBegun first now answer at
  pub cut : at < length (answer_text answer)

-- requests were answered, and no other byte was written, whatever is left to be read
abbrev pub HasServedSome : (first now : Known) → Type 0
HasServedSome first now = (left : Option (List ℕ)) × HasServed first (record { left = left; held = now.held })

-- the same where an answer was cut
abbrev pub IsCutSomewhere : (first now : Known) → Type 0
IsCutSomewhere first now = (left : Option (List ℕ)) × IsAnswerCut first (record { left = left; held = now.held })

-- what a connection did that ended: whole answers, unless a write failed; it is said that a read or a write failed only where one can
abbrev pub HasEnded : (read_fails write_fails : Type 0) → Result (Unit {0}) ServeFault → (first now : Known) → Type 0
HasEnded read_fails write_fails (Ok done) first now = HasServedSome first now
HasEnded read_fails write_fails (Err fault.BadHead) first now = HasServedSome first now
HasEnded read_fails write_fails (Err fault.ReadFault) first now = read_fails × HasServedSome first now
HasEnded read_fails write_fails (Err fault.WriteFault) first now = write_fails × IsCutSomewhere first now
HasEnded read_fails write_fails (Err fault.OutOfMemory) first now = HasServedSome first now

-- what a connection has done since its stream was so, by what it is in the middle of
abbrev pub Carried : (read_fails write_fails : Type 0) → (first now : Known) → Gathered → PeerPhase → Type 0
Carried read_fails write_fails first now out phase.Head = HasServed first now
Carried read_fails write_fails first now out (phase.Answer answer) = IsAmidAnswer first now (chunk_of answer) out
Carried read_fails write_fails first now out (phase.Ended result) = HasEnded read_fails write_fails result first now

-- the same of a connection's value, with what is left of its stream and what that holds
abbrev pub Carries : (read_fails write_fails : Type 0) → (first : Known) → (left held : Option (List ℕ)) → PeerConnection → Type 0
Carries read_fails write_fails first left held c = Carried read_fails write_fails first (known c.wire left held) c.out c.phase

-- to read it waits while no whole head has come, to write while an answer is on its way
abbrev pub Awaits : PeerWants → (buffer : List ℕ) → PeerPhase → Type 0
Awaits wants.Read buffer phase.Head = CutShort buffer
Awaits wants.Read buffer (phase.Answer answer) = ⊥
Awaits wants.Read buffer (phase.Ended result) = ⊥
Awaits wants.Write buffer phase.Head = ⊥
Awaits wants.Write buffer (phase.Answer answer) = Unit {0}
Awaits wants.Write buffer (phase.Ended result) = ⊥

-- The stream as it is has to wait. Or 2^64 bytes of an answer were written, which are no longer counted: then it goes no further.
abbrev pub IsHeldUp : (waits : Type 0) → PeerWants → Gathered → Type 0
IsHeldUp waits wants.Read out = waits
IsHeldUp waits wants.Write out = waits ⊎ ¬ (IsCounted out)

-- what a step leads to: a connection that is still carried; it waits only where the stream has to, and as its phase says
abbrev pub Leads : (read_fails write_fails waits : Type 0) → (first : Known) → (left held : Option (List ℕ)) → PeerConnection → PeerProgress → Type 0
Leads read_fails write_fails waits first left held c (progress.Waits w) =
    Carries read_fails write_fails first left held c × IsHeldUp waits w c.out × Awaits w c.wire c.phase
Leads read_fails write_fails waits first left held c progress.More = Carries read_fails write_fails first left held c
Leads read_fails write_fails waits first left held c (progress.Ended result) =
    HasEnded read_fails write_fails result first (known c.wire left held) × (c.phase ≡ phase.Ended result)

-- it has read and written nothing
abbrev pub IsFresh : PeerConnection → Type 0
IsFresh c = (c.wire ≡ []) × (c.number ≡ 1) × (c.phase ≡ phase.Head)

-- ---- what private functions say

-- an answer is on its way
abbrev pub IsAnswer : PeerPhase → Type 0
IsAnswer phase.Head = ⊥
IsAnswer (phase.Answer answer) = Unit {0}
IsAnswer (phase.Ended result) = ⊥

-- an answer to this request is on its way
abbrev pub IsAnswerTo : RequestParts → PeerPhase → Type 0
IsAnswerTo parts phase.Head = ⊥
IsAnswerTo parts (phase.Answer answer) = Answers parts (chunk_of answer)
IsAnswerTo parts (phase.Ended result) = ⊥

-- what follows where a head was read, or none: it is answered; or the connection ends
abbrev pub FollowsHead : Result RequestParts HeadFault → Gathered → PeerPhase → PeerProgress → Type 0
FollowsHead read out p (progress.Waits w) = ⊥
FollowsHead read out p progress.More = (out ≡ nothing) × ((parts : RequestParts) × (read ≡ Ok parts) × IsAnswerTo parts p)
FollowsHead read out p (progress.Ended result) =
    (p ≡ phase.Ended result) × (IsErrOf result fault.ReadFault → IsErrOf read head_fault.ReadFault) × (IsErrOf result fault.WriteFault → ⊥)

-- what follows the answer to the request of number n
abbrev pub FollowsAnswer : (close : Bool) → (n new_n : ℕ) → PeerPhase → PeerProgress → Type 0
FollowsAnswer close n new_n p (progress.Waits w) = ⊥
FollowsAnswer close n new_n p progress.More = (close ≡ false) × (n < 100) × (new_n ≡ n + 1) × (p ≡ phase.Head)
FollowsAnswer close n new_n p (progress.Ended result) =
    ((close ≡ true) ⊎ (100 ≤ n)) × (result ≡ Ok tt) × (p ≡ phase.Ended result)
