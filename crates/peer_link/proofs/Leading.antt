-- What the steps of a peer's connection lead to.
use Rattle.std.proofs.Common.{◌≡◌, ℕ, List, [], ◌++◌, Bool, Option, Result, Ok, Err, IsErrOf, IfOk, refl, sym, subst}
use Rattle.std.specs.Io.KnownBytes.{Consumes, Keeps, prepend_known}
use Rattle.http_wire.specs.declared.faults.HeadFault.{HeadFault}
use Rattle.http_wire.specs.declared.faults.HeadFault.TheVariants as head_fault
use Rattle.http_wire.specs.declared.halts.Halt.{Halt}
use Rattle.http_wire.specs.declared.halts.Halt.TheVariants.{Failed, WouldWait}
use Rattle.http_wire.specs.Gathering.{Gathered, nothing}
use Rattle.http_wire.specs.Halting.{TriesHead}
use Rattle.http_wire.specs.Requests.{RequestParts}
use Rattle.http_wire.specs.Timing.{Event, ReadFails, all_got, all_put, Gives, IsLatest}
use Rattle.http_wire.specs.Wires.{ServesHead}
use Rattle.peer_link.specs.declared.connections.PeerConnection.{PeerConnection}
use Rattle.peer_link.specs.declared.connections.PeerProgress.{PeerProgress}
use Rattle.peer_link.specs.declared.connections.PeerProgress.TheVariants as progress
use Rattle.peer_link.specs.declared.faults.ServeFault.{ServeFault}
use Rattle.peer_link.specs.declared.faults.ServeFault.TheVariants as fault
use Rattle.peer_link.specs.declared.phases.PeerPhase.{PeerPhase}
use Rattle.peer_link.specs.declared.phases.PeerPhase.TheVariants as phase
use Rattle.peer_link.specs.Answers.{HasServed, Known, known}
use Rattle.peer_link.specs.Carrying.{Carried, FollowsAnswer, FollowsHead, HasEnded, IsAnswerTo, Leads, chunk_of}
use Rattle.peer_link.proofs.Carried.{begins}
use Rattle.peer_link.proofs.Served.{came}

-- ---- a head

pub nothing_put : (result : Result RequestParts (Halt HeadFault)) (buffer new_buffer : List ℕ) (events : List Event) → TriesHead result buffer new_buffer events → all_put events ≡ []
nothing_put (Ok parts) buffer new_buffer events tries = tries.nothing_put
nothing_put (Err (Failed why)) buffer new_buffer events tries = tries.nothing_put
nothing_put (Err WouldWait) buffer new_buffer events tries = tries.nothing_put

pub read_failed : (result : Result RequestParts (Halt HeadFault)) (buffer new_buffer : List ℕ) (events : List Event) → IsErrOf result (Failed head_fault.ReadFault)
    → TriesHead result buffer new_buffer events → IsLatest ReadFails events
read_failed result buffer new_buffer events is tries =
    let at = subst (λ (r : Result RequestParts (Halt HeadFault)). TriesHead r buffer new_buffer events) is tries in
    at.ends

-- a head that was read is gone from the stream
pub head_read : (result : Result RequestParts (Halt HeadFault)) (buffer new_buffer : List ℕ) (events : List Event) (left new_left : Option (List ℕ))
    → TriesHead result buffer new_buffer events → Gives events left new_left
    → IfOk result (λ parts. ServesHead (prepend_known buffer left) (prepend_known new_buffer new_left) parts)
head_read (Ok parts) buffer new_buffer events left new_left tries gives = tries.of_stream left new_left gives
head_read (Err why) buffer new_buffer events left new_left tries gives = tt

-- where a read would have to wait, the stream is as it was, with what came behind what was there
pub head_awaited : (result : Result RequestParts (Halt HeadFault)) (buffer new_buffer : List ℕ) (events : List Event) (left new_left : Option (List ℕ))
    → IsErrOf result WouldWait → TriesHead result buffer new_buffer events → Gives events left new_left
    → Keeps (prepend_known buffer left) (prepend_known new_buffer new_left)
head_awaited result buffer new_buffer events left new_left is tries gives =
    let at = subst (λ (r : Result RequestParts (Halt HeadFault)). TriesHead r buffer new_buffer events) is tries in
    subst (λ (b : List ℕ). Keeps (prepend_known buffer left) (prepend_known b new_left)) (sym at.grown) (came buffer (all_got events) left new_left gives.taken)

answering : (read_fails write_fails : Type 0) (first now : Known) (left : Option (List ℕ)) (parts : RequestParts) (out : Gathered) (p : PeerPhase)
    → HasServed first (record { left = left; held = now.held }) → ServesHead left now.left parts → out ≡ nothing → IsAnswerTo parts p
    → Carried read_fails write_fails first now out p
answering read_fails write_fails first now left parts out phase.Head served request none to = absurd to
answering read_fails write_fails first now left parts out (phase.Answer answer) served request none to =
    begins first now left (chunk_of answer) parts out served request to none
answering read_fails write_fails first now left parts out (phase.Ended result) served request none to = absurd to

ended : (read_fails write_fails : Type 0) (result : Result (Unit {0}) ServeFault) (first now : Known) (left : Option (List ℕ)) → HasServed first (record { left = left; held = now.held })
    → (IsErrOf result fault.ReadFault → read_fails) → (IsErrOf result fault.WriteFault → ⊥) → HasEnded read_fails write_fails result first now
ended read_fails write_fails (Ok done) first now left served fails never = (left, served)
ended read_fails write_fails (Err fault.BadHead) first now left served fails never = (left, served)
ended read_fails write_fails (Err fault.ReadFault) first now left served fails never = (fails refl, (left, served))
ended read_fails write_fails (Err fault.WriteFault) first now left served fails never = absurd (never refl)
ended read_fails write_fails (Err fault.OutOfMemory) first now left served fails never = (left, served)

pub head_leads : (read_fails write_fails waits : Type 0) (first : Known) (before left held : Option (List ℕ)) (read : Result RequestParts HeadFault) (c : PeerConnection) (p : PeerProgress)
    → HasServed first (record { left = before; held = held })
    → ((parts : RequestParts) → read ≡ Ok parts → ServesHead before (prepend_known c.wire left) parts)
    → (IsErrOf read head_fault.ReadFault → read_fails) → FollowsHead read c.out c.phase p → Leads read_fails write_fails waits first left held c p
head_leads read_fails write_fails waits first before left held read c (progress.Waits w) served request fails follows = absurd follows
head_leads read_fails write_fails waits first before left held read c progress.More served request fails follows =
    answering read_fails write_fails first (known c.wire left held) before follows.1.0 c.out c.phase served (request follows.1.0 follows.1.1) follows.0 follows.1.2
head_leads read_fails write_fails waits first before left held read c (progress.Ended result) served request fails follows =
    (ended read_fails write_fails result first (known c.wire left held) before served (λ e. fails (follows.1 e)) follows.2, follows.0)

-- ---- an answer

pub answer_leads : (read_fails write_fails waits : Type 0) (first : Known) (left held : Option (List ℕ)) (close : Bool) (n : ℕ) (c : PeerConnection) (p : PeerProgress)
    → HasServed first (known c.wire left held) → FollowsAnswer close n c.number c.phase p → Leads read_fails write_fails waits first left held c p
answer_leads read_fails write_fails waits first left held close n c (progress.Waits w) served follows = absurd follows
answer_leads read_fails write_fails waits first left held close n c progress.More served follows =
    subst (λ (q : PeerPhase). Carried read_fails write_fails first (known c.wire left held) c.out q) (sym follows.3) served
answer_leads read_fails write_fails waits first left held close n c (progress.Ended result) served follows =
    let H : Result (Unit {0}) ServeFault → Type 0 = λ r. HasEnded read_fails write_fails r first (known c.wire left held) in
    (subst H (sym follows.1) (prepend_known c.wire left, served), follows.2)

pub end_leads : (read_fails write_fails waits : Type 0) (first : Known) (left held : Option (List ℕ)) (why : Result (Unit {0}) ServeFault) (c : PeerConnection) (p : PeerProgress)
    → p ≡ progress.Ended why → c.phase ≡ phase.Ended why → HasEnded read_fails write_fails why first (known c.wire left held)
    → Leads read_fails write_fails waits first left held c p
end_leads read_fails write_fails waits first left held why c p is at has =
    subst (λ (q : PeerProgress). Leads read_fails write_fails waits first left held c q) (sym is) (has, at)
