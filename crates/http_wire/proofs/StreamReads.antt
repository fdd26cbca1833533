-- What the reads of a head and a body take from their own stream.
use Rattle.std.proofs.Common.{◌≡◌, ◌≢◌, ℕ, ◌<◌, List, length, Option, Result, Ok, Err, IfOk, IfErr, IfSome, IsErrOf, refl, subst, arith}
use Rattle.std.specs.Prelude.{vec_len}
use Rattle.std.specs.declared.vec.Vec.{Vec}
use Rattle.std.specs.Io.KnownBytes.{Keeps, Consumes, IsAtEnd}
use Rattle.http_wire.specs.declared.faults.BodyFault.{BodyFault}
use Rattle.http_wire.specs.declared.faults.BodyFault.TheVariants as body_fault
use Rattle.http_wire.specs.declared.faults.HeadFault.{HeadFault}
use Rattle.http_wire.specs.declared.faults.HeadFault.TheVariants as head_fault
use Rattle.http_wire.specs.HeadText.{CutShort}
use Rattle.http_wire.specs.Requests.{RequestParts, IsBadHead}
use Rattle.http_wire.specs.Timing.{Event, ReadFails, IsLatest}
use Rattle.http_wire.specs.Wires.{TakesHead, ServesHead, RefusesLargeHead, HasWholeHead, HeadIsOf, HeadEnds, BodyIsOf, BodyEnds}

pub head_ok : (result : Result RequestParts HeadFault) (old new : Option (List ℕ)) → HeadIsOf result old new → IfOk result (ServesHead old new)
head_ok (Ok parts) old new is = is
head_ok (Err fault) old new is = tt

pub head_bad : (result : Result RequestParts HeadFault) (old new : Option (List ℕ)) → HeadIsOf result old new → IsErrOf result head_fault.BadHead
    → (text : List ℕ) × TakesHead old new text × IsBadHead text
head_bad result old new is err = subst (λ r. HeadIsOf r old new) err is

pub head_large : (result : Result RequestParts HeadFault) (old new : Option (List ℕ)) → HeadIsOf result old new → IsErrOf result head_fault.HeadTooLarge
    → RefusesLargeHead old new
head_large result old new is err = subst (λ r. HeadIsOf r old new) err is

pub head_ended : (result : Result RequestParts HeadFault) (old new : Option (List ℕ)) → HeadIsOf result old new → IsErrOf result head_fault.Ended → IfSome old CutShort
head_ended result old new is err = let ended = subst (λ r. HeadIsOf r old new) err is in ended.0

pub head_memory : (result : Result RequestParts HeadFault) (old new : Option (List ℕ)) → HeadIsOf result old new → IsErrOf result head_fault.OutOfMemory → HasWholeHead old
head_memory result old new is err = let whole = subst (λ r. HeadIsOf r old new) err is in whole.0

pub head_kept : (result : Result RequestParts HeadFault) (old new : Option (List ℕ)) → HeadIsOf result old new → IfErr result (λ e. e ≢ head_fault.BadHead → e ≢ head_fault.HeadTooLarge → Keeps old new)
head_kept (Ok parts) old new is = tt
head_kept (Err head_fault.Ended) old new is = λ other short. is.1
head_kept (Err head_fault.ReadFault) old new is = λ other short. is
head_kept (Err head_fault.BadHead) old new is = λ other short. absurd (other refl)
head_kept (Err head_fault.HeadTooLarge) old new is = λ other short. absurd (short refl)
head_kept (Err head_fault.OutOfMemory) old new is = λ other short. is.1

pub head_failed : (read_fails : Type 0) (result : Result RequestParts HeadFault) (events : List Event) → HeadEnds result events → (IsLatest ReadFails events → read_fails)
    → IsErrOf result head_fault.ReadFault → read_fails
head_failed read_fails result events ends fails err = fails (subst (λ r. HeadEnds r events) err ends)

pub body_ok : {A : Type 0} (result : Result (Vec ℕ A) BodyFault) (size : ℕ) (old new : Option (List ℕ)) → BodyIsOf result size old new
    → IfOk result (λ body. (vec_len body ≡ size) × Consumes old new body.items)
body_ok (Ok body) size old new is = is
body_ok (Err fault) size old new is = tt

pub body_part : {A : Type 0} (result : Result (Vec ℕ A) BodyFault) (size : ℕ) (old new : Option (List ℕ)) → BodyIsOf result size old new
    → IfErr result (λ e. (bytes : List ℕ) × Consumes old new bytes × (length bytes < size))
body_part (Ok body) size old new is = tt
body_part (Err body_fault.Ended) size old new is = is.0
body_part (Err body_fault.ReadFault) size old new is = is
body_part (Err body_fault.OutOfMemory) size old new is = is

pub body_ended : {A : Type 0} (result : Result (Vec ℕ A) BodyFault) (size : ℕ) (old new : Option (List ℕ)) → BodyIsOf result size old new
    → IsErrOf result body_fault.Ended → IsAtEnd new × IfSome old (λ left. length left < size)
body_ended result size old new is err = let ended = subst (λ r. BodyIsOf r size old new) err is in ended.1

pub body_memory : {A : Type 0} (result : Result (Vec ℕ A) BodyFault) (size : ℕ) (old new : Option (List ℕ)) → BodyIsOf result size old new
    → IsErrOf result body_fault.OutOfMemory → 0 < size
body_memory result size old new is err = let part = subst (λ r. BodyIsOf r size old new) err is in omega (arith, part.2)

pub body_failed : {B : Type 0} (read_fails : Type 0) (result : Result B BodyFault) (events : List Event) → BodyEnds result events → (IsLatest ReadFails events → read_fails)
    → IsErrOf result body_fault.ReadFault → read_fails
body_failed read_fails result events ends fails err = fails (subst (λ r. BodyEnds r events) err ends)
