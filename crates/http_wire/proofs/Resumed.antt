-- A call that goes on where another would have had to wait does, together with it, what one call does.
use Rattle.std.proofs.Common.{◌≡◌, ℕ, ◌<◌, List, [], ◌++◌, length, Option, Some, None, Result, Ok, Err, sym, ap, subst, refl, ◌∙◌, append_assoc}
use Rattle.std.specs.declared.vec.Vec.{Vec}
use Rattle.std.specs.Io.KnownBytes.{Consumes, prepend_known}
use Rattle.http_wire.specs.declared.faults.BodyFault.{BodyFault}
use Rattle.http_wire.specs.declared.faults.BodyFault.TheVariants as body_fault
use Rattle.http_wire.specs.declared.faults.HeadFault.{HeadFault}
use Rattle.http_wire.specs.declared.faults.HeadFault.TheVariants as head_fault
use Rattle.http_wire.specs.declared.halts.Halt.{Halt}
use Rattle.http_wire.specs.declared.halts.Halt.TheVariants.{Failed, WouldWait}
use Rattle.http_wire.specs.Halting.{KeepsOn, Together, TriesBody, TriesHead}
use Rattle.http_wire.specs.HeadText.{CutShort}
use Rattle.http_wire.specs.Requests.{RequestParts}
use Rattle.http_wire.specs.Timing.{Event, AtEnd, ReadFails, all_got, all_put, GoesOn, Ran}
use Rattle.http_wire.specs.Wires.{AwaitsBody, AwaitsHead, BodyEnds, BodyIsOf, HeadEnds, HeadIsOf, ReadsBody, ReadsHead}
use Rattle.http_wire.proofs.SplitTrails.{gives_split}
use Rattle.http_wire.proofs.Trails.{got_joined, put_joined, goes_on_joined, latest_joined, steps_joined, timely_joined}

joined_put : (events past : List Event) → all_put events ≡ [] → all_put past ≡ [] → all_put (events ++ past) ≡ []
joined_put events past none before = put_joined events past ∙ ap (λ u. u ++ all_put events) before ∙ none

joined_buffer : (buffer mid got more : List ℕ) → mid ≡ buffer ++ got → mid ++ more ≡ buffer ++ (got ++ more)
joined_buffer buffer mid got more grown = ap (λ u. u ++ more) grown ∙ append_assoc buffer got more

-- the bytes that are left are the same before and after a read, those of the buffer before them
pub same_bytes : (left new_left : Option (List ℕ)) (buffer rest got : List ℕ) → Consumes left new_left got → Together left new_left → rest ≡ buffer ++ got
    → prepend_known buffer left ≡ prepend_known rest new_left
same_bytes None None buffer rest got taken together grown = refl
same_bytes None (Some ys) buffer rest got taken together grown = absurd together
same_bytes (Some xs) None buffer rest got taken together grown = absurd taken
same_bytes (Some xs) (Some ys) buffer rest got taken together grown =
    ap Some (ap (λ u. buffer ++ u) taken ∙ sym (append_assoc buffer got ys) ∙ ap (λ u. u ++ ys) (sym grown))

-- two waits are one
pub waits_joined : {S : Type 0} (saw : S → Event → S → Type 0) (may wide : List ℕ → List ℕ → Type 0) (old mid new : S) (buffer waiting rest : List ℕ)
    → (before : Ran saw wide old mid (KeepsOn buffer waiting)) → ((got put : List ℕ) → may got put → wide (all_got before.events ++ got) (all_put before.events ++ put))
    → Ran saw may mid new (KeepsOn waiting rest) → Ran saw wide old new (KeepsOn buffer rest)
waits_joined saw may wide old mid new buffer waiting rest before widens after =
    record {
      events = after.events ++ before.events;
      steps = steps_joined saw old mid new after.events before.events before.steps after.steps;
      timely = timely_joined may wide after.events before.events widens after.timely before.claimed.goes_on before.timely;
      claimed = record {
        nothing_put = joined_put after.events before.events after.claimed.nothing_put before.claimed.nothing_put;
        goes_on = goes_on_joined after.events before.events after.claimed.goes_on before.claimed.goes_on;
        grown = after.claimed.grown ∙ joined_buffer buffer waiting (all_got before.events) (all_got after.events) before.claimed.grown
            ∙ ap (λ u. buffer ++ u) (sym (got_joined after.events before.events));
      };
    }

-- ---- a head

pub head_awaited : (buffer mid : List ℕ) (past : List Event) → KeepsOn buffer mid past → (got put : List ℕ) → AwaitsHead mid got put
    → AwaitsHead buffer (all_got past ++ got) (all_put past ++ put)
head_awaited buffer mid past keeps got put awaits =
    (subst CutShort (joined_buffer buffer mid (all_got past) got keeps.grown) awaits.0, ap (λ u. u ++ put) keeps.nothing_put ∙ awaits.1)

head_ends : (result : Result RequestParts HeadFault) (events past : List Event) → GoesOn past → HeadEnds result events → HeadEnds result (events ++ past)
head_ends (Ok parts) events past on ends = goes_on_joined events past ends on
head_ends (Err head_fault.Ended) events past on ends = latest_joined AtEnd events past ends
head_ends (Err head_fault.ReadFault) events past on ends = latest_joined ReadFails events past ends
head_ends (Err head_fault.HeadTooLarge) events past on ends = goes_on_joined events past ends on
head_ends (Err head_fault.BadHead) events past on ends = goes_on_joined events past ends on
head_ends (Err head_fault.OutOfMemory) events past on ends = goes_on_joined events past ends on

head_joined : {S : Type 0} (saw : S → Event → S → Type 0) (old mid new : S) (buffer waiting rest : List ℕ) (result : Result RequestParts HeadFault)
    → Ran saw (AwaitsHead buffer) old mid (KeepsOn buffer waiting) → Ran saw (AwaitsHead waiting) mid new (ReadsHead result waiting rest)
    → Ran saw (AwaitsHead buffer) old new (ReadsHead result buffer rest)
head_joined saw old mid new buffer waiting rest result before after =
    let keeps = before.claimed in
    record {
      events = after.events ++ before.events;
      steps = steps_joined saw old mid new after.events before.events before.steps after.steps;
      timely = timely_joined (AwaitsHead waiting) (AwaitsHead buffer) after.events before.events (head_awaited buffer waiting before.events keeps)
          after.timely keeps.goes_on before.timely;
      claimed = record {
        nothing_put = joined_put after.events before.events after.claimed.nothing_put keeps.nothing_put;
        ends = head_ends result after.events before.events keeps.goes_on after.claimed.ends;
        of_stream = λ left new_left gives. (
            let parted = gives_split after.events before.events left new_left keeps.goes_on gives in
            let same : prepend_known buffer left ≡ prepend_known waiting parted.mid =
            same_bytes left parted.mid buffer waiting (all_got before.events) parted.first.taken parted.together keeps.grown in
            let P : Option (List ℕ) → Type 0 = λ old_left. HeadIsOf result old_left (prepend_known rest new_left) in
            subst P (sym same) (after.claimed.of_stream parted.mid new_left parted.second)
            );
      };
    }

pub head_goes_on : {S : Type 0} (saw : S → Event → S → Type 0) (old mid new : S) (buffer waiting rest : List ℕ) (result : Result RequestParts (Halt HeadFault))
    → Ran saw (AwaitsHead buffer) old mid (KeepsOn buffer waiting) → Ran saw (AwaitsHead waiting) mid new (TriesHead result waiting rest)
    → Ran saw (AwaitsHead buffer) old new (TriesHead result buffer rest)
head_goes_on saw old mid new buffer waiting rest (Ok parts) before after = head_joined saw old mid new buffer waiting rest (Ok parts) before after
head_goes_on saw old mid new buffer waiting rest (Err (Failed why)) before after = head_joined saw old mid new buffer waiting rest (Err why) before after
head_goes_on saw old mid new buffer waiting rest (Err WouldWait) before after =
    waits_joined saw (AwaitsHead waiting) (AwaitsHead buffer) old mid new buffer waiting rest before (head_awaited buffer waiting before.events before.claimed) after

-- ---- a body: the part that came counts as what is before the buffer

pub body_awaited : (size : ℕ) (buffer mid : List ℕ) (past : List Event) → KeepsOn buffer mid past → (got put : List ℕ) → AwaitsBody mid size got put
    → AwaitsBody buffer size (all_got past ++ got) (all_put past ++ put)
body_awaited size buffer mid past keeps got put awaits =
    (subst (λ (b : List ℕ). length b < size) (joined_buffer buffer mid (all_got past) got keeps.grown) awaits.0, ap (λ u. u ++ put) keeps.nothing_put ∙ awaits.1)

body_ends : {B : Type 0} (result : Result B BodyFault) (events past : List Event) → GoesOn past → BodyEnds result events → BodyEnds result (events ++ past)
body_ends (Ok body) events past on ends = goes_on_joined events past ends on
body_ends (Err body_fault.Ended) events past on ends = latest_joined AtEnd events past ends
body_ends (Err body_fault.ReadFault) events past on ends = latest_joined ReadFails events past ends
body_ends (Err body_fault.OutOfMemory) events past on ends = goes_on_joined events past ends on

body_joined : {S A : Type 0} (saw : S → Event → S → Type 0) (old mid new : S) (size : ℕ) (buffer waiting rest : List ℕ) (result : Result (Vec ℕ A) BodyFault)
    → Ran saw (AwaitsBody buffer size) old mid (KeepsOn buffer waiting) → Ran saw (AwaitsBody waiting size) mid new (ReadsBody {A = A} result size waiting rest)
    → Ran saw (AwaitsBody buffer size) old new (ReadsBody {A = A} result size buffer rest)
body_joined {A = A} saw old mid new size buffer waiting rest result before after =
    let keeps = before.claimed in
    record {
      events = after.events ++ before.events;
      steps = steps_joined saw old mid new after.events before.events before.steps after.steps;
      timely = timely_joined (AwaitsBody waiting size) (AwaitsBody buffer size) after.events before.events (body_awaited size buffer waiting before.events keeps)
          after.timely keeps.goes_on before.timely;
      claimed = record {
        nothing_put = joined_put after.events before.events after.claimed.nothing_put keeps.nothing_put;
        ends = body_ends result after.events before.events keeps.goes_on after.claimed.ends;
        leaves = after.claimed.leaves;
        of_stream = λ left new_left gives. (
            let parted = gives_split after.events before.events left new_left keeps.goes_on gives in
            let same : prepend_known buffer left ≡ prepend_known waiting parted.mid =
            same_bytes left parted.mid buffer waiting (all_got before.events) parted.first.taken parted.together keeps.grown in
            let P : Option (List ℕ) → Type 0 = λ old_left. BodyIsOf {A = A} result size old_left (prepend_known rest new_left) in
            subst P (sym same) (after.claimed.of_stream parted.mid new_left parted.second)
            );
      };
    }

pub body_goes_on : {S A : Type 0} (saw : S → Event → S → Type 0) (old mid new : S) (size : ℕ) (before_it waiting rest : List ℕ) (body : Vec ℕ A) (result : Result (Unit {0}) (Halt BodyFault))
    → Ran saw (AwaitsBody before_it size) old mid (KeepsOn before_it waiting) → Ran saw (AwaitsBody waiting size) mid new (TriesBody {A = A} result size waiting body rest)
    → Ran saw (AwaitsBody before_it size) old new (TriesBody {A = A} result size before_it body rest)
body_goes_on {A = A} saw old mid new size before_it waiting rest body (Ok tt) before after =
    body_joined {A = A} saw old mid new size before_it waiting rest (Ok body) before after
body_goes_on {A = A} saw old mid new size before_it waiting rest body (Err (Failed why)) before after =
    body_joined {A = A} saw old mid new size before_it waiting rest (Err why) before after
body_goes_on saw old mid new size before_it waiting rest body (Err WouldWait) before after =
    waits_joined saw (AwaitsBody waiting size) (AwaitsBody before_it size) old mid new before_it waiting (body.items ++ rest) before
    (body_awaited size before_it waiting before.events before.claimed) after
