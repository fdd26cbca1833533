-- What the reads of a head and a body bring.
use Rattle.std.proofs.Common.{◌≡◌, ℕ, ◌<◌, ◌≤◌, inl, inr, true, false, List, [], ◌∷◌, ◌++◌, length, take, drop, Option, Some, None, Result, Ok, Err, refl, sym, ap, ◌∙◌, subst, append_assoc, append-nil, arith}
use Rattle.std.specs.Io.KnownBytes.{Keeps, prepend_known}
use Rattle.http_wire.specs.declared.faults.HeadFault.{HeadFault}
use Rattle.http_wire.specs.declared.faults.HeadFault.TheVariants as head_fault
use Rattle.http_wire.specs.declared.halts.Halt.{Halt}
use Rattle.http_wire.specs.declared.halts.Halt.TheVariants.{Failed, WouldWait}
use Rattle.http_wire.specs.declared.scans.State.{State}
use Rattle.http_wire.specs.Halting.{KeepsOn, TriesHead, TriesToFind}
use Rattle.http_wire.specs.HeadText.{CutShort, head_limit}
use Rattle.http_wire.specs.Requests.{RequestParts, Says, IsParsedAs}
use Rattle.http_wire.specs.Scanning.{is_done}
use Rattle.http_wire.specs.Timing.{Event, AtEnd, ReadFails, read_of, all_got, all_put, GoesOn, Timely, Steps, Gives, Ran}
use Rattle.http_wire.specs.Wires.{AwaitsHead, ReadsHead, FindsHead, TakesHead}
use Rattle.http_wire.proofs.Searches.{HasScanned, none_found, head_before, overlong_from, cut_short_from}
use Rattle.http_wire.proofs.Taking.{head_taken}
use Rattle.http_wire.proofs.Trails.{got_read, put_read, goes_on_read, timely_read}

-- ---- a head

-- what was read of a head so far
pub record HeadSoFar {S : Type 0} (saw : S → Event → S → Type 0) (old new : S) (buffer bytes : List ℕ) : Type 0 where
  pub events : List Event
  pub steps : Steps saw old events new
  pub timely : Timely (AwaitsHead buffer) events
  pub goes_on : GoesOn events
  pub nothing_put : all_put events ≡ []
  pub grown : bytes ≡ buffer ++ all_got events

pub none_read : {S : Type 0} (saw : S → Event → S → Type 0) (old : S) (buffer : List ℕ) → HeadSoFar saw old old buffer buffer
none_read saw old buffer = record {
  events = [];
  steps = refl;
  timely = tt;
  goes_on = tt;
  nothing_put = refl;
  grown = sym (append-nil buffer);
}

-- no whole head has come where the scan is not done and there is room
pub awaits : {S : Type 0} (saw : S → Event → S → Type 0) (old new : S) (buffer bytes : List ℕ) (state : State) (scanned : ℕ)
    (so : HeadSoFar saw old new buffer bytes) → HasScanned bytes state scanned → is_done state ≡ false → length bytes < head_limit
    → AwaitsHead buffer (all_got so.events) (all_put so.events)
awaits saw old new buffer bytes state scanned so scan nd room = (
  subst CutShort so.grown (cut_short_from (Some bytes) (Some []) bytes (append-nil bytes) refl room (none_found bytes state scanned scan nd)),
  so.nothing_put,
)

-- so no whole head is there
pub short_there : (bytes : List ℕ) (state : State) (scanned : ℕ) → HasScanned bytes state scanned → is_done state ≡ false → length bytes < head_limit → CutShort bytes
short_there bytes state scanned scan nd room = cut_short_from (Some bytes) (Some []) bytes (append-nil bytes) refl room (none_found bytes state scanned scan nd)

-- one read more
pub read_more : {S : Type 0} (saw : S → Event → S → Type 0) (old mid new : S) (buffer bytes piece more : List ℕ) (state : State) (scanned : ℕ)
    (so : HeadSoFar saw old mid buffer bytes) → HasScanned bytes state scanned → is_done state ≡ false → length bytes < head_limit → more ≡ bytes ++ piece → 0 < length piece
    → saw mid (read_of piece) new → HeadSoFar saw old new buffer more
read_more saw old mid new buffer bytes piece more state scanned so scan nd room longer some seen = record {
  events = read_of piece ∷ so.events;
  steps = (mid, so.steps, seen);
  timely = timely_read (AwaitsHead buffer) piece so.events so.goes_on (awaits saw old mid buffer bytes state scanned so scan nd room) so.timely;
  goes_on = goes_on_read piece so.events some;
  nothing_put = put_read piece so.events ∙ so.nothing_put;
  grown = longer ∙ ap (λ u. u ++ piece) so.grown ∙ append_assoc buffer (all_got so.events) piece ∙ ap (λ u. buffer ++ u) (sym (got_read piece so.events));
}

-- the head is whole
pub found : {S : Type 0} (saw : S → Event → S → Type 0) (old new : S) (buffer bytes : List ℕ) (state : State) (scanned : ℕ)
    → HeadSoFar saw old new buffer bytes → HasScanned bytes state scanned → is_done state ≡ true
    → Ran saw (AwaitsHead buffer) old new (FindsHead (Ok scanned) buffer bytes)
found saw old new buffer bytes state scanned so scan done = record {
  events = so.events;
  steps = so.steps;
  timely = so.timely;
  claimed = record {
    nothing_put = so.nothing_put;
    grown = so.grown;
    found = (so.goes_on, scan.searched.within, head_before bytes state scanned scan done);
  };
}

-- the head is too long
pub too_long : {S : Type 0} (saw : S → Event → S → Type 0) (old new : S) (buffer bytes : List ℕ) (state : State) (scanned : ℕ)
    → HeadSoFar saw old new buffer bytes → HasScanned bytes state scanned → is_done state ≡ false → length bytes ≡ head_limit
    → Ran saw (AwaitsHead buffer) old new (FindsHead (Err head_fault.HeadTooLarge) buffer bytes)
too_long saw old new buffer bytes state scanned so scan nd full = record {
  events = so.events;
  steps = so.steps;
  timely = so.timely;
  claimed = record {
    nothing_put = so.nothing_put;
    grown = so.grown;
    found = (so.goes_on, λ stream known kept. overlong_from stream known bytes kept full (none_found bytes state scanned scan nd));
  };
}

-- a read failed
pub read_failed : {S : Type 0} (saw : S → Event → S → Type 0) (old mid new : S) (buffer bytes same : List ℕ) (state : State) (scanned : ℕ)
    → HeadSoFar saw old mid buffer bytes → HasScanned bytes state scanned → is_done state ≡ false → length bytes < head_limit → same ≡ bytes
    → saw mid ReadFails new → Ran saw (AwaitsHead buffer) old new (FindsHead (Err head_fault.ReadFault) buffer same)
read_failed saw old mid new buffer bytes same state scanned so scan nd room is seen = record {
  events = ReadFails ∷ so.events;
  steps = (mid, so.steps, seen);
  timely = (so.goes_on, awaits saw old mid buffer bytes state scanned so scan nd room, so.timely);
  claimed = record { nothing_put = so.nothing_put; grown = is ∙ so.grown; found = refl };
}

-- a read would have to wait
pub would_wait : {S : Type 0} (saw : S → Event → S → Type 0) (old mid new : S) (buffer bytes same : List ℕ)
    → HeadSoFar saw old mid buffer bytes → same ≡ bytes → new ≡ mid → Ran saw (AwaitsHead buffer) old new (KeepsOn buffer same)
would_wait {S} saw old mid new buffer bytes same so is stays = record {
  events = so.events;
  steps = subst (λ (s : S). Steps saw old so.events s) (sym stays) so.steps;
  timely = so.timely;
  claimed = record { nothing_put = so.nothing_put; goes_on = so.goes_on; grown = is ∙ so.grown };
}

-- the input ended
pub input_ended : {S : Type 0} (saw : S → Event → S → Type 0) (old mid new : S) (buffer bytes piece more : List ℕ) (state : State) (scanned : ℕ)
    → HeadSoFar saw old mid buffer bytes → HasScanned bytes state scanned → is_done state ≡ false → length bytes < head_limit → more ≡ bytes ++ piece → length piece ≡ 0
    → saw mid (read_of piece) new → Ran saw (AwaitsHead buffer) old new (FindsHead (Err head_fault.Ended) buffer more)
input_ended saw old mid new buffer bytes (b ∷ piece) more state scanned so scan nd room longer none seen = absurd (omega (arith, none))
input_ended saw old mid new buffer bytes [] more state scanned so scan nd room longer none seen =
    let same : more ≡ bytes = longer ∙ append-nil bytes in
    let claim : FindsHead (Err head_fault.Ended) buffer bytes (AtEnd ∷ so.events) = record {
      nothing_put = so.nothing_put;
      grown = so.grown;
      found = (refl, λ stream known kept end. cut_short_from stream known bytes kept end room (none_found bytes state scanned scan nd));
    } in
    record {
      events = AtEnd ∷ so.events;
      steps = (mid, so.steps, seen);
      timely = (so.goes_on, awaits saw old mid buffer bytes state scanned so scan nd room, so.timely);
      claimed = subst (λ b. FindsHead (Err head_fault.Ended) buffer b (AtEnd ∷ so.events)) (sym same) claim;
    }

-- what is left stays what it was where bytes come to the buffer
pub kept_behind : (events : List Event) (left new_left : Option (List ℕ)) (buffer bytes : List ℕ) → Gives events left new_left → bytes ≡ buffer ++ all_got events
    → Keeps (prepend_known buffer left) (prepend_known bytes new_left)
kept_behind events None new_left buffer bytes gives grown = tt
kept_behind events (Some xs) None buffer bytes gives grown = absurd gives.taken
kept_behind events (Some xs) (Some ys) buffer bytes gives grown =
    ap (λ u. u ++ ys) grown ∙ append_assoc buffer (all_got events) ys ∙ ap (λ u. buffer ++ u) (sym gives.taken)

-- why there is no head
pub head_missed : (fault : HeadFault) (buffer bytes : List ℕ) (events : List Event) → FindsHead (Err fault) buffer bytes events
    → ReadsHead (Err fault) buffer bytes events
head_missed head_fault.Ended buffer bytes events finds = record {
  nothing_put = finds.nothing_put;
  ends = finds.found.0;
  of_stream = λ left new_left gives. (
    finds.found.1 (prepend_known buffer left) new_left (kept_behind events left new_left buffer bytes gives finds.grown) (gives.end finds.found.0),
    kept_behind events left new_left buffer bytes gives finds.grown,
  );
}
head_missed head_fault.ReadFault buffer bytes events finds = record {
  nothing_put = finds.nothing_put;
  ends = finds.found;
  of_stream = λ left new_left gives. kept_behind events left new_left buffer bytes gives finds.grown;
}
head_missed head_fault.BadHead buffer bytes events finds = absurd finds.found
head_missed head_fault.HeadTooLarge buffer bytes events finds = record {
  nothing_put = finds.nothing_put;
  ends = finds.found.0;
  of_stream = λ left new_left gives. inr (
    finds.found.1 (prepend_known buffer left) new_left (kept_behind events left new_left buffer bytes gives finds.grown),
    kept_behind events left new_left buffer bytes gives finds.grown,
  );
}
head_missed head_fault.OutOfMemory buffer bytes events finds = absurd finds.found

-- the same where a read may have to wait
pub head_tried : (why : Halt HeadFault) (buffer bytes : List ℕ) (events : List Event) → TriesToFind (Err why) buffer bytes events
    → TriesHead (Err why) buffer bytes events
head_tried (Failed fault) buffer bytes events finds = head_missed fault buffer bytes events finds
head_tried WouldWait buffer bytes events keeps = keeps

-- the head is taken from the stream
taken : (count : ℕ) (buffer bytes : List ℕ) (events : List Event) (finds : FindsHead (Ok count) buffer bytes events) → length bytes ≤ head_limit
    → (left new_left : Option (List ℕ)) → Gives events left new_left → TakesHead (prepend_known buffer left) (prepend_known (drop count bytes) new_left) (take count bytes)
taken count buffer bytes events finds room left new_left gives =
    head_taken (prepend_known buffer left) new_left bytes count (kept_behind events left new_left buffer bytes gives finds.grown) finds.found.1 room finds.found.2

-- what the reading of the head answers, where it is taken
pub head_judged : (result : Result RequestParts HeadFault) (count : ℕ) (buffer bytes : List ℕ) (events : List Event) → FindsHead (Ok count) buffer bytes events
    → length bytes ≤ head_limit → IsParsedAs result (take count bytes) → ReadsHead result buffer (drop count bytes) events
head_judged (Ok parts) count buffer bytes events finds room says = record {
  nothing_put = finds.nothing_put;
  ends = finds.found.0;
  of_stream = λ left new_left gives. (take count bytes, taken count buffer bytes events finds room left new_left gives, says);
}
head_judged (Err head_fault.HeadTooLarge) count buffer bytes events finds room says = record {
  nothing_put = finds.nothing_put;
  ends = finds.found.0;
  of_stream = λ left new_left gives. inl (take count bytes, taken count buffer bytes events finds room left new_left gives, says);
}
head_judged (Err head_fault.BadHead) count buffer bytes events finds room says = record {
  nothing_put = finds.nothing_put;
  ends = finds.found.0;
  of_stream = λ left new_left gives. (take count bytes, taken count buffer bytes events finds room left new_left gives, says);
}
head_judged (Err head_fault.Ended) count buffer bytes events finds room says = absurd says
head_judged (Err head_fault.ReadFault) count buffer bytes events finds room says = absurd says
head_judged (Err head_fault.OutOfMemory) count buffer bytes events finds room says = absurd says

pub head_without_memory : (parts : RequestParts) (count : ℕ) (buffer bytes : List ℕ) (events : List Event) → FindsHead (Ok count) buffer bytes events
    → length bytes ≤ head_limit → Says (take count bytes) parts → ReadsHead (Err head_fault.OutOfMemory) buffer bytes events
head_without_memory parts count buffer bytes events finds room says = record {
  nothing_put = finds.nothing_put;
  ends = finds.found.0;
  of_stream = λ left new_left gives. (
    (
      prepend_known (drop count bytes) new_left,
      parts,
      (
        take count bytes,
        taken count buffer bytes events finds room left new_left gives,
        says,
      ),
    ),
    kept_behind events left new_left buffer bytes gives finds.grown,
  );
}

-- the same trail under another claim
pub ran_as : {S : Type 0} (saw : S → Event → S → Type 0) (may : List ℕ → List ℕ → Type 0) (old new : S) (claim other : List Event → Type 0)
    → ((events : List Event) → claim events → other events) → Ran saw may old new claim → Ran saw may old new other
ran_as saw may old new claim other f ran = record { events = ran.events; steps = ran.steps; timely = ran.timely; claimed = f ran.events ran.claimed }
