-- What the reads of a body bring.
use Rattle.std.proofs.Common.{◌≡◌, ℕ, ◌<◌, List, [], ◌∷◌, ◌++◌, length, Option, Some, None, Ok, Err, IfSome, refl, sym, ap, ◌∙◌, subst, append_assoc, append-nil, arith}
use Rattle.std.specs.Prelude.{vec_len}
use Rattle.std.specs.declared.vec.Vec.{Vec}
use Rattle.std.specs.Io.KnownBytes.{IsAtEnd, Consumes, prepend_known}
use Rattle.http_wire.specs.declared.faults.BodyFault.TheVariants as body_fault
use Rattle.http_wire.specs.Halting.{KeepsOn}
use Rattle.http_wire.specs.Timing.{Event, AtEnd, ReadFails, read_of, all_got, all_put, GoesOn, Timely, Steps, Gives, Ran}
use Rattle.http_wire.specs.Wires.{AwaitsBody, ReadsBody}
use Rattle.http_wire.proofs.Trails.{got_read, put_read, goes_on_read, timely_read}

-- what was read of a body so far: it and the buffer after it are what was in the buffer at first, and what came
pub record BodySoFar {S : Type 0} (saw : S → Event → S → Type 0) (old new : S) (size : ℕ) (buffer body rest : List ℕ) : Type 0 where
  pub events : List Event
  pub steps : Steps saw old events new
  pub timely : Timely (AwaitsBody buffer size) events
  pub goes_on : GoesOn events
  pub nothing_put : all_put events ≡ []
  pub moved : body ++ rest ≡ buffer ++ all_got events

pub none_read : {S : Type 0} (saw : S → Event → S → Type 0) (old : S) (size : ℕ) (buffer body rest : List ℕ) → body ++ rest ≡ buffer
    → BodySoFar saw old old size buffer body rest
none_read saw old size buffer body rest moved = record {
  events = [];
  steps = refl;
  timely = tt;
  goes_on = tt;
  nothing_put = refl;
  moved = moved ∙ sym (append-nil buffer);
}

-- all that came is in the body
all_moved : {S : Type 0} (saw : S → Event → S → Type 0) (old new : S) (size : ℕ) (buffer body rest : List ℕ) (so : BodySoFar saw old new size buffer body rest) → rest ≡ []
    → body ≡ buffer ++ all_got so.events
all_moved saw old new size buffer body rest so none = sym (append-nil body) ∙ ap (λ u. body ++ u) (sym none) ∙ so.moved

awaits : {S : Type 0} (saw : S → Event → S → Type 0) (old new : S) (size : ℕ) (buffer body rest : List ℕ) (so : BodySoFar saw old new size buffer body rest) → rest ≡ []
    → length body < size → AwaitsBody buffer size (all_got so.events) (all_put so.events)
awaits saw old new size buffer body rest so none less =
    (subst (λ b. length b < size) (all_moved saw old new size buffer body rest so none) less, so.nothing_put)

-- the part that is there is all that came
pub none_short : (body rest : List ℕ) (size : ℕ) → rest ≡ [] → length body < size → length (body ++ rest) < size
none_short body rest size none less = subst (λ (b : List ℕ). length b < size) (sym (ap (λ u. body ++ u) none ∙ append-nil body)) less

-- one read more, whose bytes go to the body, as many as it lacks
pub read_more : {S : Type 0} (saw : S → Event → S → Type 0) (old mid new : S) (size : ℕ) (buffer body rest piece filled new_body new_rest : List ℕ)
    → BodySoFar saw old mid size buffer body rest → rest ≡ [] → length body < size → filled ≡ rest ++ piece → 0 < length piece → saw mid (read_of piece) new
    → new_body ++ new_rest ≡ body ++ filled → BodySoFar saw old new size buffer new_body new_rest
read_more saw old mid new size buffer body rest piece filled new_body new_rest so none less longer some seen moved = record {
  events = read_of piece ∷ so.events;
  steps = (mid, so.steps, seen);
  timely = timely_read (AwaitsBody buffer size) piece so.events so.goes_on (awaits saw old mid size buffer body rest so none less) so.timely;
  goes_on = goes_on_read piece so.events some;
  nothing_put = put_read piece so.events ∙ so.nothing_put;
  moved = moved ∙ ap (λ u. body ++ u) longer ∙ sym (append_assoc body rest piece) ∙ ap (λ u. u ++ piece) so.moved ∙ append_assoc buffer (all_got so.events) piece
      ∙ ap (λ u. buffer ++ u) (sym (got_read piece so.events));
}

-- ---- what that takes from a stream

taken : (events : List Event) (left new_left : Option (List ℕ)) (buffer rest bytes : List ℕ) → Gives events left new_left → bytes ++ rest ≡ buffer ++ all_got events
    → Consumes (prepend_known buffer left) (prepend_known rest new_left) bytes
taken events None new_left buffer rest bytes gives is = tt
taken events (Some xs) None buffer rest bytes gives is = absurd gives.taken
taken events (Some xs) (Some ys) buffer rest bytes gives is =
    ap (λ u. buffer ++ u) gives.taken ∙ sym (append_assoc buffer (all_got events) ys) ∙ ap (λ u. u ++ ys) (sym is) ∙ append_assoc bytes rest ys

at_end : (rest : List ℕ) (left : Option (List ℕ)) → rest ≡ [] → IsAtEnd left → IsAtEnd (prepend_known rest left)
at_end rest None none end = tt
at_end rest (Some xs) none end = ap (λ u. u ++ xs) none ∙ end

short : (events : List Event) (left new_left : Option (List ℕ)) (buffer : List ℕ) (size : ℕ) → Gives events left new_left → IsAtEnd new_left
    → length (buffer ++ all_got events) < size → IfSome (prepend_known buffer left) (λ bytes. length bytes < size)
short events None new_left buffer size gives end less = tt
short events (Some xs) None buffer size gives end less = absurd gives.taken
short events (Some xs) (Some ys) buffer size gives end less =
    let is : xs ≡ all_got events = gives.taken ∙ ap (λ u. all_got events ++ u) end ∙ append-nil (all_got events) in
    subst (λ u. length (buffer ++ u) < size) (sym is) less

-- ---- how it ends

-- the body is whole
pub whole : {S A : Type 0} (saw : S → Event → S → Type 0) (old new : S) (size : ℕ) (buffer rest : List ℕ) (body : Vec ℕ A) → vec_len body ≡ size
    → BodySoFar saw old new size buffer body.items rest → Ran saw (AwaitsBody buffer size) old new (ReadsBody {A = A} (Ok body) size buffer rest)
whole saw old new size buffer rest body full so = record {
  events = so.events;
  steps = so.steps;
  timely = so.timely;
  claimed = record {
    nothing_put = so.nothing_put;
    ends = so.goes_on;
    leaves = tt;
    of_stream = λ left new_left gives. (full, taken so.events left new_left buffer rest body.items gives so.moved);
  };
}

-- no memory for what came
pub no_memory : {S A : Type 0} (saw : S → Event → S → Type 0) (old new : S) (size : ℕ) (buffer body rest : List ℕ) → length body < size
    → BodySoFar saw old new size buffer body rest → Ran saw (AwaitsBody buffer size) old new (ReadsBody {A = A} (Err body_fault.OutOfMemory) size buffer rest)
no_memory saw old new size buffer body rest less so = record {
  events = so.events;
  steps = so.steps;
  timely = so.timely;
  claimed = record {
    nothing_put = so.nothing_put;
    ends = so.goes_on;
    leaves = tt;
    of_stream = λ left new_left gives. (body, taken so.events left new_left buffer rest body gives so.moved, less);
  };
}

pub read_failed : {S A : Type 0} (saw : S → Event → S → Type 0) (old mid new : S) (size : ℕ) (buffer body rest same : List ℕ)
    → BodySoFar saw old mid size buffer body rest → rest ≡ [] → length body < size → same ≡ rest → saw mid ReadFails new
    → Ran saw (AwaitsBody buffer size) old new (ReadsBody {A = A} (Err body_fault.ReadFault) size buffer same)
read_failed saw old mid new size buffer body rest same so none less is seen = record {
  events = ReadFails ∷ so.events;
  steps = (mid, so.steps, seen);
  timely = (so.goes_on, awaits saw old mid size buffer body rest so none less, so.timely);
  claimed = record {
    nothing_put = so.nothing_put;
    ends = refl;
    leaves = is ∙ none;
    of_stream = λ left new_left gives. (body, taken (ReadFails ∷ so.events) left new_left buffer same body gives (ap (λ u. body ++ u) is ∙ so.moved), less);
  };
}

-- a read would have to wait
pub would_wait : {S : Type 0} (saw : S → Event → S → Type 0) (old mid new : S) (size : ℕ) (buffer body rest same : List ℕ)
    → BodySoFar saw old mid size buffer body rest → same ≡ rest → new ≡ mid → Ran saw (AwaitsBody buffer size) old new (KeepsOn buffer (body ++ same))
would_wait {S} saw old mid new size buffer body rest same so is stays = record {
  events = so.events;
  steps = subst (λ (s : S). Steps saw old so.events s) (sym stays) so.steps;
  timely = so.timely;
  claimed = record { nothing_put = so.nothing_put; goes_on = so.goes_on; grown = ap (λ u. body ++ u) is ∙ so.moved };
}

pub input_ended : {S A : Type 0} (saw : S → Event → S → Type 0) (old mid new : S) (size : ℕ) (buffer body rest piece filled : List ℕ)
    → BodySoFar saw old mid size buffer body rest → rest ≡ [] → length body < size → filled ≡ rest ++ piece → length piece ≡ 0 → saw mid (read_of piece) new
    → Ran saw (AwaitsBody buffer size) old new (ReadsBody {A = A} (Err body_fault.Ended) size buffer filled)
input_ended saw old mid new size buffer body rest (b ∷ piece) filled so none less longer nothing seen = absurd (omega (arith, nothing))
input_ended saw old mid new size buffer body rest [] filled so none less longer nothing seen =
    let same : filled ≡ rest = longer ∙ append-nil rest in
    let few : length (buffer ++ all_got so.events) < size = subst (λ b. length b < size) (all_moved saw old mid size buffer body rest so none) less in
    record {
      events = AtEnd ∷ so.events;
      steps = (mid, so.steps, seen);
      timely = (so.goes_on, awaits saw old mid size buffer body rest so none less, so.timely);
      claimed = record {
        nothing_put = so.nothing_put;
        ends = refl;
        leaves = same ∙ none;
        of_stream = λ left new_left gives. (
          (body, taken (AtEnd ∷ so.events) left new_left buffer filled body gives (ap (λ u. body ++ u) same ∙ so.moved), less),
          (at_end filled new_left (same ∙ none) (gives.end refl), short (AtEnd ∷ so.events) left new_left buffer size gives (gives.end refl) few),
        );
      };
    }
