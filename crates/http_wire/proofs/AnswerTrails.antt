-- What the reads of an answer bring.
use Rattle.std.proofs.Common.{◌≡◌, ℕ, ◌≤◌, inl, inr, List, [], ◌++◌, length, take, drop, Option, Some, None, Result, Ok, Err, IfOk, IfSome, refl, sym, ap, ◌∙◌, subst, append_assoc, arith}
use Rattle.std.specs.Prelude.{vec_len}
use Rattle.std.proofs.lemmas.List.{take-append-drop, length-take-le}
use Rattle.std.specs.declared.vec.Vec.{Vec}
use Rattle.http_wire.specs.declared.answers.AnswerFault.{AnswerFault}
use Rattle.http_wire.specs.declared.answers.AnswerFault.TheVariants.{NotOk, ReadFault, BadHead, TooLong, OutOfMemory}
use Rattle.http_wire.specs.declared.faults.BodyFault.{BodyFault}
use Rattle.http_wire.specs.declared.faults.BodyFault.TheVariants as body_fault
use Rattle.http_wire.specs.declared.faults.HeadFault.{HeadFault}
use Rattle.http_wire.specs.declared.faults.HeadFault.TheVariants as head_fault
use Rattle.http_wire.specs.Answers.{Begins, HeadAnswers, IsAnswer}
use Rattle.http_wire.specs.AnswerReads.{AnswerEnds, AwaitsAnswer, ReadsAnswer, fault_of_body, fault_of_head}
use Rattle.http_wire.specs.HeadText.{IsHeadText, head_limit}
use Rattle.http_wire.specs.Timing.{Event, AtEnd, ReadFails, all_got, all_put, IsLatest, GoesOn, Gives, Ran}
use Rattle.http_wire.specs.Wires.{AwaitsBody, AwaitsHead, BodyIsOf, FindsHead, ReadsBody}
use Rattle.http_wire.proofs.HeadReads.{kept_behind}
use Rattle.http_wire.proofs.Trails.{goes_on_joined, got_joined, latest_joined, put_joined, steps_joined, timely_joined, timely_wide}

-- ---- no head

head_waits : (limit : ℕ) (got put : List ℕ) → AwaitsHead [] got put → AwaitsAnswer limit got put
head_waits limit got put awaits = (inl awaits.0, awaits.1)

missed_of : (A : Type 0) (fault : HeadFault) (limit : ℕ) (bytes : List ℕ) (events : List Event) → FindsHead (Err fault) [] bytes events
    → (left new_left : Option (List ℕ)) → Gives events left new_left → IfSome left (IsAnswer {A = A} (IsLatest ReadFails events) (Err (fault_of_head fault)) limit)
missed_of A fault limit bytes events finds None new_left gives = tt
missed_of A head_fault.Ended limit bytes events finds (Some xs) new_left gives =
    inr (inl (finds.found.1 (Some xs) new_left (kept_behind events (Some xs) new_left [] bytes gives finds.grown) (gives.end finds.found.0)))
missed_of A head_fault.ReadFault limit bytes events finds (Some xs) new_left gives = inl finds.found
missed_of A head_fault.HeadTooLarge limit bytes events finds (Some xs) new_left gives =
    inl (finds.found.1 (Some xs) new_left (kept_behind events (Some xs) new_left [] bytes gives finds.grown))
missed_of A head_fault.BadHead limit bytes events finds (Some xs) new_left gives = absurd finds.found
missed_of A head_fault.OutOfMemory limit bytes events finds (Some xs) new_left gives = absurd finds.found

missed_ends : (B : Type 0) (fault : HeadFault) (bytes : List ℕ) (events : List Event) → FindsHead (Err fault) [] bytes events
    → AnswerEnds {B = B} (Err (fault_of_head fault)) events
missed_ends B head_fault.Ended bytes events finds = inl finds.found.0
missed_ends B head_fault.ReadFault bytes events finds = inr finds.found
missed_ends B head_fault.HeadTooLarge bytes events finds = finds.found.0
missed_ends B head_fault.BadHead bytes events finds = absurd finds.found
missed_ends B head_fault.OutOfMemory bytes events finds = absurd finds.found

pub without_head : {S A : Type 0} (saw : S → Event → S → Type 0) (old new : S) (fault : HeadFault) (limit : ℕ) (bytes : List ℕ)
    → Ran saw (AwaitsHead []) old new (FindsHead (Err fault) [] bytes) → Ran saw (AwaitsAnswer limit) old new (ReadsAnswer {A = A} (Err (fault_of_head fault)) limit)
without_head {S} {A} saw old new fault limit bytes ran = record {
  events = ran.events;
  steps = ran.steps;
  timely = timely_wide (AwaitsHead []) (AwaitsAnswer limit) ran.events (head_waits limit) ran.timely;
  claimed = record {
    nothing_put = ran.claimed.nothing_put;
    ends = missed_ends (Vec ℕ A) fault bytes ran.events ran.claimed;
    of_stream = missed_of A fault limit bytes ran.events ran.claimed;
  };
}

-- ---- a head

-- the head is at the front of what was read, whatever comes after that
begins : (answer : Result ℕ AnswerFault) (limit count : ℕ) (bytes more stream : List ℕ) → stream ≡ bytes ++ more → count ≤ length bytes → length bytes ≤ head_limit
    → IsHeadText (take count bytes) → HeadAnswers answer limit (take count bytes) → Begins answer limit stream (drop count bytes ++ more)
begins answer limit count bytes more stream is fits room head answers = record {
  text = take count bytes;
  head = record {
    head = head;
    stream_is = is ∙ ap (λ u. u ++ more) (sym (take-append-drop count bytes)) ∙ append_assoc (take count bytes) (drop count bytes) more;
  };
  short = omega (arith, length-take-le count bytes fits);
  answers = answers;
}

refused_of : (A : Type 0) (fault : AnswerFault) (limit count : ℕ) (bytes : List ℕ) (events : List Event) → length bytes ≤ head_limit
    → HeadAnswers (Err fault) limit (take count bytes) → FindsHead (Ok count) [] bytes events → (xs ys : List ℕ) → xs ≡ bytes ++ ys
    → IsAnswer {A = A} (IsLatest ReadFails events) (Err fault) limit xs
refused_of A NotOk limit count bytes events room answers finds xs ys is =
    (drop count bytes ++ ys, begins (Err NotOk) limit count bytes ys xs is finds.found.1 room finds.found.2 answers)
refused_of A BadHead limit count bytes events room answers finds xs ys is =
    inr (drop count bytes ++ ys, begins (Err BadHead) limit count bytes ys xs is finds.found.1 room finds.found.2 answers)
refused_of A TooLong limit count bytes events room answers finds xs ys is =
    (drop count bytes ++ ys, begins (Err TooLong) limit count bytes ys xs is finds.found.1 room finds.found.2 answers)
refused_of A ReadFault limit count bytes events room answers finds xs ys is = absurd answers
refused_of A OutOfMemory limit count bytes events room answers finds xs ys is = absurd answers

refused_ends : (B : Type 0) (fault : AnswerFault) (limit : ℕ) (text : List ℕ) (events : List Event) → HeadAnswers (Err fault) limit text → GoesOn events
    → AnswerEnds {B = B} (Err fault) events
refused_ends B NotOk limit text events answers on = on
refused_ends B BadHead limit text events answers on = on
refused_ends B TooLong limit text events answers on = on
refused_ends B ReadFault limit text events answers on = absurd answers
refused_ends B OutOfMemory limit text events answers on = on

refused_stream : (A : Type 0) (fault : AnswerFault) (limit count : ℕ) (bytes : List ℕ) (events : List Event) → length bytes ≤ head_limit
    → HeadAnswers (Err fault) limit (take count bytes) → FindsHead (Ok count) [] bytes events
    → (left new_left : Option (List ℕ)) → Gives events left new_left → IfSome left (IsAnswer {A = A} (IsLatest ReadFails events) (Err fault) limit)
refused_stream A fault limit count bytes events room answers finds None new_left gives = tt
refused_stream A fault limit count bytes events room answers finds (Some xs) None gives = absurd gives.taken
refused_stream A fault limit count bytes events room answers finds (Some xs) (Some ys) gives =
    refused_of A fault limit count bytes events room answers finds xs ys (gives.taken ∙ ap (λ u. u ++ ys) (sym finds.grown))

pub refused : {S A : Type 0} (saw : S → Event → S → Type 0) (old new : S) (fault : AnswerFault) (limit count : ℕ) (bytes : List ℕ) → length bytes ≤ head_limit
    → HeadAnswers (Err fault) limit (take count bytes) → Ran saw (AwaitsHead []) old new (FindsHead (Ok count) [] bytes)
    → Ran saw (AwaitsAnswer limit) old new (ReadsAnswer {A = A} (Err fault) limit)
refused {S} {A} saw old new fault limit count bytes room answers ran = record {
  events = ran.events;
  steps = ran.steps;
  timely = timely_wide (AwaitsHead []) (AwaitsAnswer limit) ran.events (head_waits limit) ran.timely;
  claimed = record {
    nothing_put = ran.claimed.nothing_put;
    ends = refused_ends (Vec ℕ A) fault limit (take count bytes) ran.events answers ran.claimed.found.0;
    of_stream = refused_stream A fault limit count bytes ran.events room answers ran.claimed;
  };
}

-- ---- a head and a body

-- what the reading of a body makes of an answer
abbrev pub answer_of : {A : Type 0} → Result (Vec ℕ A) BodyFault → Result (Vec ℕ A) AnswerFault
answer_of (Ok body) = Ok body
answer_of (Err fault) = Err (fault_of_body fault)

body_waits : (limit n count : ℕ) (bytes : List ℕ) (events : List Event) → length bytes ≤ head_limit → HeadAnswers (Ok n) limit (take count bytes)
    → FindsHead (Ok count) [] bytes events → (got put : List ℕ) → AwaitsBody (drop count bytes) n got put
    → AwaitsAnswer limit (all_got events ++ got) (all_put events ++ put)
body_waits limit n count bytes events room answers finds got put awaits = (
  inr (
    n,
    drop count bytes ++ got,
    begins (Ok n) limit count bytes got (all_got events ++ got) (ap (λ u. u ++ got) (sym finds.grown)) finds.found.1 room finds.found.2 answers,
    awaits.0,
  ),
  ap (λ u. u ++ put) finds.nothing_put ∙ awaits.1,
)

joined_ends : {A : Type 0} (result : Result (Vec ℕ A) BodyFault) (n : ℕ) (buffer new_buffer : List ℕ) (events past : List Event) → ReadsBody result n buffer new_buffer events → GoesOn past
    → AnswerEnds (answer_of result) (events ++ past)
joined_ends (Ok body) n buffer new_buffer events past reads on = goes_on_joined events past reads.ends on
joined_ends (Err body_fault.Ended) n buffer new_buffer events past reads on = inl (latest_joined AtEnd events past reads.ends)
joined_ends (Err body_fault.ReadFault) n buffer new_buffer events past reads on = inr (latest_joined ReadFails events past reads.ends)
joined_ends (Err body_fault.OutOfMemory) n buffer new_buffer events past reads on = goes_on_joined events past reads.ends on

body_of : {A : Type 0} (result : Result (Vec ℕ A) BodyFault) (limit n count : ℕ) (bytes new_buffer : List ℕ) (events past : List Event) → length bytes ≤ head_limit
    → HeadAnswers (Ok n) limit (take count bytes) → FindsHead (Ok count) [] bytes past → ReadsBody result n (drop count bytes) new_buffer events
    → (xs more ys : List ℕ) → xs ≡ bytes ++ more → BodyIsOf result n (Some (drop count bytes ++ more)) (Some (new_buffer ++ ys))
    → IsAnswer (IsLatest ReadFails (events ++ past)) (answer_of result) limit xs
body_of (Ok body) limit n count bytes new_buffer events past room answers finds reads xs more ys is of =
    let start = begins (Ok n) limit count bytes more xs is finds.found.1 room finds.found.2 answers in
    let rest = new_buffer ++ ys in
    (rest, subst (λ k. Begins (Ok k) limit xs (body.items ++ rest)) (sym of.0) (subst (λ u. Begins (Ok n) limit xs u) of.1 start))
body_of (Err body_fault.Ended) limit n count bytes new_buffer events past room answers finds reads xs more ys is of =
    inr (inr (n, drop count bytes ++ more, begins (Ok n) limit count bytes more xs is finds.found.1 room finds.found.2 answers, of.1.1))
body_of (Err body_fault.ReadFault) limit n count bytes new_buffer events past room answers finds reads xs more ys is of =
    inl (latest_joined ReadFails events past reads.ends)
body_of (Err body_fault.OutOfMemory) limit n count bytes new_buffer events past room answers finds reads xs more ys is of = tt

body_stream : {A : Type 0} (result : Result (Vec ℕ A) BodyFault) (limit n count : ℕ) (bytes new_buffer : List ℕ) (events past : List Event) → length bytes ≤ head_limit
    → HeadAnswers (Ok n) limit (take count bytes) → FindsHead (Ok count) [] bytes past → ReadsBody result n (drop count bytes) new_buffer events
    → (left new_left : Option (List ℕ)) → Gives (events ++ past) left new_left → IfSome left (IsAnswer (IsLatest ReadFails (events ++ past)) (answer_of result) limit)
body_stream result limit n count bytes new_buffer events past room answers finds reads None new_left gives = tt
body_stream result limit n count bytes new_buffer events past room answers finds reads (Some xs) None gives = absurd gives.taken
body_stream result limit n count bytes new_buffer events past room answers finds reads (Some xs) (Some ys) gives =
    let more = all_got events ++ ys in
    let is : xs ≡ bytes ++ more =
    gives.taken ∙ ap (λ u. u ++ ys) (got_joined events past) ∙ append_assoc (all_got past) (all_got events) ys ∙ ap (λ u. u ++ more) (sym finds.grown) in
    let after : Gives events (Some more) (Some ys) = record { taken = refl; end = λ e. gives.end (latest_joined AtEnd events past e) } in
    body_of result limit n count bytes new_buffer events past room answers finds reads xs more ys is (reads.of_stream (Some more) (Some ys) after)

pub with_body : {S A : Type 0} (saw : S → Event → S → Type 0) (old mid new : S) (result : Result (Vec ℕ A) BodyFault) (limit n count : ℕ) (bytes new_buffer : List ℕ)
    → length bytes ≤ head_limit → HeadAnswers (Ok n) limit (take count bytes) → Ran saw (AwaitsHead []) old mid (FindsHead (Ok count) [] bytes)
    → Ran saw (AwaitsBody (drop count bytes) n) mid new (ReadsBody result n (drop count bytes) new_buffer)
    → Ran saw (AwaitsAnswer limit) old new (ReadsAnswer (answer_of result) limit)
with_body saw old mid new result limit n count bytes new_buffer room answers first second =
    let past = first.events in
    let events = second.events in record {
      events = events ++ past;
      steps = steps_joined saw old mid new events past first.steps second.steps;
      timely = timely_joined (AwaitsBody (drop count bytes) n) (AwaitsAnswer limit) events past (body_waits limit n count bytes past room answers first.claimed) second.timely
          first.claimed.found.0 (timely_wide (AwaitsHead []) (AwaitsAnswer limit) past (head_waits limit) first.timely);
      claimed = record {
        nothing_put = put_joined events past ∙ ap (λ u. u ++ all_put events) first.claimed.nothing_put ∙ second.claimed.nothing_put;
        ends = joined_ends result n (drop count bytes) new_buffer events past second.claimed first.claimed.found.0;
        of_stream = body_stream result limit n count bytes new_buffer events past room answers first.claimed second.claimed;
      };
    }

-- ---- the answer of a stream

caused : {A : Type 0} (fails read_fails : Type 0) (result : Result (Vec ℕ A) AnswerFault) (limit : ℕ) (stream : List ℕ) → (fails → read_fails)
    → IsAnswer fails result limit stream → IsAnswer read_fails result limit stream
caused fails read_fails (Ok body) limit stream cause is = is
caused fails read_fails (Err NotOk) limit stream cause is = is
caused fails read_fails (Err BadHead) limit stream cause is = is
caused fails read_fails (Err TooLong) limit stream cause is = is
caused fails read_fails (Err ReadFault) limit stream cause (inl failed) = inl (cause failed)
caused fails read_fails (Err ReadFault) limit stream cause (inr cut) = inr cut
caused fails read_fails (Err OutOfMemory) limit stream cause is = tt

pub answer_told : {A : Type 0} (read_fails : Type 0) (result : Result (Vec ℕ A) AnswerFault) (limit : ℕ) (events : List Event) (left new_left : Option (List ℕ))
    → ReadsAnswer result limit events → Gives events left new_left → (IsLatest ReadFails events → read_fails) → IfSome left (IsAnswer read_fails result limit)
answer_told read_fails result limit events None new_left reads gives cause = tt
answer_told read_fails result limit events (Some xs) new_left reads gives cause =
    caused (IsLatest ReadFails events) read_fails result limit xs cause (reads.of_stream (Some xs) new_left gives)

pub answer_within : {A : Type 0} (result : Result (Vec ℕ A) AnswerFault) (limit : ℕ) (events : List Event) → ReadsAnswer result limit events
    → IfOk result (λ body. vec_len body ≤ limit)
answer_within (Ok body) limit events reads =
    let of = reads.of_stream (Some (all_got events ++ [])) (Some []) (record { taken = refl; end = λ e. refl }) in
    of.1.answers.1
answer_within (Err fault) limit events reads = tt
