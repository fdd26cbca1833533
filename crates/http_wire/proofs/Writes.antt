-- What writes lead to, one after another.
use Rattle.std.proofs.Common.{◌≡◌, ℕ, ◌+◌, ◌-◌, ◌^◌, ◌<◌, ◌≤◌, min, Bool, true, false, List, [], ◌++◌, length, length-append, take, drop, Option, Some, Result, Ok, Err, OnOk, OnErr, IfErr, MatchBool, refl, sym, ap, subst, ◌∙◌, append_assoc, append-nil, arith}
use Rattle.std.specs.Io.KnownBytes.{Appends}
use Rattle.std.proofs.KnownBytes.{Appends-trans}
use Rattle.std.proofs.lemmas.List.{append_cancel_left, drop-append-le, drop_all, length-take-le, length-drop, take-append-drop}
use Rattle.byte_slices.proofs.Joined.{drop_over}
use Rattle.http_wire.specs.declared.faults.WriteFault.{WriteFault}
use Rattle.http_wire.specs.declared.halts.Halt.{Halt}
use Rattle.http_wire.specs.declared.halts.Halt.TheVariants.{Failed, WouldWait}
use Rattle.http_wire.specs.declared.sinks.WriteFailed.{WriteFailed}
use Rattle.http_wire.specs.Gathering.{Gathered, nothing, Written, WrittenNow, WritesEnd, WritesOn, Puts}
use Rattle.http_wire.specs.Halting.{TextEnds, WritesFrom}
use Rattle.http_wire.specs.Sending.{Sent, SentFront, WritesText}
use Rattle.http_wire.specs.Timing.{Event, WriteFails, all_put, IsLatest, GoesOn, NoRead, Ran}
use Rattle.http_wire.proofs.SentParts.{some_left, sent_more, sent_whole}
use Rattle.http_wire.proofs.Trails.{put_joined, goes_on_joined, latest_joined, steps_joined, timely_joined}

-- ---- the rest of a text, from a place in it on

-- what was written between two places
between_places : (text put : List ℕ) (at new_at : ℕ) → take at text ++ put ≡ take new_at text → drop at text ≡ put ++ drop new_at text
between_places text put at new_at is =
    append_cancel_left (take at text) (drop at text) (put ++ drop new_at text)
    (take-append-drop at text ∙ sym (take-append-drop new_at text) ∙ ap (λ u. u ++ drop new_at text) (sym is) ∙ append_assoc (take at text) put (drop new_at text))

how_many : (text put : List ℕ) (at new_at : ℕ) → at ≤ length text → new_at ≤ length text → take at text ++ put ≡ take new_at text → at + length put ≡ new_at
how_many text put at new_at h k is = omega (arith, ap length is, length-append (take at text) put, length-take-le at text h, length-take-le new_at text k)

pub sent_further : (start held new : Option (List ℕ)) (text : List ℕ) (count after : ℕ) (rest put new_rest : List ℕ) → Sent start held text count rest → rest ≡ put ++ new_rest
    → Appends held new put → after ≡ min (count + length put) (2 ^ 64 - 1) → Sent start new text after new_rest
sent_further start held new text count after rest put new_rest h is more after_is = record {
  gone = h.gone ++ put;
  text_is = h.text_is ∙ ap (λ u. h.gone ++ u) is ∙ sym (append_assoc h.gone put new_rest);
  count_is = omega (arith, after_is, h.count_is, length-append h.gone put);
  appended = Appends-trans start held new h.gone put h.appended more;
}

ends_on : (result : Result (Unit {0}) (Halt WriteFailed)) (text : List ℕ) (at : ℕ) (events : List Event) → TextEnds result text at events → WritesEnd result events
ends_on (Ok done) text at events ends = ends.0
ends_on (Err (Failed why)) text at events ends = ends.0
ends_on (Err WouldWait) text at events ends = ends.0

now_on : (result : Result (Unit {0}) (Halt WriteFailed)) (written text whole : List ℕ) (at count : ℕ) (events : List Event) → TextEnds result text at events
    → Written written whole count (drop at text) → WrittenNow result written whole count (drop at text)
now_on (Ok done) written text whole at count events ends now = now
now_on (Err (Failed why)) written text whole at count events ends now = ([], omega (arith, length-drop at text, ends.1, length-append (drop at text) []), subst (Written written whole count) (sym (append-nil (drop at text))) now)
now_on (Err WouldWait) written text whole at count events ends now = ([], omega (arith, length-drop at text, ends.1, length-append (drop at text) []), subst (Written written whole count) (sym (append-nil (drop at text))) now)

pub not_before : (result : Result (Unit {0}) (Halt WriteFailed)) (text : List ℕ) (at new_at : ℕ) (events : List Event) → at ≤ length text → WritesFrom result text at new_at events → at ≤ new_at
not_before result text at new_at events h writes = omega (arith, how_many text (all_put events) at new_at h writes.within writes.put)

pub rest_from : {S : Type 0} (saw : S → Event → S → Type 0) (old new : S) (result : Result (Unit {0}) (Halt WriteFailed)) (text : List ℕ) (at new_at count after : ℕ) → at ≤ length text
    → after ≡ min (count + (new_at - at)) (2 ^ 64 - 1) → Ran saw NoRead old new (WritesFrom result text at new_at)
    → Ran saw NoRead old new (WritesOn result [] count after (drop at text) (drop new_at text))
rest_from saw old new result text at new_at count after h after_is ran =
    let put = all_put ran.events in
    let many : at + length put ≡ new_at = how_many text put at new_at h ran.claimed.within ran.claimed.put in
    record {
      events = ran.events;
      steps = ran.steps;
      timely = ran.timely;
      claimed = record {
        ends = ends_on result text new_at ran.events ran.claimed.ends;
        text = λ written whole s. now_on result (written ++ put) text (whole ++ []) new_at after ran.events ran.claimed.ends
            (subst (λ t. Written (written ++ put) t after (drop new_at text)) (sym (append-nil whole))
            (sent_further (Some []) (Some written) (Some (written ++ put)) whole count after (drop at text) put (drop new_at text) s
            (between_places text put at new_at ran.claimed.put) refl (omega (arith, after_is, many))));
      };
    }

pub all_gone : (result : Result (Unit {0}) (Halt WriteFailed)) (text : List ℕ) (at new_at : ℕ) (events : List Event) → WritesFrom result text at new_at events → OnOk result (drop new_at text ≡ [])
all_gone (Ok done) text at new_at events writes = drop_all new_at text (omega (arith, writes.ends.1))
all_gone (Err why) text at new_at events writes = tt

-- what is not gathered is left
unkept_now : (result : Result (Unit {0}) (Halt WriteFailed)) (written text : List ℕ) (count : ℕ) (rest : List ℕ) → OnOk result (rest ≡ []) → WrittenNow result written text count rest
    → WrittenNow result written text count []
unkept_now (Ok done) written text count rest none now = subst (Written written text count) none now
unkept_now (Err why) written text count rest none now = (rest ++ now.0, now.1, now.2)

pub unkept : {S : Type 0} (saw : S → Event → S → Type 0) (old new : S) (result : Result (Unit {0}) (Halt WriteFailed)) (more : List ℕ) (count after : ℕ) (rest new_rest : List ℕ) → OnOk result (new_rest ≡ [])
    → Ran saw NoRead old new (WritesOn result more count after rest new_rest) → Ran saw NoRead old new (WritesOn result more count after rest [])
unkept saw old new result more count after rest new_rest none ran = record {
  events = ran.events;
  steps = ran.steps;
  timely = ran.timely;
  claimed = record {
    ends = ran.claimed.ends;
    text = λ written text s. unkept_now result (written ++ all_put ran.events) (text ++ more) after new_rest none (ran.claimed.text written text s);
  };
}

-- ---- one more piece

-- a piece is put behind the others
pub extended : (b : Bool) (items new_items piece rest : List ℕ) (at : ℕ) → at ≤ length items → drop at items ≡ rest → MatchBool b (new_items ≡ items ++ piece) (new_items ≡ items)
    → MatchBool b (drop at new_items ≡ rest ++ piece) (drop at new_items ≡ rest)
extended true items new_items piece rest at fits is longer = ap (drop at) longer ∙ drop-append-le at items piece fits ∙ ap (λ u. u ++ piece) is
extended false items new_items piece rest at fits is same = ap (drop at) same ∙ is

-- it is gathered, and nothing is written
pub gathered : {S : Type 0} (saw : S → Event → S → Type 0) (old : S) (piece : List ℕ) (count after : ℕ) (rest new_rest : List ℕ) → after ≡ count → new_rest ≡ rest ++ piece
    → Ran saw NoRead old old (WritesOn (Ok tt) piece count after rest new_rest)
gathered saw old piece count after rest new_rest same is = record {
  events = [];
  steps = refl;
  timely = tt;
  claimed = record {
    ends = tt;
    text = λ written text s. subst (λ w. Written w (text ++ piece) after new_rest) (sym (append-nil written))
        (subst (λ n. Written written (text ++ piece) n new_rest) (sym same)
        (subst (Written written (text ++ piece) count) (sym is) (sent_more (Some []) (Some written) text count rest piece s)));
  };
}

-- with more behind a text that is cut short, it is cut short as well
more_behind : (why : Halt WriteFailed) (written text : List ℕ) (count : ℕ) (rest more : List ℕ) → WrittenNow (Err why) written text count rest
    → WrittenNow (Err why) written (text ++ more) count rest
more_behind why written text count rest more now = (
  now.0 ++ more,
  subst (λ u. 0 < length u) (append_assoc rest now.0 more) (some_left (rest ++ now.0) more now.1),
  subst (Written written (text ++ more) count) (append_assoc rest now.0 more) (sent_more (Some []) (Some written) text count (rest ++ now.0) more now.2),
)

-- a text is cut short, and so is one that has more behind it
pub cut_before : {S : Type 0} (saw : S → Event → S → Type 0) (old new : S) (why : Halt WriteFailed) (first second : List ℕ) (count after : ℕ) (rest new_rest : List ℕ)
    → Ran saw NoRead old new (WritesOn (Err why) first count after rest new_rest) → Ran saw NoRead old new (WritesOn (Err why) (first ++ second) count after rest new_rest)
cut_before saw old new why first second count after rest new_rest ran = record {
  events = ran.events;
  steps = ran.steps;
  timely = ran.timely;
  claimed = record {
    ends = ran.claimed.ends;
    text = λ written text s. subst (λ t. WrittenNow (Err why) (written ++ all_put ran.events) t after new_rest) (append_assoc text first second)
        (more_behind why (written ++ all_put ran.events) (text ++ first) after new_rest second (ran.claimed.text written text s));
  };
}

ends_joined : (result : Result (Unit {0}) (Halt WriteFailed)) (events past : List Event) → WritesEnd result events → GoesOn past → WritesEnd result (events ++ past)
ends_joined (Ok done) events past ends on = goes_on_joined events past ends on
ends_joined (Err (Failed why)) events past ends on = latest_joined WriteFails events past ends
ends_joined (Err WouldWait) events past ends on = goes_on_joined events past ends on

-- writes of a piece after the flush of what was before it
pub flushed_then : {S : Type 0} (saw : S → Event → S → Type 0) (old mid new : S) (result : Result (Unit {0}) (Halt WriteFailed)) (piece : List ℕ) (count between after : ℕ) (rest new_rest : List ℕ)
    → Ran saw NoRead old mid (WritesOn (Ok tt) [] count between rest []) → Ran saw NoRead mid new (WritesOn result [] between after piece new_rest)
    → Ran saw NoRead old new (WritesOn result piece count after rest new_rest)
flushed_then saw old mid new result piece count between after rest new_rest first second = record {
  events = second.events ++ first.events;
  steps = steps_joined saw old mid new second.events first.events first.steps second.steps;
  timely = timely_joined NoRead NoRead second.events first.events (λ got put no. no) second.timely first.claimed.ends first.timely;
  claimed = record {
    ends = ends_joined result second.events first.events second.claimed.ends first.claimed.ends;
    text = λ written text s. (
        let mid_written = written ++ all_put first.events in
        let flushed = first.claimed.text written text s in
        let whole = subst (λ t. Written mid_written t between []) (append-nil text) flushed in
        let more = sent_more (Some []) (Some mid_written) text between [] piece whole in
        let done = second.claimed.text mid_written (text ++ piece) more in
        let all : mid_written ++ all_put second.events ≡ written ++ all_put (second.events ++ first.events) =
        append_assoc written (all_put first.events) (all_put second.events) ∙ ap (λ u. written ++ u) (sym (put_joined second.events first.events)) in
        subst (λ w. WrittenNow result w (text ++ piece) after new_rest) all
        (subst (λ t. WrittenNow result (mid_written ++ all_put second.events) t after new_rest) (append-nil (text ++ piece)) done)
        );
  };
}

-- ---- texts, one after another

-- nothing more is written
pub none_more : {S : Type 0} (saw : S → Event → S → Type 0) (old : S) (count : ℕ) (rest : List ℕ) → Ran saw NoRead old old (WritesOn (Ok tt) [] count count rest rest)
none_more saw old count rest = gathered saw old [] count count rest rest refl (sym (append-nil rest))

-- writes of one text after those of another
pub and_then : {S : Type 0} (saw : S → Event → S → Type 0) (old mid new : S) (result : Result (Unit {0}) (Halt WriteFailed)) (first second : List ℕ) (count between after : ℕ) (rest mid_rest new_rest : List ℕ)
    → Ran saw NoRead old mid (WritesOn (Ok tt) first count between rest mid_rest) → Ran saw NoRead mid new (WritesOn result second between after mid_rest new_rest)
    → Ran saw NoRead old new (WritesOn result (first ++ second) count after rest new_rest)
and_then saw old mid new result first second count between after rest mid_rest new_rest one other = record {
  events = other.events ++ one.events;
  steps = steps_joined saw old mid new other.events one.events one.steps other.steps;
  timely = timely_joined NoRead NoRead other.events one.events (λ got put no. no) other.timely one.claimed.ends one.timely;
  claimed = record {
    ends = ends_joined result other.events one.events other.claimed.ends one.claimed.ends;
    text = λ written text s. (
        let mid_written = written ++ all_put one.events in
        let done = other.claimed.text mid_written (text ++ first) (one.claimed.text written text s) in
        let all : mid_written ++ all_put other.events ≡ written ++ all_put (other.events ++ one.events) =
        append_assoc written (all_put one.events) (all_put other.events) ∙ ap (λ u. written ++ u) (sym (put_joined other.events one.events)) in
        subst (λ w. WrittenNow result w (text ++ (first ++ second)) after new_rest) all
        (subst (λ t. WrittenNow result (mid_written ++ all_put other.events) t after new_rest) (append_assoc text first second) done)
        );
  };
}

-- ---- where what was taken before is passed over

pub on_ok : (result : Result (Unit {0}) (Halt WriteFailed)) (P : Type 0) → P → OnOk result P
on_ok (Ok done) P p = p
on_ok (Err why) P p = tt

pub puts_none : {S : Type 0} (saw : S → Event → S → Type 0) (old : S) (o : Gathered) → Ran saw NoRead old old (Puts (Ok tt) [] o o)
puts_none saw old o =
    let ran = none_more saw old o.sent o.rest in
    record {
      events = ran.events;
      steps = ran.steps;
      timely = ran.timely;
      claimed = record {
        writes = subst (λ t. WritesOn (Ok tt) t o.sent o.sent o.rest o.rest ran.events) (sym (drop_all o.passed [] (omega arith))) ran.claimed;
        passed = omega arith;
      };
    }

passed_both : (result : Result (Unit {0}) (Halt WriteFailed)) (p m n : ℕ) (first second : List ℕ) → m ≡ p - length first → OnOk result (n ≡ m - length second) → OnOk result (n ≡ p - length (first ++ second))
passed_both (Ok done) p m n first second one other = omega (arith, one, other, length-append first second)
passed_both (Err why) p m n first second one other = tt

writes_of : {S : Type 0} (saw : S → Event → S → Type 0) (old new : S) (result : Result (Unit {0}) (Halt WriteFailed)) (more : List ℕ) (o n : Gathered) → Ran saw NoRead old new (Puts result more o n)
    → Ran saw NoRead old new (WritesOn result (drop o.passed more) o.sent n.sent o.rest n.rest)
writes_of saw old new result more o n ran = record { events = ran.events; steps = ran.steps; timely = ran.timely; claimed = ran.claimed.writes }

pub puts_then : {S : Type 0} (saw : S → Event → S → Type 0) (old mid new : S) (result : Result (Unit {0}) (Halt WriteFailed)) (first second : List ℕ) (o m n : Gathered)
    → Ran saw NoRead old mid (Puts (Ok tt) first o m) → Ran saw NoRead mid new (Puts result second m n) → Ran saw NoRead old new (Puts result (first ++ second) o n)
puts_then saw old mid new result first second o m n one other =
    let ran = and_then saw old mid new result (drop o.passed first) (drop m.passed second) o.sent m.sent n.sent o.rest m.rest n.rest
    (writes_of saw old mid (Ok tt) first o m one) (writes_of saw mid new result second m n other) in
    let whole : drop o.passed (first ++ second) ≡ drop o.passed first ++ drop m.passed second =
    drop_over o.passed first second ∙ ap (λ k. drop o.passed first ++ drop k second) (sym one.claimed.passed) in
    record {
      events = ran.events;
      steps = ran.steps;
      timely = ran.timely;
      claimed = record {
        writes = subst (λ t. WritesOn result t o.sent n.sent o.rest n.rest ran.events) (sym whole) ran.claimed;
        passed = passed_both result o.passed m.passed n.passed first second one.claimed.passed other.claimed.passed;
      };
    }

pub puts_cut : {S : Type 0} (saw : S → Event → S → Type 0) (old new : S) (why : Halt WriteFailed) (first second : List ℕ) (o n : Gathered) → Ran saw NoRead old new (Puts (Err why) first o n)
    → Ran saw NoRead old new (Puts (Err why) (first ++ second) o n)
puts_cut saw old new why first second o n one =
    let ran = cut_before saw old new why (drop o.passed first) (drop (o.passed - length first) second) o.sent n.sent o.rest n.rest (writes_of saw old new (Err why) first o n one) in
    record {
      events = ran.events;
      steps = ran.steps;
      timely = ran.timely;
      claimed = record {
        writes = subst (λ t. WritesOn (Err why) t o.sent n.sent o.rest n.rest ran.events) (sym (drop_over o.passed first second)) ran.claimed;
        passed = tt;
      };
    }

-- a flush that is cut, before a text of which nothing is put
pub puts_cut_at_flush : {S : Type 0} (saw : S → Event → S → Type 0) (old new : S) (why : Halt WriteFailed) (text : List ℕ) (o n : Gathered)
    → Ran saw NoRead old new (WritesOn (Err why) [] o.sent n.sent o.rest n.rest) → Ran saw NoRead old new (Puts (Err why) text o n)
puts_cut_at_flush saw old new why text o n flushed =
    let ran = cut_before saw old new why [] (drop o.passed text) o.sent n.sent o.rest n.rest flushed in
    record { events = ran.events; steps = ran.steps; timely = ran.timely; claimed = record { writes = ran.claimed; passed = tt } }

-- the last flush
pub puts_flushed : {S : Type 0} (saw : S → Event → S → Type 0) (old mid new : S) (result : Result (Unit {0}) (Halt WriteFailed)) (text : List ℕ) (o m n : Gathered)
    → Ran saw NoRead old mid (Puts (Ok tt) text o m) → n.passed ≡ m.passed → Ran saw NoRead mid new (WritesOn result [] m.sent n.sent m.rest n.rest)
    → Ran saw NoRead old new (Puts result text o n)
puts_flushed saw old mid new result text o m n one same flushed =
    let last : Ran saw NoRead mid new (Puts result [] m n) = record {
      events = flushed.events;
      steps = flushed.steps;
      timely = flushed.timely;
      claimed = record {
        writes = subst (λ t. WritesOn result t m.sent n.sent m.rest n.rest flushed.events) (sym (drop_all m.passed [] (omega arith))) flushed.claimed;
        passed = on_ok result (n.passed ≡ m.passed - 0) (omega (arith, same));
      };
    } in
    subst (λ t. Ran saw NoRead old new (Puts result t o n)) (append-nil text) (puts_then saw old mid new result text [] o m n one last)

-- ---- whole texts, from the first byte on

none_written : Written [] [] 0 []
none_written = record { gone = []; text_is = refl; count_is = refl; appended = refl }

-- all of it is written
pub text_written : {S : Type 0} (saw : S → Event → S → Type 0) (old new : S) (text : List ℕ) (after : ℕ) (rest : List ℕ) → rest ≡ []
    → Ran saw NoRead old new (WritesOn (Ok tt) text 0 after [] rest) → Ran saw NoRead old new (WritesText (Ok tt) text)
text_written saw old new text after rest none ran = record {
  events = ran.events;
  steps = ran.steps;
  timely = ran.timely;
  claimed = (
    ran.claimed.ends,
    sent_whole (Some []) (Some (all_put ran.events)) text after
        (subst (Written (all_put ran.events) text after) none (ran.claimed.text [] [] none_written)),
  );
}

-- a write failed, after a front of it
pub text_cut : {S : Type 0} (saw : S → Event → S → Type 0) (old new : S) (why : WriteFailed) (fault : WriteFault) (text : List ℕ) (after : ℕ) (rest : List ℕ) → fault.0 ≡ after
    → Ran saw NoRead old new (WritesOn (Err (Failed why)) text 0 after [] rest) → Ran saw NoRead old new (WritesText (Err fault) text)
text_cut saw old new why fault text after rest is ran =
    let now = ran.claimed.text [] [] none_written in
    record {
      events = ran.events;
      steps = ran.steps;
      timely = ran.timely;
      claimed = (ran.claimed.ends, (rest ++ now.0, now.1, subst (λ n. Written (all_put ran.events) text n (rest ++ now.0)) (sym is) now.2));
    }

-- the same of what is put where nothing is gathered
pub puts_written : {S : Type 0} (saw : S → Event → S → Type 0) (old new : S) (text : List ℕ) (o n : Gathered) → o ≡ nothing → n.rest ≡ []
    → Ran saw NoRead old new (Puts (Ok tt) text o n) → Ran saw NoRead old new (WritesText (Ok tt) text)
puts_written saw old new text o n is none ran =
    let P : Gathered → Type 0 = λ g. Ran saw NoRead old new (Puts (Ok tt) text g n) in
    text_written saw old new text n.sent n.rest none (writes_of saw old new (Ok tt) text nothing n (subst P is ran))

pub puts_failed : {S : Type 0} (saw : S → Event → S → Type 0) (old new : S) (why : WriteFailed) (fault : WriteFault) (text : List ℕ) (o n : Gathered) → o ≡ nothing → fault.0 ≡ n.sent
    → Ran saw NoRead old new (Puts (Err (Failed why)) text o n) → Ran saw NoRead old new (WritesText (Err fault) text)
puts_failed saw old new why fault text o n is count ran =
    let P : Gathered → Type 0 = λ g. Ran saw NoRead old new (Puts (Err (Failed why)) text g n) in
    text_cut saw old new why fault text n.sent n.rest count (writes_of saw old new (Err (Failed why)) text nothing n (subst P is ran))

-- a whole text is written at once, and nothing is gathered of it
at_once : {S : Type 0} (saw : S → Event → S → Type 0) (old new : S) (result : Result (Unit {0}) (Halt WriteFailed)) (text : List ℕ) (after : ℕ) (rest : List ℕ)
    → Ran saw NoRead old new (WritesOn result [] 0 after text rest) → Ran saw NoRead old new (WritesOn result text 0 after [] rest)
at_once saw old new result text after rest ran = flushed_then saw old old new result text 0 0 after [] rest (none_more saw old 0 []) ran

pub sent_at_once : {S : Type 0} (saw : S → Event → S → Type 0) (old new : S) (text : List ℕ) (after : ℕ) (rest : List ℕ) → rest ≡ []
    → Ran saw NoRead old new (WritesOn (Ok tt) [] 0 after text rest) → Ran saw NoRead old new (WritesText (Ok tt) text)
sent_at_once saw old new text after rest none ran = text_written saw old new text after rest none (at_once saw old new (Ok tt) text after rest ran)

pub cut_at_once : {S : Type 0} (saw : S → Event → S → Type 0) (old new : S) (why : WriteFailed) (fault : WriteFault) (text : List ℕ) (after : ℕ) (rest : List ℕ) → fault.0 ≡ after
    → Ran saw NoRead old new (WritesOn (Err (Failed why)) [] 0 after text rest) → Ran saw NoRead old new (WritesText (Err fault) text)
cut_at_once saw old new why fault text after rest is ran = text_cut saw old new why fault text after rest is (at_once saw old new (Err (Failed why)) text after rest ran)

-- ---- what a sink holds then

pub held_whole : (result : Result (Unit {0}) WriteFault) (text : List ℕ) (events : List Event) (held new_held : Option (List ℕ)) → WritesText result text events
    → Appends held new_held (all_put events) → OnOk result (Appends held new_held text)
held_whole (Ok done) text events held new_held writes put = subst (Appends held new_held) writes.1 put
held_whole (Err fault) text events held new_held writes put = tt

pub held_front : (result : Result (Unit {0}) WriteFault) (text : List ℕ) (events : List Event) (held new_held : Option (List ℕ)) → WritesText result text events
    → Appends held new_held (all_put events) → IfErr result (λ fault. SentFront held new_held text fault.0)
held_front (Ok done) text events held new_held writes put = tt
held_front (Err fault) text events held new_held writes put =
    let front = writes.1 in
    let sent = front.2 in (
      front.0,
      front.1,
      record {
        gone = sent.gone;
        text_is = sent.text_is;
        count_is = sent.count_is;
        appended = subst (Appends held new_held) sent.appended put;
      },
    )

pub write_fault : (write_fails : Type 0) (result : Result (Unit {0}) WriteFault) (text : List ℕ) (events : List Event) → WritesText result text events
    → (IsLatest WriteFails events → write_fails) → OnErr result write_fails
write_fault write_fails (Ok done) text events writes fails = tt
write_fault write_fails (Err fault) text events writes fails = fails writes.0
