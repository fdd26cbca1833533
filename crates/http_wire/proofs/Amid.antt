-- A text that goes on behind what was written of it.
use Rattle.std.proofs.Common.{◌≡◌, ℕ, ◌+◌, ◌-◌, ◌^◌, ◌≤◌, min, List, [], ◌++◌, length, length-append, take, drop, Result, Ok, Err, OnOk, refl, sym, ap, subst, ◌∙◌, append_assoc, append-nil, arith}
use Rattle.std.proofs.lemmas.List.{append_cancel_left, length-take-le, take_at, take-append-drop}
use Rattle.http_wire.specs.declared.halts.Halt.{Halt}
use Rattle.http_wire.specs.declared.halts.Halt.TheVariants.{Failed, WouldWait}
use Rattle.http_wire.specs.declared.sinks.WriteFailed.{WriteFailed}
use Rattle.http_wire.specs.Gathering.{Gathered, from_front, nothing, GoesOnFrom, IsAmid, IsCounted, Written, WrittenNow, WritesEnd, WritesOn, Puts}
use Rattle.http_wire.specs.Timing.{Event, all_put, NoRead, Ran}
use Rattle.http_wire.proofs.Writes.{on_ok}

-- the text is what was written of it, and what is left
text_is : (written text : List ℕ) (count : ℕ) (rest : List ℕ) → Written written text count rest → text ≡ written ++ rest
text_is written text count rest now = now.text_is ∙ ap (λ u. u ++ rest) (sym now.appended)

front_is : (text written rest : List ℕ) → text ≡ written ++ rest → take (length written) text ≡ written
front_is text written rest is = ap (take (length written)) is ∙ take_at written rest (length written) refl

behind_is : (text written rest : List ℕ) → text ≡ written ++ rest → drop (length written) text ≡ rest
behind_is text written rest is =
    append_cancel_left written (drop (length written) text) rest
    (ap (λ u. u ++ drop (length written) text) (sym (front_is text written rest is)) ∙ take-append-drop (length written) text ∙ is)

within_is : (text written rest : List ℕ) → text ≡ written ++ rest → length written ≤ length text
within_is text written rest is = omega (arith, ap length is, length-append written rest)

-- what the puts come to, behind what was written before
now_of : (result : Result (Unit {0}) (Halt WriteFailed)) (text : List ℕ) (at : ℕ) (o n : Gathered) (events : List Event) → IsCounted o → IsAmid text at o → Puts result text (from_front o) n events
    → WrittenNow result (take at text ++ all_put events) text n.sent n.rest
now_of result text at o n events counted amid puts =
    let written = take at text in
    let passed = min (o.sent + length o.rest) (2 ^ 64 - 1) in
    let size : length written ≡ at = length-take-le at text amid.within in
    let exact : o.sent ≡ at = omega (arith, amid.count, counted) in
    let whole : text ≡ (written ++ o.rest) ++ amid.left = sym (take-append-drop at text) ∙ ap (λ u. written ++ u) amid.behind ∙ sym (append_assoc written o.rest amid.left) in
    let many : passed ≡ length (written ++ o.rest) = omega (arith, size, exact, counted, length-append written o.rest) in
    let front : take passed text ≡ written ++ o.rest = ap (take passed) whole ∙ take_at (written ++ o.rest) amid.left passed (sym many) in
    let all : (written ++ o.rest) ++ drop passed text ≡ text = ap (λ u. u ++ drop passed text) (sym front) ∙ take-append-drop passed text in
    let before : Written written (written ++ o.rest) o.sent o.rest = record {
      gone = written;
      text_is = refl;
      count_is = omega (arith, size, amid.count);
      appended = refl;
    } in
    subst (λ t. WrittenNow result (written ++ all_put events) t n.sent n.rest) all (puts.writes.text written (written ++ o.rest) before)

amid_at : (text written : List ℕ) (n : Gathered) (left : List ℕ) → Written written text n.sent (n.rest ++ left) → IsAmid text (length written) n
amid_at text written n left now =
    let is = text_is written text n.sent (n.rest ++ left) now in
    record {
      within = within_is text written (n.rest ++ left) is;
      count = now.count_is ∙ ap (λ u. min (length u) (2 ^ 64 - 1)) (sym now.appended);
      left = left;
      behind = behind_is text written (n.rest ++ left) is;
    }

from_at : (result : Result (Unit {0}) (Halt WriteFailed)) (text : List ℕ) (at : ℕ) (n : Gathered) (events : List Event) → WritesEnd result events → OnOk result (n.rest ≡ [])
    → WrittenNow result (take at text ++ all_put events) text n.sent n.rest → GoesOnFrom result text at n events
from_at (Ok done) text at n events ends none now =
    let written = take at text ++ all_put events in
    let is : text ≡ written ++ n.rest = text_is written text n.sent n.rest now in (
      length written,
      record {
        within = within_is text written n.rest is;
        put = sym (front_is text written n.rest is);
        ends = (ends, omega (arith, ap length is, length-append written n.rest, ap length none));
      },
      amid_at text written n [] (subst (Written written text n.sent) (sym (append-nil n.rest)) now),
    )
from_at (Err (Failed why)) text at n events ends none now =
    let written = take at text ++ all_put events in
    let is : text ≡ written ++ (n.rest ++ now.0) = text_is written text n.sent (n.rest ++ now.0) now.2 in (
      length written,
      record {
        within = within_is text written (n.rest ++ now.0) is;
        put = sym (front_is text written (n.rest ++ now.0) is);
        ends = (ends, omega (arith, ap length is, length-append written (n.rest ++ now.0), now.1));
      },
      amid_at text written n now.0 now.2,
    )
from_at (Err WouldWait) text at n events ends none now =
    let written = take at text ++ all_put events in
    let is : text ≡ written ++ (n.rest ++ now.0) = text_is written text n.sent (n.rest ++ now.0) now.2 in (
      length written,
      record {
        within = within_is text written (n.rest ++ now.0) is;
        put = sym (front_is text written (n.rest ++ now.0) is);
        ends = (ends, omega (arith, ap length is, length-append written (n.rest ++ now.0), now.1));
      },
      amid_at text written n now.0 now.2,
    )

pub reply_goes_on : {S : Type 0} (saw : S → Event → S → Type 0) (old new : S) (result : Result (Unit {0}) (Halt WriteFailed)) (text : List ℕ) (at : ℕ) (o n : Gathered) → IsCounted o → IsAmid text at o
    → OnOk result (n.rest ≡ []) → Ran saw NoRead old new (Puts result text (from_front o) n) → Ran saw NoRead old new (GoesOnFrom result text at n)
reply_goes_on saw old new result text at o n counted amid none ran = record {
  events = ran.events;
  steps = ran.steps;
  timely = ran.timely;
  claimed = from_at result text at n ran.events ran.claimed.writes.ends none (now_of result text at o n ran.events counted amid ran.claimed);
}

-- what is left of a text behind what was taken is written at once
pub left_goes_on : {S : Type 0} (saw : S → Event → S → Type 0) (old new : S) (result : Result (Unit {0}) (Halt WriteFailed)) (text left : List ℕ) (at : ℕ) (o m n : Gathered) → IsCounted o → IsAmid text at o
    → m.sent ≡ o.sent → m.rest ≡ o.rest → left ≡ drop (from_front o).passed text → m.passed ≡ (from_front o).passed - length text → n.passed ≡ m.passed → OnOk result (n.rest ≡ [])
    → Ran saw NoRead old new (WritesOn result (left ++ ([] ++ [])) m.sent n.sent m.rest n.rest) → Ran saw NoRead old new (GoesOnFrom result text at n)
left_goes_on saw old new result text left at o m n counted amid sent rest is passed same none ran =
    let more = drop (from_front o).passed text in
    let all : WritesOn result more m.sent n.sent m.rest n.rest ran.events =
    subst (λ t. WritesOn result t m.sent n.sent m.rest n.rest ran.events) (append-nil left ∙ is) ran.claimed in
    let counts : WritesOn result more o.sent n.sent m.rest n.rest ran.events = subst (λ s. WritesOn result more s n.sent m.rest n.rest ran.events) sent all in
    reply_goes_on saw old new result text at o n counted amid none (record {
      events = ran.events;
      steps = ran.steps;
      timely = ran.timely;
      claimed = record {
        writes = subst (λ r. WritesOn result more o.sent n.sent r n.rest ran.events) rest counts;
        passed = on_ok result (n.passed ≡ (from_front o).passed - length text) (same ∙ passed);
      };
    })

-- nothing of a text was written where one begins
pub amid_first : (text : List ℕ) (out : Gathered) → out ≡ nothing → IsAmid text 0 out
amid_first text out is = subst (IsAmid text 0) (sym is) (record { within = omega arith; count = refl; left = text; behind = refl })
