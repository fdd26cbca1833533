-- What the writes of a text lead to, from a place in it on.
use Rattle.std.proofs.Common.{◌≡◌, ℕ, ◌+◌, ◌-◌, ◌<◌, ◌≤◌, List, [], ◌∷◌, ◌++◌, length, take, Ok, Err, slice_range, refl, sym, ap, subst, ◌∙◌, append_assoc, append-nil, arith}
use Rattle.std.proofs.lemmas.List.{length-take-le, length-drop}
use Rattle.std.proofs.lemmas.Slice.{between_to_end}
use Rattle.http_wire.specs.declared.halts.Halt.{Halt}
use Rattle.http_wire.specs.declared.halts.Halt.TheVariants.{Failed, WouldWait}
use Rattle.http_wire.specs.declared.sinks.WriteFailed.{WriteFailed}
use Rattle.http_wire.specs.Halting.{Halts, WritesFrom}
use Rattle.http_wire.specs.Timing.{Event, Put, WriteFails, all_put, GoesOn, Timely, Steps, NoRead, Ran}
use Rattle.http_wire.proofs.SentParts.{take_further}

-- the text was written from one place on, up to another
pub record FromSoFar {S : Type 0} (saw : S → Event → S → Type 0) (old new : S) (text : List ℕ) (from at : ℕ) : Type 0 where
  pub events : List Event
  pub steps : Steps saw old events new
  pub timely : Timely NoRead events
  pub goes_on : GoesOn events
  pub put : take from text ++ all_put events ≡ take at text
  pub within : at ≤ length text

pub none_from : {S : Type 0} (saw : S → Event → S → Type 0) (old : S) (text : List ℕ) (at : ℕ) → at ≤ length text → FromSoFar saw old old text at at
none_from saw old text at within = record { events = []; steps = refl; timely = tt; goes_on = tt; put = append-nil (take at text); within = within }

-- one write more
pub write_further : {S : Type 0} (saw : S → Event → S → Type 0) (old mid new : S) (text : List ℕ) (from at count : ℕ) → FromSoFar saw old mid text from at → at < length text
    → count ≤ length (slice_range text at (length text)) → (0 < length (slice_range text at (length text)) → 0 < count)
    → saw mid (Put (take count (slice_range text at (length text)))) new → FromSoFar saw old new text from (at + count)
write_further saw old mid new text from at count so room within some seen =
    let rest = slice_range text at (length text) in
    let size : length rest ≡ length text - at = ap length (between_to_end text at (length text) (omega arith)) ∙ length-drop at text in
    let piece : length (take count rest) ≡ count = length-take-le count rest within in
    let one : 0 < count = some (omega (arith, size, room)) in
    record {
      events = Put (take count rest) ∷ so.events;
      steps = (mid, so.steps, seen);
      timely = (so.goes_on, omega (arith, piece, one), so.timely);
      goes_on = tt;
      put = sym (append_assoc (take from text) (all_put so.events) (take count rest)) ∙ ap (λ u. u ++ take count rest) so.put ∙ sym (take_further text at count so.within);
      within = omega (arith, within, size, room);
    }

pub all_from : {S : Type 0} (saw : S → Event → S → Type 0) (old new : S) (text : List ℕ) (from at : ℕ) → FromSoFar saw old new text from at → length text ≤ at
    → Ran saw NoRead old new (WritesFrom (Ok tt) text from at)
all_from saw old new text from at so full = record {
  events = so.events;
  steps = so.steps;
  timely = so.timely;
  claimed = record { within = so.within; put = so.put; ends = (so.goes_on, omega (arith, full, so.within)) };
}

-- a write failed, or would have to wait
pub halted : {S : Type 0} (saw : S → Event → S → Type 0) (waits : S → Type 0) (old mid new : S) (why : Halt WriteFailed) (text : List ℕ) (from at : ℕ) → FromSoFar saw old mid text from at
    → at < length text → Halts saw waits WriteFails mid new why → Ran saw NoRead old new (WritesFrom (Err why) text from at)
halted saw waits old mid new (Failed why) text from at so room seen = record {
  events = WriteFails ∷ so.events;
  steps = (mid, so.steps, seen);
  timely = (so.goes_on, tt, so.timely);
  claimed = record { within = so.within; put = so.put; ends = (refl, room) };
}
halted {S} saw waits old mid new WouldWait text from at so room seen = record {
  events = so.events;
  steps = subst (λ (s : S). Steps saw old so.events s) (sym seen.1) so.steps;
  timely = so.timely;
  claimed = record { within = so.within; put = so.put; ends = (so.goes_on, room) };
}
