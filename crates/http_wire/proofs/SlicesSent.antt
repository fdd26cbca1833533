-- Slices that are written, one write after another.
use Rattle.std.proofs.Common.{◌≡◌, ℕ, ◌+◌, ◌-◌, ◌^◌, ◌<◌, ◌≤◌, min, inl, inr, List, [], ◌∷◌, ◌++◌, length, length-append, take, drop, slice_range, Some, Result, Ok, Err, OnOk, refl, sym, ap, subst, ◌∙◌, append_assoc, append-nil, arith}
use Rattle.std.proofs.lemmas.Bool.{cases_lt}
use Rattle.std.proofs.lemmas.List.{drop_all, drop-drop, length-drop, length-take-le, take-append-drop}
use Rattle.std.proofs.lemmas.Slice.{between_to_end}
use Rattle.http_wire.specs.declared.halts.Halt.{Halt}
use Rattle.http_wire.specs.declared.halts.Halt.TheVariants.{Failed, WouldWait}
use Rattle.http_wire.specs.declared.sinks.WriteFailed.{WriteFailed}
use Rattle.http_wire.specs.Gathering.{Written, WrittenNow, WritesOn}
use Rattle.http_wire.specs.Halting.{Halts}
use Rattle.http_wire.specs.Timing.{Event, Put, WriteFails, all_put, NoRead, Ran}
use Rattle.http_wire.proofs.SentParts.{sent_more}
use Rattle.http_wire.proofs.Writes.{and_then, none_more, sent_further}

-- what was written of all the bytes, and what is left; and how many bytes of the first slice were
pub record SlicesSoFar {S : Type 0} (saw : S → Event → S → Type 0) (old new : S) (count after : ℕ) (all left first first_left : List ℕ) : Type 0 where
  pub ran : Ran saw NoRead old new (WritesOn (Ok tt) [] count after all left)
  pub gone : ℕ
  pub first_is : first_left ≡ drop gone first

pub no_slice : {S : Type 0} (saw : S → Event → S → Type 0) (old : S) (count : ℕ) (all first : List ℕ) → SlicesSoFar saw old old count count all all first first
no_slice saw old count all first = record { ran = none_more saw old count all; gone = 0; first_is = refl }

-- one write
one_write : {S : Type 0} (saw : S → Event → S → Type 0) (old new : S) (count after : ℕ) (left : List ℕ) (n : ℕ) → n ≤ length left → 0 < n → saw old (Put (take n left)) new
    → after ≡ min (count + n) (2 ^ 64 - 1) → Ran saw NoRead old new (WritesOn (Ok tt) [] count after left (drop n left))
one_write saw old new count after left n fits some seen after_is =
    let size : length (take n left) ≡ n = length-take-le n left fits in
    record {
      events = Put (take n left) ∷ [];
      steps = (old, refl, seen);
      timely = (tt, omega (arith, size, some), tt);
      claimed = record {
        ends = tt;
        text = λ written text s. subst (λ t. Written (written ++ take n left) t after (drop n left)) (sym (append-nil text))
            (sent_further (Some []) (Some written) (Some (written ++ take n left)) text count after left (take n left) (drop n left) s
            (sym (take-append-drop n left)) refl (omega (arith, after_is, size)));
      };
    }

pub one_write_more : {S : Type 0} (saw : S → Event → S → Type 0) (old mid new : S) (count between after : ℕ) (all left first first_left new_first : List ℕ) (n : ℕ)
    → SlicesSoFar saw old mid count between all left first first_left → n ≤ length left → 0 < n → saw mid (Put (take n left)) new → after ≡ min (between + n) (2 ^ 64 - 1)
    → new_first ≡ drop n first_left → SlicesSoFar saw old new count after all (drop n left) first new_first
one_write_more saw old mid new count between after all left first first_left new_first n so fits some seen after_is dropped = record {
  ran = and_then saw old mid new (Ok tt) [] [] count between after all left (drop n left) so.ran (one_write saw mid new between after left n fits some seen after_is);
  gone = so.gone + n;
  first_is = dropped ∙ ap (drop n) so.first_is ∙ drop-drop n so.gone first;
}

-- a write failed, or would have to wait
cut_here : (why : Halt WriteFailed) (written text : List ℕ) (count : ℕ) (left : List ℕ) → 0 < length left → Written written text count left
    → WrittenNow (Err why) (written ++ []) (text ++ []) count left
cut_here why written text count left some now =
    let nothing : left ≡ left ++ [] = sym (append-nil left) in (
      [],
      omega (arith, some, length-append left []),
      subst (λ w. Written w (text ++ []) count (left ++ [])) (sym (append-nil written))
          (subst (λ t. Written written t count (left ++ [])) (sym (append-nil text)) (subst (Written written text count) nothing now)),
    )

one_halt : {S : Type 0} (saw : S → Event → S → Type 0) (waits : S → Type 0) (old new : S) (why : Halt WriteFailed) (count : ℕ) (left : List ℕ) → 0 < length left
    → Halts saw waits WriteFails old new why → Ran saw NoRead old new (WritesOn (Err why) [] count count left left)
one_halt saw waits old new (Failed why) count left some seen = record {
  events = WriteFails ∷ [];
  steps = (old, refl, seen);
  timely = (tt, tt, tt);
  claimed = record { ends = refl; text = λ written text s. cut_here (Failed why) written text count left some s };
}
one_halt saw waits old new WouldWait count left some seen = record {
  events = [];
  steps = seen.1;
  timely = tt;
  claimed = record { ends = tt; text = λ written text s. cut_here WouldWait written text count left some s };
}

pub halted_amid : {S : Type 0} (saw : S → Event → S → Type 0) (waits : S → Type 0) (old mid new : S) (why : Halt WriteFailed) (count between : ℕ) (all left first first_left : List ℕ)
    → SlicesSoFar saw old mid count between all left first first_left → 0 < length left → Halts saw waits WriteFails mid new why
    → Ran saw NoRead old new (WritesOn (Err why) [] count between all left)
halted_amid saw waits old mid new why count between all left first first_left so some seen =
    and_then saw old mid new (Err why) [] [] count between between all left left so.ran (one_halt saw waits mid new why between left some seen)

-- ---- slices of which the first is what was gathered

-- what is left of it
first_of_rest : (items left : List ℕ) (at gone : ℕ) → left ≡ drop gone (drop at items) → drop (length items - length left) items ≡ left
first_of_rest items left at gone is =
    let whole : left ≡ drop (at + gone) items = is ∙ drop-drop gone at items in
    let size : length left ≡ length items - (at + gone) = ap length whole ∙ length-drop (at + gone) items in
    elim (cases_lt (at + gone) (length items)) [
      | inl lt ↦ ap (λ k. drop k items) (omega (arith, size, lt)) ∙ sym whole
      | inr ge ↦ drop_all (length items - length left) items (omega (arith, size, ge)) ∙ sym (whole ∙ drop_all (at + gone) items ge)
    ]

behind_first : (result : Result (Unit {0}) (Halt WriteFailed)) (written text : List ℕ) (count : ℕ) (first others : List ℕ) → OnOk result (first ++ others ≡ [])
    → WrittenNow result written text count (first ++ others) → WrittenNow result written text count first
behind_first (Ok done) written text count [] others none now = subst (Written written text count) none now
behind_first (Ok done) written text count (b ∷ first) others none now = absurd (omega (arith, ap length none))
behind_first (Err why) written text count first others none now = (
  others ++ now.0,
  subst (λ u. 0 < length u) (append_assoc first others now.0) now.1,
  subst (Written written text count) (append_assoc first others now.0) now.2,
)

-- they are written as the gathered bytes, with the others put behind them
pub as_pieces : {S : Type 0} (saw : S → Event → S → Type 0) (old new : S) (result : Result (Unit {0}) (Halt WriteFailed)) (more : List ℕ) (count after : ℕ) (rest first others : List ℕ)
    → OnOk result (first ++ others ≡ []) → Ran saw NoRead old new (WritesOn result [] count after (rest ++ more) (first ++ others))
    → Ran saw NoRead old new (WritesOn result more count after rest first)
as_pieces saw old new result more count after rest first others none ran = record {
  events = ran.events;
  steps = ran.steps;
  timely = ran.timely;
  claimed = record {
    ends = ran.claimed.ends;
    text = λ written text s. behind_first result (written ++ all_put ran.events) (text ++ more) after first others none
        (subst (λ t. WrittenNow result (written ++ all_put ran.events) t after (first ++ others)) (append-nil (text ++ more))
        (ran.claimed.text written (text ++ more) (sent_more (Some []) (Some written) text count rest more s)));
  };
}

-- what is gathered is shown from a place in it on
shown_behind : (items shown : List ℕ) (at : ℕ) → shown ≡ items → slice_range shown at (length shown) ≡ drop at items
shown_behind items shown at is = ap (λ (u : List ℕ). slice_range u at (length u)) is ∙ between_to_end items at (length items) (omega arith)

pub from_shown : {S : Type 0} (saw : S → Event → S → Type 0) (old new : S) (result : Result (Unit {0}) (Halt WriteFailed)) (more : List ℕ) (before count after : ℕ) (items shown rest : List ℕ)
    (at : ℕ) (left : List ℕ) → before ≡ count → shown ≡ items → drop at items ≡ rest
    → Ran saw NoRead old new (WritesOn result [] before after (slice_range shown at (length shown) ++ more) left)
    → Ran saw NoRead old new (WritesOn result [] count after (rest ++ more) left)
from_shown saw old new result more before count after items shown rest at left same is behind ran =
    let W : ℕ → List ℕ → Type 0 = λ n u. Ran saw NoRead old new (WritesOn result [] n after (u ++ more) left) in
    subst (W count) (shown_behind items shown at is ∙ behind) (subst (λ n. W n (slice_range shown at (length shown))) same ran)

pub left_of_shown : (items shown left : List ℕ) (at gone len : ℕ) → shown ≡ items → left ≡ drop gone (slice_range shown at (length shown)) → len ≡ length items
    → drop (len - length left) items ≡ left
left_of_shown items shown left at gone len is dropped size =
    ap (λ n. drop (n - length left) items) size ∙ first_of_rest items left at gone (dropped ∙ ap (drop gone) (shown_behind items shown at is))

pub first_none : (first others : List ℕ) → first ++ others ≡ [] → first ≡ []
first_none first others none = drop_all 0 first (omega (arith, ap length none, length-append first others))
