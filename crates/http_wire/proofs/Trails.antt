-- Lemmas on trails of events.
use Rattle.std.proofs.Common.{◌≡◌, ℕ, ◌<◌, List, [], ◌∷◌, ◌++◌, length, Option, refl, sym, ap, subst, ◌∙◌, append_assoc, append-nil, arith}
use Rattle.std.specs.Io.KnownBytes.{Consumes, Appends}
use Rattle.std.proofs.KnownBytes.{Consumes-nil, Consumes-trans, Consumes-kept, Appends-nil, Appends-trans, Appends-kept}
use Rattle.http_wire.specs.Timing.{Event, Got, AtEnd, ReadFails, Put, WriteFails, read_of, all_got, all_put, IsLatest, GoesOn, IsAllowed, Timely, Steps, Moves, Gives, NoRead}

-- ---- one trail after another

pub got_joined : (events past : List Event) → all_got (events ++ past) ≡ all_got past ++ all_got events
got_joined [] past = sym (append-nil (all_got past))
got_joined (Got bytes ∷ events) past = ap (λ u. u ++ bytes) (got_joined events past) ∙ append_assoc (all_got past) (all_got events) bytes
got_joined (AtEnd ∷ events) past = got_joined events past
got_joined (ReadFails ∷ events) past = got_joined events past
got_joined (Put bytes ∷ events) past = got_joined events past
got_joined (WriteFails ∷ events) past = got_joined events past

pub put_joined : (events past : List Event) → all_put (events ++ past) ≡ all_put past ++ all_put events
put_joined [] past = sym (append-nil (all_put past))
put_joined (Got bytes ∷ events) past = put_joined events past
put_joined (AtEnd ∷ events) past = put_joined events past
put_joined (ReadFails ∷ events) past = put_joined events past
put_joined (Put bytes ∷ events) past = ap (λ u. u ++ bytes) (put_joined events past) ∙ append_assoc (all_put past) (all_put events) bytes
put_joined (WriteFails ∷ events) past = put_joined events past

pub goes_on_joined : (events past : List Event) → GoesOn events → GoesOn past → GoesOn (events ++ past)
goes_on_joined [] past on before = before
goes_on_joined (Got bytes ∷ events) past on before = tt
goes_on_joined (AtEnd ∷ events) past on before = absurd on
goes_on_joined (ReadFails ∷ events) past on before = absurd on
goes_on_joined (Put bytes ∷ events) past on before = tt
goes_on_joined (WriteFails ∷ events) past on before = absurd on

pub latest_joined : (event : Event) (events past : List Event) → IsLatest event events → IsLatest event (events ++ past)
latest_joined event [] past latest = absurd latest
latest_joined event (e ∷ events) past latest = latest

pub steps_joined : {S : Type 0} (saw : S → Event → S → Type 0) (a b c : S) (events past : List Event) → Steps saw a past b → Steps saw b events c
    → Steps saw a (events ++ past) c
steps_joined saw a b c [] past first second = subst (Steps saw a past) (sym second) first
steps_joined saw a b c (event ∷ events) past first second =
    (second.0, steps_joined saw a b second.0 events past first second.1, second.2)

-- an event is allowed where what came before it is the end of a longer trail
abbrev Widens : (may wide : List ℕ → List ℕ → Type 0) → (got put : List ℕ) → Type 0
Widens may wide before_got before_put = (got put : List ℕ) → may got put → wide (before_got ++ got) (before_put ++ put)

allowed_wide : (may wide : List ℕ → List ℕ → Type 0) (event : Event) (got put got2 put2 : List ℕ) → (may got put → wide got2 put2)
    → IsAllowed may event got put → IsAllowed wide event got2 put2
allowed_wide may wide (Got bytes) got put got2 put2 f h = (h.0, f h.1)
allowed_wide may wide AtEnd got put got2 put2 f h = f h
allowed_wide may wide ReadFails got put got2 put2 f h = f h
allowed_wide may wide (Put bytes) got put got2 put2 f h = h
allowed_wide may wide WriteFails got put got2 put2 f h = tt

-- a trail after another is timely where its reads may come after what the other got and put
pub timely_joined : (may wide : List ℕ → List ℕ → Type 0) (events past : List Event) → Widens may wide (all_got past) (all_put past)
    → Timely may events → GoesOn past → Timely wide past → Timely wide (events ++ past)
timely_joined may wide [] past f timely on before = before
timely_joined may wide (event ∷ events) past f timely on before =
    let P : List ℕ → List ℕ → Type 0 = λ got put. IsAllowed wide event got put in
    let wider : may (all_got events) (all_put events) → wide (all_got past ++ all_got events) (all_put past ++ all_put events) = f (all_got events) (all_put events) in
    let here = allowed_wide may wide event (all_got events) (all_put events) (all_got past ++ all_got events) (all_put past ++ all_put events) wider timely.1 in (
      goes_on_joined events past timely.0 on,
      subst (λ put. P (all_got (events ++ past)) put) (sym (put_joined events past))
          (subst (λ got. P got (all_put past ++ all_put events)) (sym (got_joined events past)) here),
      timely_joined may wide events past f timely.2 on before,
    )

-- the same with nothing before it
pub timely_wide : (may wide : List ℕ → List ℕ → Type 0) (events : List Event) → ((got put : List ℕ) → may got put → wide got put)
    → Timely may events → Timely wide events
timely_wide may wide [] f timely = tt
timely_wide may wide (event ∷ events) f timely = (
  timely.0,
  allowed_wide may wide event (all_got events) (all_put events) (all_got events) (all_put events) (f (all_got events) (all_put events)) timely.1,
  timely_wide may wide events f timely.2,
)

-- a trail without reads got nothing
pub nothing_got : (events : List Event) → Timely NoRead events → all_got events ≡ []
nothing_got [] timely = refl
nothing_got (Got bytes ∷ events) timely = absurd timely.1.1
nothing_got (AtEnd ∷ events) timely = absurd timely.1
nothing_got (ReadFails ∷ events) timely = absurd timely.1
nothing_got (Put bytes ∷ events) timely = nothing_got events timely.2
nothing_got (WriteFails ∷ events) timely = nothing_got events timely.2

-- ---- one read more

pub got_read : (piece : List ℕ) (past : List Event) → all_got (read_of piece ∷ past) ≡ all_got past ++ piece
got_read [] past = sym (append-nil (all_got past))
got_read (b ∷ piece) past = refl

pub put_read : (piece : List ℕ) (past : List Event) → all_put (read_of piece ∷ past) ≡ all_put past
put_read [] past = refl
put_read (b ∷ piece) past = refl

pub goes_on_read : (piece : List ℕ) (past : List Event) → 0 < length piece → GoesOn (read_of piece ∷ past)
goes_on_read [] past some = absurd (omega (arith, some))
goes_on_read (b ∷ piece) past some = tt

pub timely_read : (may : List ℕ → List ℕ → Type 0) (piece : List ℕ) (past : List Event) → GoesOn past → may (all_got past) (all_put past) → Timely may past
    → Timely may (read_of piece ∷ past)
timely_read may [] past on allowed timely = (on, allowed, timely)
timely_read may (b ∷ piece) past on allowed timely = (on, (omega arith, allowed), timely)

-- ---- what a trail does to known bytes

-- what the steps of a state tell
pub record Told (read_fails write_fails : Type 0) (events : List Event) (left held new_left new_held : Option (List ℕ)) : Type 0 where
  pub gives : Gives events left new_left
  pub taken : Appends held new_held (all_put events)
  pub read : IsLatest ReadFails events → read_fails
  pub write : IsLatest WriteFails events → write_fails

told_step : (read_fails write_fails : Type 0) (event : Event) (past : List Event) (left held mid_left mid_held new_left new_held : Option (List ℕ))
    → Consumes left mid_left (all_got past) → Appends held mid_held (all_put past) → Moves read_fails write_fails event mid_left mid_held new_left new_held
    → Told read_fails write_fails (event ∷ past) left held new_left new_held
told_step read_fails write_fails (Got bytes) past left held mid_left mid_held new_left new_held got put moves = record {
  gives = record { taken = Consumes-trans left mid_left new_left (all_got past) bytes got moves.0; end = λ e. cc e };
  taken = subst (λ h. Appends held h (all_put past)) (sym moves.1) put;
  read = λ e. cc e;
  write = λ e. cc e;
}
told_step read_fails write_fails AtEnd past left held mid_left mid_held new_left new_held got put moves = record {
  gives = record {
    taken = subst (Consumes left new_left) (append-nil (all_got past)) (Consumes-trans left mid_left new_left (all_got past) [] got moves.0);
    end = λ e. moves.1;
  };
  taken = subst (λ h. Appends held h (all_put past)) (sym moves.2) put;
  read = λ e. cc e;
  write = λ e. cc e;
}
told_step read_fails write_fails ReadFails past left held mid_left mid_held new_left new_held got put moves = record {
  gives = record { taken = Consumes-kept left mid_left new_left (all_got past) got moves.1; end = λ e. cc e };
  taken = subst (λ h. Appends held h (all_put past)) (sym moves.2) put;
  read = λ e. moves.0;
  write = λ e. cc e;
}
told_step read_fails write_fails (Put bytes) past left held mid_left mid_held new_left new_held got put moves = record {
  gives = record { taken = subst (λ l. Consumes left l (all_got past)) (sym moves.0) got; end = λ e. cc e };
  taken = Appends-trans held mid_held new_held (all_put past) bytes put moves.1;
  read = λ e. cc e;
  write = λ e. cc e;
}
told_step read_fails write_fails WriteFails past left held mid_left mid_held new_left new_held got put moves = record {
  gives = record { taken = subst (λ l. Consumes left l (all_got past)) (sym moves.1) got; end = λ e. cc e };
  taken = Appends-kept held mid_held new_held (all_put past) put moves.2;
  read = λ e. cc e;
  write = λ e. moves.0;
}

-- what the steps do to the bytes that are left and to those that are held, by what each event does to them
pub all_told : {S : Type 0} (saw : S → Event → S → Type 0) (left held : S → Option (List ℕ)) (read_fails write_fails : Type 0)
    → (told : (a b : S) (event : Event) → saw a event b → Moves read_fails write_fails event (left a) (held a) (left b) (held b))
    → (old new : S) (events : List Event) → Steps saw old events new → Told read_fails write_fails events (left old) (held old) (left new) (held new)
all_told saw left held read_fails write_fails told old new [] steps = record {
  gives = record { taken = subst (λ s. Consumes (left old) (left s) []) (sym steps) (Consumes-nil (left old)); end = λ e. absurd e };
  taken = subst (λ s. Appends (held old) (held s) []) (sym steps) (Appends-nil (held old));
  read = λ e. absurd e;
  write = λ e. absurd e;
}
all_told saw left held read_fails write_fails told old new (event ∷ past) steps =
    let before = all_told saw left held read_fails write_fails told old steps.0 past steps.1 in
    told_step read_fails write_fails event past (left old) (held old) (left steps.0) (held steps.0) (left new) (held new)
    before.gives.taken before.taken (told steps.0 new event steps.2)
