-- Every step keeps the node lawful.
use Rattle.std.proofs.Common.{◌≡◌, ℕ, zero, suc, ◌+◌, ◌&&◌, Bool, true, false, cond, add-one, List, [], ◌∷◌, ◌++◌, length, map, replicate, slice_get, slice_set, Option, Some, None, option_map, refl, sym, ap, ◌∙◌, subst}
use Rattle.std.specs.List.{AllByRecursion}
use Rattle.std.specs.Str.{bytes_eq}
use Rattle.std.proofs.lemmas.Bool.{and_parts}
use Rattle.host_names.specs.declared.digests.Digest.{Digest}
use Rattle.chunk_lru.specs.Caches.{Cache}
use Rattle.chunk_lru.specs.Rules.{added, held}
use Rattle.chunk_lru.specs.declared.caches.Which.{Which}
use Rattle.world_node.specs.declared.flights.Flight.{Flight}
use Rattle.world_node.specs.declared.readers.Got.{Got}
use Rattle.world_node.specs.declared.readers.Phase.{Phase}
use Rattle.world_node.specs.declared.readers.Phase.TheVariants.{Idle, Wants, Missed, Looks, Loads, Holds, Sets, Ends, Joins, Has}
use Rattle.world_node.specs.Nodes.{NodeStep}
use Rattle.world_node.specs.Nodes.{Want, Look, Begin, Answer, Add, Settle, Finish, Take}
use Rattle.world_node.specs.Nodes.{NodeState, Landing, ReaderState, after_all, answered, begun, by_reader, checked, ended, finished, flight_changed, found_again, found_first, fresh, gets, got_of, happens, is_open_of, led_or_joined, looked, open_flight, outcome_at, put, set_outcome, settled, start, told, took, wanted, with_phase}
use Rattle.world_node.specs.Lawful.{CameTo, IsNamed, IsOfFlight, IsRight, OpenOnce, ReadersAgree}
use Rattle.world_node.specs.Tables.{AreOfATable}
use Rattle.world_node.proofs.Lists.{all_get, all_mapped, all_push, all_set, all_weaker}
use Rattle.world_node.proofs.Onward.{Continue, FlightNamed, Follows, IsOf, all_ended, all_settled, came, came_named, continue_changed, continue_push, ended_follows, of_later, once_changed, once_push, settled_follows}
use Rattle.world_node.proofs.Tables.{of_ended, of_led, of_settled, of_start}
use Rattle.world_node.proofs.Reading.{by_bytes, right_later, PhaseOk, ReaderOk, checked_named, gets_ok, held_named, reader_later}

pub record IsLawful (w : NodeState) : Type 0 where
  pub once : OpenOnce w.flights
  pub table : (cells : ℕ → ℕ) → AreOfATable cells w.flights
  pub named : AllByRecursion FlightNamed w.flights
  pub readers : AllByRecursion (ReaderOk w.flights) w.readers

-- a reader goes on, and the caches may have changed
moved : (w : NodeState) (cache : Cache) (r : ℕ) (v : ReaderState) → ReaderOk w.flights v → IsLawful w → IsLawful (record { cache = cache; flights = w.flights; readers = slice_set w.readers r v })
moved w cache r v ok lawful = record { once = lawful.once; table = lawful.table; named = lawful.named; readers = all_set (ReaderOk w.flights) w.readers r v lawful.readers ok }

abbrev Goes : NodeState → (ReaderState → Phase → NodeState) → Type 0
Goes w does = (v : ReaderState) (phase : Phase) → PhaseOk w.flights phase → AllByRecursion (IsRight w.flights) v.got → IsLawful (does v phase)

by_reader_lawful : (w : NodeState) (r : ℕ) (does : ReaderState → Phase → NodeState) → Goes w does → IsLawful w → (it : Option ReaderState) → slice_get w.readers r ≡ it → IsLawful (by_reader w it does)
by_reader_lawful w r does goes lawful None there = lawful
by_reader_lawful w r does goes lawful (Some v) there =
    let ok = all_get (ReaderOk w.flights) w.readers r v there lawful.readers in
    goes v v.phase ok.0 ok.1

wanted_lawful : (w : NodeState) (r : ℕ) (key : Digest) → IsLawful w → Goes w (λ v phase. wanted w r v key phase)
wanted_lawful w r key lawful v Idle ok got = moved w w.cache r (with_phase (Wants key) v) (tt, got) lawful
wanted_lawful w r key lawful v (Wants k) ok got = lawful
wanted_lawful w r key lawful v (Missed k) ok got = lawful
wanted_lawful w r key lawful v (Looks n k) ok got = lawful
wanted_lawful w r key lawful v (Loads n k) ok got = lawful
wanted_lawful w r key lawful v (Holds n k o) ok got = lawful
wanted_lawful w r key lawful v (Sets n k o) ok got = lawful
wanted_lawful w r key lawful v (Ends n k) ok got = lawful
wanted_lawful w r key lawful v (Joins n k) ok got = lawful
wanted_lawful w r key lawful v (Has k o) ok got = lawful

found_first_ok : (fs : List Flight) (key : Digest) (at : Option (List ℕ)) (v : ReaderState) → IsNamed key at → AllByRecursion (IsRight fs) v.got → ReaderOk fs (found_first key at v)
found_first_ok fs key None v named got = (tt, got)
found_first_ok fs key (Some chunk) v named got = (named, got)

found_again_ok : (fs : List Flight) (n : ℕ) (key : Digest) (at : Option (List ℕ)) (v : ReaderState) → IsOf fs n key → IsNamed key at → AllByRecursion (IsRight fs) v.got → ReaderOk fs (found_again n key at v)
found_again_ok fs n key None v is named got = (is, got)
found_again_ok fs n key (Some chunk) v is named got = ((is, named), got)

looked_lawful : (w : NodeState) (r : ℕ) → IsLawful w → Goes w (looked w r)
looked_lawful w r lawful v Idle ok got = lawful
looked_lawful w r lawful v (Wants key) ok got = moved w _ r (found_first key (held key w.cache) v) (found_first_ok w.flights key (held key w.cache) v (held_named key w.cache) got) lawful
looked_lawful w r lawful v (Missed k) ok got = lawful
looked_lawful w r lawful v (Looks n key) ok got = moved w _ r (found_again n key (held key w.cache) v) (found_again_ok w.flights n key (held key w.cache) v ok (held_named key w.cache) got) lawful
looked_lawful w r lawful v (Loads n k) ok got = lawful
looked_lawful w r lawful v (Holds n k o) ok got = lawful
looked_lawful w r lawful v (Sets n k o) ok got = lawful
looked_lawful w r lawful v (Ends n k) ok got = lawful
looked_lawful w r lawful v (Joins n k) ok got = lawful
looked_lawful w r lawful v (Has k o) ok got = lawful

there_pushed : (fs : List Flight) (f : Flight) → slice_get (fs ++ f ∷ []) (length fs) ≡ Some f
there_pushed [] f = refl
there_pushed (g ∷ fs) f = there_pushed fs f

same_number : (n m : ℕ) → Some n ≡ Some m → n ≡ m
same_number n m e = cc

open_one : (key : Digest) (f : Flight) → is_open_of key f ≡ true → f.key ≡ key
open_one key f test = by_bytes key f.key (and_parts f.is_open (bytes_eq key.0 f.key.0) test).1

-- the number of an open flight, by whether the first is it
opened_at : (key : Digest) (f : Flight) (fs : List Flight) (n : ℕ) (here : Bool) → is_open_of key f ≡ here → (rest : Option ℕ) → ((m : ℕ) → rest ≡ Some m → IsOf fs m key)
    → cond here (Some 0) (option_map (λ k. k + 1) rest) ≡ Some n → IsOf (f ∷ fs) n key
opened_at key f fs n true test rest on e = subst (λ (k : ℕ). IsOf (f ∷ fs) k key) (same_number 0 n e) (record { flight = f; there = refl; key_is = open_one key f test })
opened_at key f fs n false test None on e = absurd (let no : None ≡ Some n = e in cc)
opened_at key f fs n false test (Some m) on e =
    let is = on m refl in
    let up : Some (m + 1) ≡ Some n = e in
    let there : slice_get (f ∷ fs) (m + 1) ≡ Some is.flight = rw add-one is.there in
    subst (λ (k : ℕ). IsOf (f ∷ fs) k key) (same_number (m + 1) n up) (record { flight = is.flight; there = there; key_is = is.key_is })

-- the number of an open flight
opened : (key : Digest) (fs : List Flight) (n : ℕ) → open_flight key fs ≡ Some n → IsOf fs n key
opened key [] n e = absurd (let no : None ≡ Some n = e in cc)
opened key (f ∷ fs) n e = opened_at key f fs n (is_open_of key f) refl (open_flight key fs) (λ m at. opened key fs m at) e

led_or_joined_lawful : (w : NodeState) (r : ℕ) (v : ReaderState) (key : Digest) → IsLawful w → AllByRecursion (IsRight w.flights) v.got → (at : Option ℕ) → open_flight key w.flights ≡ at → IsLawful (led_or_joined w r v key at)
led_or_joined_lawful w r v key lawful got None none =
    let new : Flight = fresh key in
    let later = w.flights ++ new ∷ [] in
    let goes : Continue w.flights later = continue_push w.flights new in
    let on : AllByRecursion (ReaderOk later) w.readers = all_weaker (ReaderOk w.flights) (ReaderOk later) (reader_later w.flights later goes) w.readers lawful.readers in
    let is : IsOf later (length w.flights) key = record { flight = new; there = there_pushed w.flights new; key_is = refl } in
    let gots : AllByRecursion (IsRight later) v.got = all_weaker (IsRight w.flights) (IsRight later) (right_later w.flights later goes) v.got got in
    record {
      once = once_push w.flights new none lawful.once;
      table = λ cells. of_led cells w.flights key none (lawful.table cells);
      named = all_push FlightNamed w.flights new lawful.named tt;
      readers = all_set (ReaderOk later) w.readers r (with_phase (Looks (length w.flights) key) v) on (is, gots);
    }
led_or_joined_lawful w r v key lawful got (Some n) some =
    moved w w.cache r (with_phase (Joins n key) v) (opened key w.flights n some, got) lawful

begun_lawful : (w : NodeState) (r : ℕ) → IsLawful w → Goes w (begun w r)
begun_lawful w r lawful v Idle ok got = lawful
begun_lawful w r lawful v (Wants k) ok got = lawful
begun_lawful w r lawful v (Missed key) ok got = led_or_joined_lawful w r v key lawful got (open_flight key w.flights) refl
begun_lawful w r lawful v (Looks n k) ok got = lawful
begun_lawful w r lawful v (Loads n k) ok got = lawful
begun_lawful w r lawful v (Holds n k o) ok got = lawful
begun_lawful w r lawful v (Sets n k o) ok got = lawful
begun_lawful w r lawful v (Ends n k) ok got = lawful
begun_lawful w r lawful v (Joins n k) ok got = lawful
begun_lawful w r lawful v (Has k o) ok got = lawful

answered_lawful : (w : NodeState) (r : ℕ) (answer : Option (List ℕ)) → IsLawful w → Goes w (λ v phase. answered w r v answer phase)
answered_lawful w r answer lawful v Idle ok got = lawful
answered_lawful w r answer lawful v (Wants k) ok got = lawful
answered_lawful w r answer lawful v (Missed k) ok got = lawful
answered_lawful w r answer lawful v (Looks n k) ok got = lawful
answered_lawful w r answer lawful v (Loads n k) ok got = moved w w.cache r (with_phase (Holds n k (checked k answer)) v) ((ok, checked_named k answer), got) lawful
answered_lawful w r answer lawful v (Holds n k None) ok got = moved w w.cache r (with_phase (Holds n k (checked k answer)) v) ((ok.0, checked_named k answer), got) lawful
answered_lawful w r answer lawful v (Holds n k (Some chunk)) ok got = lawful
answered_lawful w r answer lawful v (Sets n k o) ok got = lawful
answered_lawful w r answer lawful v (Ends n k) ok got = lawful
answered_lawful w r answer lawful v (Joins n k) ok got = lawful
answered_lawful w r answer lawful v (Has k o) ok got = lawful

put_lawful : (w : NodeState) (r : ℕ) (which : Which) → IsLawful w → Goes w (λ v phase. put w r v which phase)
put_lawful w r which lawful v Idle ok got = lawful
put_lawful w r which lawful v (Wants k) ok got = lawful
put_lawful w r which lawful v (Missed k) ok got = lawful
put_lawful w r which lawful v (Looks n k) ok got = lawful
put_lawful w r which lawful v (Loads n k) ok got = lawful
put_lawful w r which lawful v (Holds n k None) ok got = lawful
put_lawful w r which lawful v (Holds n k (Some chunk)) ok got = moved w (added which chunk w.cache) r (with_phase (Sets n k (Some chunk)) v) (ok, got) lawful
put_lawful w r which lawful v (Sets n k o) ok got = lawful
put_lawful w r which lawful v (Ends n k) ok got = lawful
put_lawful w r which lawful v (Joins n k) ok got = lawful
put_lawful w r which lawful v (Has k o) ok got = lawful

told_lawful : (w : NodeState) (r : ℕ) (v : ReaderState) (n : ℕ) (key : Digest) (o : Landing) → IsLawful w → IsOf w.flights n key → IsNamed key o → AllByRecursion (IsRight w.flights) v.got → IsLawful (told w r v n key o)
told_lawful w r v n key o lawful is named got =
    let later = flight_changed n (settled o) w.flights in
    let goes : Continue w.flights later = continue_changed n (settled o) (settled_follows o) w.flights in
    let names : AllByRecursion FlightNamed later = all_settled w.flights n key o is named lawful.named in
    let on : AllByRecursion (ReaderOk later) w.readers = all_weaker (ReaderOk w.flights) (ReaderOk later) (reader_later w.flights later goes) w.readers lawful.readers in
    let leader : ReaderOk later (with_phase (Ends n key) v) = reader_later w.flights later goes (with_phase (Ends n key) v) (is, got) in
    record {
      once = once_changed n (settled o) (settled_follows o) w.flights lawful.once;
      table = λ cells. of_settled cells w.flights n o (lawful.table cells);
      named = names;
      readers = all_set (ReaderOk later) w.readers r (with_phase (Ends n key) v) on leader;
    }

set_outcome_lawful : (w : NodeState) (r : ℕ) → IsLawful w → Goes w (set_outcome w r)
set_outcome_lawful w r lawful v Idle ok got = lawful
set_outcome_lawful w r lawful v (Wants k) ok got = lawful
set_outcome_lawful w r lawful v (Missed k) ok got = lawful
set_outcome_lawful w r lawful v (Looks n k) ok got = lawful
set_outcome_lawful w r lawful v (Loads n k) ok got = lawful
set_outcome_lawful w r lawful v (Holds n k o) ok got = told_lawful w r v n k o lawful ok.0 ok.1 got
set_outcome_lawful w r lawful v (Sets n k o) ok got = told_lawful w r v n k o lawful ok.0 ok.1 got
set_outcome_lawful w r lawful v (Ends n k) ok got = lawful
set_outcome_lawful w r lawful v (Joins n k) ok got = lawful
set_outcome_lawful w r lawful v (Has k o) ok got = lawful

finished_lawful : (w : NodeState) (r : ℕ) → IsLawful w → Goes w (finished w r)
finished_lawful w r lawful v Idle ok got = lawful
finished_lawful w r lawful v (Wants k) ok got = lawful
finished_lawful w r lawful v (Missed k) ok got = lawful
finished_lawful w r lawful v (Looks n k) ok got = lawful
finished_lawful w r lawful v (Loads n k) ok got = lawful
finished_lawful w r lawful v (Holds n k o) ok got = lawful
finished_lawful w r lawful v (Sets n k o) ok got = lawful
finished_lawful w r lawful v (Ends n key) ok got =
    let later = flight_changed n ended w.flights in
    let goes : Continue w.flights later = continue_changed n ended ended_follows w.flights in
    let on : AllByRecursion (ReaderOk later) w.readers = all_weaker (ReaderOk w.flights) (ReaderOk later) (reader_later w.flights later goes) w.readers lawful.readers in
    record {
      once = once_changed n ended ended_follows w.flights lawful.once;
      table = λ cells. of_ended cells w.flights n lawful.once (lawful.table cells);
      named = all_ended w.flights n lawful.named;
      readers = all_set (ReaderOk later) w.readers r (with_phase (Joins n key) v) on (reader_later w.flights later goes (with_phase (Joins n key) v) (ok, got));
    }
finished_lawful w r lawful v (Joins n k) ok got = lawful
finished_lawful w r lawful v (Has k o) ok got = lawful

got_lawful : (w : NodeState) (r : ℕ) (v : ReaderState) (n : ℕ) (key : Digest) → IsLawful w → IsOf w.flights n key → AllByRecursion (IsRight w.flights) v.got → (o : Option Landing) → outcome_at w.flights n ≡ o → IsLawful (got_of w r v (option_map (λ x. (key, Some n, x)) o))
got_lawful w r v n key lawful is got None has = lawful
got_lawful w r v n key lawful is got (Some o) has =
    let it = came w.flights n key o is has in
    moved w w.cache r (gets key (Some n) o v) (gets_ok w.flights key (Some n) o v it (came_named w.flights n key o lawful.named it) got) lawful

took_lawful : (w : NodeState) (r : ℕ) → IsLawful w → Goes w (took w r)
took_lawful w r lawful v Idle ok got = lawful
took_lawful w r lawful v (Wants k) ok got = lawful
took_lawful w r lawful v (Missed k) ok got = lawful
took_lawful w r lawful v (Looks n k) ok got = lawful
took_lawful w r lawful v (Loads n k) ok got = lawful
took_lawful w r lawful v (Holds n k o) ok got = lawful
took_lawful w r lawful v (Sets n k o) ok got = lawful
took_lawful w r lawful v (Ends n k) ok got = lawful
took_lawful w r lawful v (Joins n k) ok got = got_lawful w r v n k lawful ok got (outcome_at w.flights n) refl
took_lawful w r lawful v (Has k o) ok got = moved w w.cache r (gets k None o v) (gets_ok w.flights k None o v tt ok got) lawful

pub step_lawful : (w : NodeState) (step : NodeStep) → IsLawful w → IsLawful (happens w step)
step_lawful w (Want r key) lawful = by_reader_lawful w r (λ v phase. wanted w r v key phase) (wanted_lawful w r key lawful) lawful (slice_get w.readers r) refl
step_lawful w (Look r) lawful = by_reader_lawful w r (looked w r) (looked_lawful w r lawful) lawful (slice_get w.readers r) refl
step_lawful w (Begin r) lawful = by_reader_lawful w r (begun w r) (begun_lawful w r lawful) lawful (slice_get w.readers r) refl
step_lawful w (Answer r answer) lawful =
    by_reader_lawful w r (λ v phase. answered w r v answer phase) (answered_lawful w r answer lawful) lawful (slice_get w.readers r) refl
step_lawful w (Add r which) lawful = by_reader_lawful w r (λ v phase. put w r v which phase) (put_lawful w r which lawful) lawful (slice_get w.readers r) refl
step_lawful w (Settle r) lawful = by_reader_lawful w r (set_outcome w r) (set_outcome_lawful w r lawful) lawful (slice_get w.readers r) refl
step_lawful w (Finish r) lawful = by_reader_lawful w r (finished w r) (finished_lawful w r lawful) lawful (slice_get w.readers r) refl
step_lawful w (Take r) lawful = by_reader_lawful w r (took w r) (took_lawful w r lawful) lawful (slice_get w.readers r) refl

all_lawful : (steps : List NodeStep) (w : NodeState) → IsLawful w → IsLawful (after_all steps w)
all_lawful [] w lawful = lawful
all_lawful (step ∷ steps) w lawful = all_lawful steps (happens w step) (step_lawful w step lawful)

all_idle : (n : ℕ) → AllByRecursion (ReaderOk []) (replicate n (record { phase = Idle; got = [] }))
all_idle zero = tt
all_idle (suc n) = ((tt, tt), all_idle n)

pub start_lawful : (limit readers : ℕ) → IsLawful (start limit readers)
start_lawful limit readers = record { once = tt; table = of_start; named = tt; readers = all_idle readers }

pub runs_lawful : (limit readers : ℕ) (steps : List NodeStep) → IsLawful (after_all steps (start limit readers))
runs_lawful limit readers steps = all_lawful steps (start limit readers) (start_lawful limit readers)

pub agree : (w : NodeState) → IsLawful w → ReadersAgree w
agree w lawful = all_weaker (ReaderOk w.flights) (λ v. AllByRecursion (IsRight w.flights) v.got) (λ v ok. ok.1) w.readers lawful.readers
