-- Which flights lists of calls leave open.
use Rattle.std.proofs.Common.{◌≡◌, inl, inr, true, false, cond, List, [], ◌∷◌, ◌++◌, Some, None, refl, sym, ap, subst, ◌∙◌}
use Rattle.std.specs.Prelude.{◌↔◌, ◌≢◌, ◌⊎◌}
use Rattle.std.specs.FinMap.{FinMap, get, insert, get-empty, get-insert, get-remove}
use Rattle.std.specs.List.{AllByRecursion}
use Rattle.std.specs.Ordering.{eq_by_cmp}
use Rattle.std.proofs.lemmas.Cmp.{eq_by_cmp_equiv}
use Rattle.host_names.specs.declared.digests.Digest.{Digest}
use Rattle.host_names.specs.Digests.{digest_cmp, digest_cmp_total}
use Rattle.single_flight.specs.Open.{no_flights, OpenFlight, OpenFlights}
use Rattle.single_flight.specs.Calls.{Call, Led, Joined, Finished, Does, DoInTurn, IsInFlight}
use Rattle.single_flight.proofs.Opened.{one_key}

-- keys that don't tie are two
two_keys : (key k : Digest) → eq_by_cmp digest_cmp key k ≡ false → k ≢ key
two_keys key k apart same =
    let bad : false ≡ true = sym apart ∙ (ap (λ d. eq_by_cmp digest_cmp key d) same ∙ (eq_by_cmp_equiv digest_cmp_total).refl key) in
    cc bad

other_end : (key k : Digest) → eq_by_cmp digest_cmp key k ≡ false → Finished k ≢ Finished key
other_end key k apart e = let same : k ≡ key = cc e in two_keys key k apart same

-- the flight of a key that was just begun
get_begun : (old : FinMap digest_cmp OpenFlight) (key : Digest) (flight : OpenFlight) → get (insert old key flight) key ≡ Some flight
get_begun old key flight =
    get-insert digest_cmp_total old key flight key
    ∙ ap (λ b. cond b (Some flight) (get old key)) ((eq_by_cmp_equiv digest_cmp_total).refl key)

abbrev Unfinished : Digest → List Call → Type 0
Unfinished key calls = AllByRecursion (λ call. call ≢ Finished key) calls

-- a call that doesn't finish a flight leaves it open
stays_once : (call : Call) (old mid : OpenFlights) (key : Digest) (flight : OpenFlight) → Does old call mid → get old.flights key ≡ Some flight → call ≢ Finished key → get mid.flights key ≡ Some flight
stays_once (Led k m) old mid key flight (none, numbered, is) here other =
    let at = ap (λ (s : OpenFlights). get s.flights key) is ∙ get-insert digest_cmp_total old.flights k m key in
    elim (eq_by_cmp digest_cmp key k) as (λ b. eq_by_cmp digest_cmp key k ≡ b → get mid.flights key ≡ cond b (Some m) (get old.flights key) → get mid.flights key ≡ Some flight) [
      | true ↦ λ tie found. let bad : None ≡ Some flight = sym none ∙ (ap (get old.flights) (sym (one_key key k tie)) ∙ here) in cc bad
      | false ↦ λ tie found. found ∙ here
    ] refl at
stays_once (Joined k m) old mid key flight (there, is) here other = ap (λ (s : OpenFlights). get s.flights key) is ∙ here
stays_once (Finished k) old mid key flight is here other =
    let at = ap (λ (s : OpenFlights). get s.flights key) is ∙ get-remove digest_cmp_total old.flights k key in
    elim (eq_by_cmp digest_cmp key k) as (λ b. eq_by_cmp digest_cmp key k ≡ b → get mid.flights key ≡ cond b None (get old.flights key) → get mid.flights key ≡ Some flight) [
      | true ↦ λ tie found. absurd (other (ap Finished (sym (one_key key k tie))))
      | false ↦ λ tie found. found ∙ here
    ] refl at

stays : (calls : List Call) (old new : OpenFlights) (key : Digest) (flight : OpenFlight) → DoInTurn old calls new → get old.flights key ≡ Some flight → Unfinished key calls → get new.flights key ≡ Some flight
stays [] old new key flight is here left = ap (λ (s : OpenFlights). get s.flights key) is ∙ here
stays (call ∷ calls) old new key flight (mid, does, rest) here left =
    stays calls mid new key flight rest (stays_once call old mid key flight does here left.0) left.1

open_at : (before after : List Call) (old new : OpenFlights) (key : Digest) (flight : OpenFlight) → DoInTurn old (before ++ Led key flight ∷ after) new → Unfinished key after → get new.flights key ≡ Some flight
open_at [] after old new key flight (mid, does, rest) left =
    stays after mid new key flight rest (ap (λ (s : OpenFlights). get s.flights key) does.2 ∙ get_begun old.flights key flight) left
open_at (call ∷ before) after old new key flight (mid, does, rest) left = open_at before after mid new key flight rest left

-- a flight that is open was begun by one of the calls, or was open before them, and no later call finished it
abbrev WasBegun : List Call → OpenFlights → Digest → OpenFlight → Type 0
WasBegun calls old key flight = IsInFlight calls key flight ⊎ ((get old.flights key ≡ Some flight) × Unfinished key calls)

later : (call : Call) (calls : List Call) (key : Digest) (flight : OpenFlight) → IsInFlight calls key flight → IsInFlight (call ∷ calls) key flight
later call calls key flight was = record {
  before = call ∷ was.before;
  after = was.after;
  led = ap (λ (cs : List Call). call ∷ cs) was.led;
  unfinished = was.unfinished;
}

-- of the flight that is open after a call, before later ones
begun_once : (call : Call) (calls : List Call) (old mid : OpenFlights) (key : Digest) (flight : OpenFlight) → Does old call mid → get mid.flights key ≡ Some flight → Unfinished key calls → WasBegun (call ∷ calls) old key flight
begun_once (Led k m) calls old mid key flight (none, numbered, is) here left =
    let at = sym (get-insert digest_cmp_total old.flights k m key) ∙ (ap (λ (s : OpenFlights). get s.flights key) (sym is) ∙ here) in
    elim (eq_by_cmp digest_cmp key k) as (λ b. eq_by_cmp digest_cmp key k ≡ b → cond b (Some m) (get old.flights key) ≡ Some flight → WasBegun (Led k m ∷ calls) old key flight) [
      | true ↦ λ tie same.
          let one : m ≡ flight = cc same in
          let lead : Led k m ≡ Led key flight = ap (λ d. Led d m) (sym (one_key key k tie)) ∙ ap (Led key) one in
          inl (record { before = []; after = calls; led = ap (λ (c : Call). c ∷ calls) lead; unfinished = left })
      | false ↦ λ tie same. inr (same, ((λ e. cc e), left))
    ] refl at
begun_once (Joined k m) calls old mid key flight (there, is) here left =
    inr (ap (λ (s : OpenFlights). get s.flights key) (sym is) ∙ here, ((λ e. cc e), left))
begun_once (Finished k) calls old mid key flight is here left =
    let at = sym (get-remove digest_cmp_total old.flights k key) ∙ (ap (λ (s : OpenFlights). get s.flights key) (sym is) ∙ here) in
    elim (eq_by_cmp digest_cmp key k) as (λ b. eq_by_cmp digest_cmp key k ≡ b → cond b None (get old.flights key) ≡ Some flight → WasBegun (Finished k ∷ calls) old key flight) [
      | true ↦ λ tie same. cc same
      | false ↦ λ tie same. inr (same, (other_end key k tie, left))
    ] refl at

was_begun_once : (call : Call) (calls : List Call) (old mid : OpenFlights) (key : Digest) (flight : OpenFlight) → Does old call mid → WasBegun calls mid key flight → WasBegun (call ∷ calls) old key flight
was_begun_once call calls old mid key flight does (inl was) = inl (later call calls key flight was)
was_begun_once call calls old mid key flight does (inr stayed) = begun_once call calls old mid key flight does stayed.0 stayed.1

was_begun : (calls : List Call) (old new : OpenFlights) (key : Digest) (flight : OpenFlight) → DoInTurn old calls new → get new.flights key ≡ Some flight → WasBegun calls old key flight
was_begun [] old new key flight is here = inr (ap (λ (s : OpenFlights). get s.flights key) (sym is) ∙ here, tt)
was_begun (call ∷ calls) old new key flight (mid, does, rest) here =
    was_begun_once call calls old mid key flight does (was_begun calls mid new key flight rest here)

from_none : (calls : List Call) (key : Digest) (flight : OpenFlight) → WasBegun calls no_flights key flight → IsInFlight calls key flight
from_none calls key flight (inl was) = was
from_none calls key flight (inr stayed) = let bad : None ≡ Some flight = sym (get-empty digest_cmp key) ∙ stayed.0 in cc bad

pub open_from_lead_to_end : (calls : List Call) (new : OpenFlights) → DoInTurn no_flights calls new → (key : Digest) (flight : OpenFlight) → (get new.flights key ≡ Some flight) ↔ IsInFlight calls key flight
open_from_lead_to_end calls new run key flight = (
  λ here. from_none calls key flight (was_begun calls no_flights new key flight run here),
  λ was. open_at was.before was.after no_flights new key flight (subst (λ (cs : List Call). DoInTurn no_flights cs new) was.led run) was.unfinished,
)

-- who joins a flight finds it open
pub joins_what_was_led : (before after : List Call) (old new : OpenFlights) (key : Digest) (flight : OpenFlight) → DoInTurn old (before ++ Joined key flight ∷ after) new
    → (mid : OpenFlights) × DoInTurn old before mid × (get mid.flights key ≡ Some flight)
joins_what_was_led [] after old new key flight (mid, does, rest) = (old, refl, does.0)
joins_what_was_led (call ∷ before) after old new key flight (mid, does, rest) =
    let at = joins_what_was_led before after mid new key flight rest in
    (at.0, (mid, does, at.1), at.2)
