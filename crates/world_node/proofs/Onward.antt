-- Flights, as they go on.
use Rattle.std.proofs.Common.{◌≡◌, ◌≢◌, ℕ, zero, suc, ◌+◌, ◌==◌, ◌&&◌, Bool, true, false, cond, List, [], ◌∷◌, ◌++◌, length, slice_get, Option, Some, None, option_map, unwrap_or, refl, sym, ap, ◌∙◌, subst}
use Rattle.std.specs.List.{AllByRecursion}
use Rattle.std.specs.Str.{bytes_eq}
use Rattle.std.specs.Bool.{Decides}
use Rattle.std.proofs.lemmas.Slice.Eq.{bytes_eq-Decides}
use Rattle.host_names.specs.Digests.{digest_of}
use Rattle.host_names.specs.declared.digests.Digest.{Digest}
use Rattle.world_node.specs.declared.flights.Flight.{Flight}
use Rattle.world_node.specs.declared.readers.Got.{Got}
use Rattle.world_node.specs.Nodes.{Landing, ended, flight_changed, is_open_of, open_flight, outcome_at, outcome_in, settled}
use Rattle.world_node.specs.Lawful.{CameTo, IsNamed, IsOfFlight, IsRight, OpenOnce}
use Rattle.world_node.proofs.Lists.{all_get, all_push, all_weaker}

-- the flight of this number is of the key
pub record IsOf (flights : List Flight) (n : ℕ) (key : Digest) : Type 0 where
  pub flight : Flight
  pub there : slice_get flights n ≡ Some flight
  pub key_is : flight.key ≡ key

-- what a flight came to is a chunk of its name, or a fault
abbrev pub OutcomeNamed : Digest → Option Landing → Type 0
OutcomeNamed key None = Unit {0}
OutcomeNamed key (Some outcome) = IsNamed key outcome

abbrev pub FlightNamed : Flight → Type 0
FlightNamed f = OutcomeNamed f.key f.outcome

-- the later flight is the earlier one: its key, its outcome, if it had one, and it wasn't opened again
pub record Follows (f g : Flight) : Type 0 where
  pub key : g.key ≡ f.key
  pub outcome : (o : Landing) → f.outcome ≡ Some o → g.outcome ≡ Some o
  pub opened : g.is_open ≡ true → f.is_open ≡ true

abbrev pub Continue : List Flight → List Flight → Type 0
Continue [] gs = Unit {0}
Continue (f ∷ fs) [] = ⊥
Continue (f ∷ fs) (g ∷ gs) = Follows f g × Continue fs gs

follows_itself : (f : Flight) → Follows f f
follows_itself f = record { key = refl; outcome = λ o e. e; opened = λ e. e }

pub continue_same : (fs : List Flight) → Continue fs fs
continue_same [] = tt
continue_same (f ∷ fs) = (follows_itself f, continue_same fs)

pub continue_push : (fs : List Flight) (f : Flight) → Continue fs (fs ++ f ∷ [])
continue_push [] f = tt
continue_push (g ∷ fs) f = (follows_itself g, continue_push fs f)

pub continue_changed : (n : ℕ) (change : Flight → Flight) → ((f : Flight) → Follows f (change f)) → (fs : List Flight) → Continue fs (flight_changed n change fs)
continue_changed n change follows [] = tt
continue_changed zero change follows (f ∷ fs) = (follows f, continue_same fs)
continue_changed (suc n) change follows (f ∷ fs) = (follows_itself f, continue_changed n change follows fs)

pub settled_follows : (outcome : Landing) (f : Flight) → Follows f (settled outcome f)
settled_follows outcome f = record { key = refl; outcome = λ o e. ap (λ (m : Option Landing). Some (unwrap_or m outcome)) e; opened = λ e. e }

pub ended_follows : (f : Flight) → Follows f (ended f)
ended_follows f = record { key = refl; outcome = λ o e. e; opened = λ e. cc }

same_flight : (f g : Flight) → Some f ≡ Some g → f ≡ g
same_flight f g e = cc

-- a flight that was there is there later
later : (fs gs : List Flight) → Continue fs gs → (n : ℕ) (f : Flight) → slice_get fs n ≡ Some f → (g : Flight) × (slice_get gs n ≡ Some g) × Follows f g
later [] gs goes n f there = absurd (let no : None ≡ Some f = there in cc)
later (h ∷ fs) [] goes n f there = absurd goes
later (h ∷ fs) (g ∷ gs) goes zero f there = (g, refl, subst (λ (x : Flight). Follows x g) (same_flight h f there) goes.0)
later (h ∷ fs) (g ∷ gs) goes (suc n) f there = later fs gs goes.1 n f there

pub of_later : (fs gs : List Flight) → Continue fs gs → (n : ℕ) (key : Digest) → IsOf fs n key → IsOf gs n key
of_later fs gs goes n key is =
    let at = later fs gs goes n is.flight is.there in
    record { flight = at.0; there = at.1; key_is = at.2.key ∙ is.key_is }

pub came_later : (fs gs : List Flight) → Continue fs gs → (n : ℕ) (key : Digest) (o : Landing) → CameTo fs n key o → CameTo gs n key o
came_later fs gs goes n key o came =
    let at = later fs gs goes n came.flight came.there in
    record { flight = at.0; there = at.1; key_is = at.2.key ∙ came.key_is; outcome_is = at.2.outcome o came.outcome_is }

-- a flight of the key that has an outcome came to it
pub came : (fs : List Flight) (n : ℕ) (key : Digest) (o : Landing) → IsOf fs n key → outcome_at fs n ≡ Some o → CameTo fs n key o
came fs n key o is has = record { flight = is.flight; there = is.there; key_is = is.key_is; outcome_is = ap outcome_in (sym is.there) ∙ has }

pub came_named : (fs : List Flight) (n : ℕ) (key : Digest) (o : Landing) → AllByRecursion FlightNamed fs → CameTo fs n key o → IsNamed key o
came_named fs n key o all came =
    let here : OutcomeNamed came.flight.key came.flight.outcome = all_get FlightNamed fs n came.flight came.there all in
    subst (λ (k : Digest). IsNamed k o) came.key_is (subst (OutcomeNamed came.flight.key) came.outcome_is here)

-- ---- what flights came to

settled_named : (key : Digest) (before : Option Landing) (o : Landing) → OutcomeNamed key before → IsNamed key o → OutcomeNamed key (Some (unwrap_or before o))
settled_named key None o was now = now
settled_named key (Some b) o was now = was

pub all_settled : (fs : List Flight) (n : ℕ) (key : Digest) (o : Landing) → IsOf fs n key → IsNamed key o → AllByRecursion FlightNamed fs → AllByRecursion FlightNamed (flight_changed n (settled o) fs)
all_settled [] n key o is named all = tt
all_settled (f ∷ fs) zero key o is named all =
    let same : f ≡ is.flight = same_flight f is.flight is.there in
    (settled_named f.key f.outcome o all.0 (subst (λ (k : Digest). IsNamed k o) (sym (ap (λ (x : Flight). x.key) same ∙ is.key_is)) named), all.1)
all_settled (f ∷ fs) (suc n) key o is named all =
    let rest : IsOf fs n key = record { flight = is.flight; there = is.there; key_is = is.key_is } in
    (all.0, all_settled fs n key o rest named all.1)

pub all_ended : (fs : List Flight) (n : ℕ) → AllByRecursion FlightNamed fs → AllByRecursion FlightNamed (flight_changed n ended fs)
all_ended [] n all = tt
all_ended (f ∷ fs) zero all = (all.0, all.1)
all_ended (f ∷ fs) (suc n) all = (all.0, all_ended fs n all.1)

-- ---- at most one of a key is open

none_here : (b : Bool) (n : Option ℕ) → cond b (Some 0) (option_map (λ k. k + 1) n) ≡ None → (b ≡ false) × (n ≡ None)
none_here true n e = absurd cc
none_here false None e = (refl, refl)
none_here false (Some n) e = absurd cc

bytes_eq-same : (bytes : List ℕ) → bytes_eq bytes bytes ≡ true
bytes_eq-same bytes = (bytes_eq-Decides bytes bytes).1 refl

apart : (f : Flight) (key : Digest) → is_open_of key f ≡ false → f.is_open ≡ true → f.key ≢ key
apart f key none is same =
    let test : (f.is_open && bytes_eq key.0 f.key.0) ≡ true =
    ap (λ (b : Bool). b && bytes_eq key.0 f.key.0) is ∙ ap (λ (k : Digest). bytes_eq key.0 k.0) same ∙ bytes_eq-same key.0 in
    cc (sym test ∙ none)

pub once_push : (fs : List Flight) (g : Flight) → open_flight g.key fs ≡ None → OpenOnce fs → OpenOnce (fs ++ g ∷ [])
once_push [] g none once = ((λ _. tt), tt)
once_push (f ∷ fs) g none once =
    let parts = none_here (is_open_of g.key f) (open_flight g.key fs) none in
    ((λ is. all_push (λ h. h.is_open ≡ true → f.key ≢ h.key) fs g (once.0 is) (λ _. apart f g.key parts.0 is)), once_push fs g parts.1 once.1)

others_changed : (key : Digest) (n : ℕ) (change : Flight → Flight) → ((f : Flight) → Follows f (change f)) → (fs : List Flight)
    → AllByRecursion (λ g. g.is_open ≡ true → key ≢ g.key) fs → AllByRecursion (λ g. g.is_open ≡ true → key ≢ g.key) (flight_changed n change fs)
others_changed key n change follows [] all = tt
others_changed key zero change follows (f ∷ fs) all = ((λ is same. all.0 ((follows f).opened is) (same ∙ (follows f).key)), all.1)
others_changed key (suc n) change follows (f ∷ fs) all = (all.0, others_changed key n change follows fs all.1)

pub once_changed : (n : ℕ) (change : Flight → Flight) → ((f : Flight) → Follows f (change f)) → (fs : List Flight) → OpenOnce fs → OpenOnce (flight_changed n change fs)
once_changed n change follows [] once = tt
once_changed zero change follows (f ∷ fs) once = (
  (λ is. all_weaker (λ g. g.is_open ≡ true → f.key ≢ g.key) (λ g. g.is_open ≡ true → (change f).key ≢ g.key) (λ g other opened same. other opened (sym (follows f).key ∙ same)) fs
      (once.0 ((follows f).opened is))),
  once.1,
)
once_changed (suc n) change follows (f ∷ fs) once = ((λ is. others_changed f.key n change follows fs (once.0 is)), once_changed n change follows fs once.1)
