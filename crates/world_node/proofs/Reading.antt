-- Readers, as flights go on.
use Rattle.std.proofs.Common.{◌≡◌, ℕ, zero, suc, ◌+◌, ◌==◌, Bool, true, false, cond, List, [], ◌∷◌, ◌++◌, length, slice_get, Option, Some, None, option_map, refl, sym, ap, ◌∙◌, subst, arith}
use Rattle.std.specs.List.{AllByRecursion, find}
use Rattle.std.specs.Option.{option_or}
use Rattle.std.specs.Str.{bytes_eq}
use Rattle.std.specs.Bool.{Decides}
use Rattle.std.proofs.lemmas.Slice.Eq.{bytes_eq-Decides}
use Rattle.std.proofs.lemmas.Bool.Decides.{nat_tests}
use Rattle.host_names.specs.Digests.{digest_of}
use Rattle.host_names.specs.declared.digests.Digest.{Digest}
use Rattle.chunk_lru.specs.Caches.{Cache}
use Rattle.chunk_lru.specs.Recent.{found, has_name}
use Rattle.chunk_lru.specs.Rules.{held}
use Rattle.world_node.specs.declared.flights.Flight.{Flight}
use Rattle.world_node.specs.declared.readers.Got.{Got}
use Rattle.world_node.specs.declared.readers.Phase.{Phase}
use Rattle.world_node.specs.declared.readers.Phase.TheVariants.{Idle, Wants, Missed, Looks, Loads, Holds, Sets, Ends, Joins, Has}
use Rattle.world_node.specs.Nodes.{Landing, ReaderState, checked, gets, outcome_at}
use Rattle.world_node.specs.Lawful.{CameTo, IsNamed, IsOfFlight, IsRight}
use Rattle.world_node.proofs.Lists.{all_push, all_weaker}
use Rattle.world_node.proofs.Onward.{Continue, FlightNamed, IsOf, came, came_later, came_named, of_later}

abbrev pub PhaseOk : List Flight → Phase → Type 0
PhaseOk fs Idle = Unit {0}
PhaseOk fs (Wants key) = Unit {0}
PhaseOk fs (Missed key) = Unit {0}
PhaseOk fs (Looks n key) = IsOf fs n key
PhaseOk fs (Loads n key) = IsOf fs n key
PhaseOk fs (Holds n key o) = IsOf fs n key × IsNamed key o
PhaseOk fs (Sets n key o) = IsOf fs n key × IsNamed key o
PhaseOk fs (Ends n key) = IsOf fs n key
PhaseOk fs (Joins n key) = IsOf fs n key
PhaseOk fs (Has key o) = IsNamed key o

abbrev pub ReaderOk : List Flight → ReaderState → Type 0
ReaderOk fs v = PhaseOk fs v.phase × AllByRecursion (IsRight fs) v.got

of_flight_later : (fs gs : List Flight) → Continue fs gs → (got : Got) (flight : Option ℕ) → IsOfFlight fs got flight → IsOfFlight gs got flight
of_flight_later fs gs goes got None is = tt
of_flight_later fs gs goes got (Some n) is = came_later fs gs goes n got.key got.outcome is

pub right_later : (fs gs : List Flight) → Continue fs gs → (got : Got) → IsRight fs got → IsRight gs got
right_later fs gs goes got right = (of_flight_later fs gs goes got got.flight right.0, right.1)

phase_later : (fs gs : List Flight) → Continue fs gs → (phase : Phase) → PhaseOk fs phase → PhaseOk gs phase
phase_later fs gs goes Idle ok = tt
phase_later fs gs goes (Wants key) ok = tt
phase_later fs gs goes (Missed key) ok = tt
phase_later fs gs goes (Looks n key) ok = of_later fs gs goes n key ok
phase_later fs gs goes (Loads n key) ok = of_later fs gs goes n key ok
phase_later fs gs goes (Holds n key o) ok = (of_later fs gs goes n key ok.0, ok.1)
phase_later fs gs goes (Sets n key o) ok = (of_later fs gs goes n key ok.0, ok.1)
phase_later fs gs goes (Ends n key) ok = of_later fs gs goes n key ok
phase_later fs gs goes (Joins n key) ok = of_later fs gs goes n key ok
phase_later fs gs goes (Has key o) ok = ok

pub reader_later : (fs gs : List Flight) → Continue fs gs → (v : ReaderState) → ReaderOk fs v → ReaderOk gs v
reader_later fs gs goes v ok = (phase_later fs gs goes v.phase ok.0, all_weaker (IsRight fs) (IsRight gs) (right_later fs gs goes) v.got ok.1)

-- what a reader gets
pub gets_ok : (fs : List Flight) (key : Digest) (flight : Option ℕ) (o : Landing) (v : ReaderState) → IsOfFlight fs (record { key = key; flight = flight; outcome = o }) flight → IsNamed key o
    → AllByRecursion (IsRight fs) v.got → ReaderOk fs (gets key flight o v)
gets_ok fs key flight o v of named got = (tt, all_push (IsRight fs) v.got (record { key = key; flight = flight; outcome = o }) got (of, named))

-- ---- names

digests : (a b : Digest) → a.0 ≡ b.0 → a ≡ b
digests a b e = ap (λ (bytes : List ℕ). record { 0 = bytes }) e

pub by_bytes : (key other : Digest) → bytes_eq key.0 other.0 ≡ true → other ≡ key
by_bytes key other test =
    let same : key.0 ≡ other.0 = (bytes_eq-Decides key.0 other.0).0 test in
    digests other key (sym same)

by_test : (key : Digest) (chunk : List ℕ) → bytes_eq key.0 (digest_of chunk).0 ≡ true → digest_of chunk ≡ key
by_test key chunk test = by_bytes key (digest_of chunk) test

pub checked_named : (key : Digest) (answer : Option (List ℕ)) → IsNamed key (checked key answer)
checked_named key None = tt
checked_named key (Some bytes) =
    elim (bytes_eq key.0 (digest_of bytes).0) as (λ b. bytes_eq key.0 (digest_of bytes).0 ≡ b → IsNamed key (cond b (Some bytes) None)) [
      | true ↦ λ test. by_test key bytes test
      | false ↦ λ test. tt
    ] refl

found_named : (key : Digest) (chunks : List (List ℕ)) → IsNamed key (found key chunks)
found_named key [] = tt
found_named key (chunk ∷ chunks) =
    elim (has_name key chunk) as (λ b. has_name key chunk ≡ b → IsNamed key (cond b (Some chunk) (found key chunks))) [
      | true ↦ λ test. by_test key chunk test
      | false ↦ λ test. found_named key chunks
    ] refl

or_named : (key : Digest) (a b : Option (List ℕ)) → IsNamed key a → IsNamed key b → IsNamed key (option_or a b)
or_named key None b first second = second
or_named key (Some x) b first second = first

-- what the caches have under a name has that name
pub held_named : (key : Digest) (cache : Cache) → IsNamed key (held key cache)
held_named key cache = or_named key (found key cache.main) (found key cache.hot) (found_named key cache.main) (found_named key cache.hot)

pub checked_right : (key : Digest) (bytes : List ℕ) → digest_of bytes ≡ key → Some bytes ≡ checked key (Some bytes)
checked_right key bytes is =
    let test : bytes_eq key.0 (digest_of bytes).0 ≡ true = (bytes_eq-Decides key.0 (digest_of bytes).0).1 (ap (λ (d : Digest). d.0) (sym is)) in
    sym (ap (λ b. cond b (Some bytes) None) test)

pub checked_wrong : (key : Digest) (bytes : List ℕ) → (digest_of bytes ≡ key → ⊥) → None ≡ checked key (Some bytes)
checked_wrong key bytes not =
    elim (bytes_eq key.0 (digest_of bytes).0) as (λ b. bytes_eq key.0 (digest_of bytes).0 ≡ b → None ≡ cond b (Some bytes) None) [
      | true ↦ λ test. absurd (not (by_test key bytes test))
      | false ↦ λ test. refl
    ] refl
