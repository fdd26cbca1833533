-- The flights that are open.
use Rattle.std.specs.Prelude.{◌≡◌, ℕ, List, Some, map, refl}
use Rattle.std.specs.BTreeMap.{is_at}
use Rattle.std.specs.Coded.{Coded, code_by, coded×, coded_ℕ}
use Rattle.std.specs.FinMap as finmap
use Rattle.std.specs.Map.{lookup}
use Rattle.host_names.specs.declared.digests.Digest.{Digest}
use Rattle.host_names.specs.Digests.{coded_digest, digest_cmp}

-- a flight: its number in its table, and the number of the cell that its outcome is set in
pub record OpenFlight : Type 0 where
  pub number : ℕ
  pub outcome : ℕ

-- the flights that are open, each under its key, and how many were begun so far
pub record OpenFlights : Type 0 where
  pub flights : finmap.FinMap digest_cmp OpenFlight
  pub begun : ℕ

-- none was begun yet
abbrev pub no_flights : OpenFlights
no_flights = record { flights = finmap.empty; begun = 0 }

-- the flights that are kept in a list, by what is seen of each
abbrev pub opened : {F : Type 0} → (F → OpenFlight) → List (Digest × F) → finmap.FinMap digest_cmp OpenFlight
opened seen flights = finmap.from_entries (map (λ e. (e.0, seen e.1)) flights)

-- each flight that is found under a key is of it
abbrev pub AreOfTheirKeys : {F : Type 0} → (key_of : F → Digest) → List (Digest × F) → Type 0
AreOfTheirKeys {F} key_of flights = (key : Digest) (flight : F) → lookup (is_at (digest_cmp key)) flights ≡ Some flight → key_of flight ≡ key

-- how both are stored
abbrev pub coded_flight : Coded OpenFlight
coded_flight = code_by (ℕ × ℕ) (coded× coded_ℕ coded_ℕ) (λ f. (f.number, f.outcome)) (λ p. record { number = p.0; outcome = p.1 }) (λ _. refl)

abbrev pub coded_flights : Coded OpenFlights
coded_flights =
    code_by (finmap.FinMap digest_cmp OpenFlight × ℕ) (coded× (finmap.code coded_digest coded_flight) coded_ℕ)
    (λ s. (s.flights, s.begun)) (λ p. record { flights = p.0; begun = p.1 }) (λ _. refl)
