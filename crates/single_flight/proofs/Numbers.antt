-- How a table numbers its flights.
use Rattle.std.proofs.Common.{◌≡◌, ◌+◌, ◌<◌, ◌≤◌, List, [], ◌∷◌, ◌++◌, ap, arith}
use Rattle.host_names.specs.declared.digests.Digest.{Digest}
use Rattle.single_flight.specs.Open.{OpenFlight, OpenFlights}
use Rattle.single_flight.specs.Calls.{Call, Led, Joined, Finished, Does, DoInTurn}

-- no call takes back what has begun
never_fewer : (call : Call) (old mid : OpenFlights) → Does old call mid → old.begun ≤ mid.begun
never_fewer (Led key flight) old mid (none, numbered, is) = let more : mid.begun ≡ old.begun + 1 = ap (λ (s : OpenFlights). s.begun) is in omega (arith, more)
never_fewer (Joined key flight) old mid (there, is) = let same : mid.begun ≡ old.begun = ap (λ (s : OpenFlights). s.begun) is in omega (arith, same)
never_fewer (Finished key) old mid is = let same : mid.begun ≡ old.begun = ap (λ (s : OpenFlights). s.begun) is in omega (arith, same)

-- who leads after some calls has a number that isn't below those that had begun
not_below : (between after : List Call) (old new : OpenFlights) (key : Digest) (flight : OpenFlight) → DoInTurn old (between ++ Led key flight ∷ after) new → old.begun ≤ flight.number
not_below [] after old new key flight (mid, does, rest) = let numbered : flight.number ≡ old.begun = does.1 in omega (arith, numbered)
not_below (call ∷ between) after old new key flight (mid, does, rest) =
    let first = never_fewer call old mid does in
    let others = not_below between after mid new key flight rest in
    omega (arith, first, others)

pub greater : (before between after : List Call) (old new : OpenFlights) (key later_key : Digest) (flight later : OpenFlight)
    → DoInTurn old (before ++ Led key flight ∷ (between ++ Led later_key later ∷ after)) new → flight.number < later.number
greater [] between after old new key later_key flight later (mid, does, rest) =
    let numbered : flight.number ≡ old.begun = does.1 in
    let more : mid.begun ≡ old.begun + 1 = ap (λ (s : OpenFlights). s.begun) does.2 in
    let others = not_below between after mid new later_key later rest in
    omega (arith, numbered, more, others)
greater (call ∷ before) between after old new key later_key flight later (mid, does, rest) = greater before between after mid new key later_key flight later rest
