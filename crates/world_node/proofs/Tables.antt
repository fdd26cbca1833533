-- A node begins and ends its flights as a table does.
use Rattle.std.proofs.Common.{◌≡◌, ◌≢◌, ℕ, zero, suc, ◌+◌, ◌&&◌, Bool, true, false, cond, List, [], ◌∷◌, ◌++◌, length, slice_get, Option, Some, None, option_map, refl, sym, ap, ◌∙◌, subst, arith}
use Rattle.std.specs.FinMap.{find, from_entries, get, insert, remove, get-from_entries, get-insert, get-remove, same_map}
use Rattle.std.specs.List.{AllByRecursion}
use Rattle.std.specs.Option.{option_or}
use Rattle.std.specs.Ordering.{eq_by_cmp, is_eq}
use Rattle.std.specs.Str.{bytes_eq}
use Rattle.std.specs.declared.cmp.Ordering.{Ordering}
use Rattle.std.specs.declared.cmp.Ordering.TheVariants.{Less, Equal, Greater}
use Rattle.std.proofs.lemmas.Bool.{and_parts}
use Rattle.std.proofs.lemmas.Cmp.{eq_by_cmp_equiv}
use Rattle.std.proofs.lemmas.List.{length_push}
use Rattle.std.proofs.lemmas.Slice.Eq.{bytes_eq-Decides}
use Rattle.host_names.specs.Digests.{digest_cmp, digest_cmp_total, digest_cmp-IsAntisymmetric}
use Rattle.host_names.specs.declared.digests.Digest.{Digest}
use Rattle.single_flight.specs.Calls.{Call, DoInTurn, Does, Finished, Joined, Led}
use Rattle.single_flight.specs.Open.{OpenFlight, OpenFlights, no_flights}
use Rattle.world_node.specs.declared.flights.Flight.{Flight}
use Rattle.world_node.specs.Lawful.{OpenOnce}
use Rattle.world_node.specs.Nodes.{Landing, ended, flight_changed, fresh, is_open_of, open_flight, settled}
use Rattle.world_node.specs.Tables.{AreOfATable, numbered, open_ones, table_of}
use Rattle.world_node.proofs.Reading.{by_bytes}

-- ---- keys

ties : (o : Ordering) → is_eq o ≡ true → o ≡ Equal
ties Less e = cc e
ties Equal e = refl
ties Greater e = cc e

itself : (key : Digest) → bytes_eq key.0 key.0 ≡ true
itself key = (bytes_eq-Decides key.0 key.0).1 refl

-- keys tie exactly where their bytes are the same
same_test : (key k : Digest) → eq_by_cmp digest_cmp key k ≡ bytes_eq key.0 k.0
same_test key k =
    elim (bytes_eq key.0 k.0) as (λ b. bytes_eq key.0 k.0 ≡ b → eq_by_cmp digest_cmp key k ≡ b) [
      | true ↦ λ e. ap (λ d. eq_by_cmp digest_cmp key d) (by_bytes key k e) ∙ (eq_by_cmp_equiv digest_cmp_total).refl key
      | false ↦ λ e. elim (eq_by_cmp digest_cmp key k) as (λ t. eq_by_cmp digest_cmp key k ≡ t → t ≡ false) [
        | true ↦ λ tie.
            let one : key ≡ k = digest_cmp-IsAntisymmetric key k (ties _ tie) in
            let bad : true ≡ false = sym (itself key) ∙ ap (λ d. bytes_eq key.0 d.0) one ∙ e in
            cc bad
        | false ↦ λ tie. refl
      ] refl
    ] refl

-- ---- the flight of a key

-- the number in the whole list
further : (cells : ℕ → ℕ) (n : ℕ) (at : Option ℕ) → option_map (λ m. numbered cells (n + 1 + m)) at ≡ option_map (λ m. numbered cells (n + m)) (option_map (λ m. m + 1) at)
further cells n None = refl
further cells n (Some m) = let same : n + 1 + m ≡ n + (m + 1) = omega arith in ap (λ k. Some (numbered cells k)) same

find-open : (cells : ℕ → ℕ) (n : ℕ) (flights : List Flight) (key : Digest)
    → find digest_cmp key (open_ones cells n flights) ≡ option_map (λ m. numbered cells (n + m)) (open_flight key flights)
find-open cells n [] key = refl
find-open cells n (f ∷ flights) key =
    let more = open_ones cells (n + 1) flights in
    let up = option_map (λ m. m + 1) (open_flight key flights) in
    let of : ℕ → OpenFlight = λ m. numbered cells (n + m) in
    let rest : find digest_cmp key more ≡ option_map of up = find-open cells (n + 1) flights key ∙ further cells n (open_flight key flights) in
    let first : n ≡ n + 0 = omega arith in
    elim f.is_open as (λ b. find digest_cmp key (cond b ((f.key, numbered cells n) ∷ more) more) ≡ option_map of (cond (b && bytes_eq key.0 f.key.0) (Some 0) up)) [
      | true ↦ ap (λ t. cond t (Some (numbered cells n)) (find digest_cmp key more)) (same_test key f.key)
          ∙ elim (bytes_eq key.0 f.key.0) as (λ t. cond t (Some (numbered cells n)) (find digest_cmp key more) ≡ option_map of (cond t (Some 0) up)) [
            | true ↦ ap (λ k. Some (numbered cells k)) first
            | false ↦ rest
          ]
      | false ↦ rest
    ]

-- the flight of a key in the table is that of its number
get-open : (cells : ℕ → ℕ) (flights : List Flight) (key : Digest) → get (table_of cells flights).flights key ≡ option_map (numbered cells) (open_flight key flights)
get-open cells flights key = get-from_entries digest_cmp_total _ key ∙ find-open cells 0 flights key ∙ from_none cells (open_flight key flights)
  where
    from_none : (cells : ℕ → ℕ) (at : Option ℕ) → option_map (λ m. numbered cells (0 + m)) at ≡ option_map (numbered cells) at
    from_none cells None = refl
    from_none cells (Some m) = let same : 0 + m ≡ m = omega arith in ap (λ k. Some (numbered cells k)) same

-- ---- a flight begins

open-push : (q : Digest) (flights : List Flight) (f : Flight) → open_flight q (flights ++ f ∷ []) ≡ option_or (open_flight q flights) (cond (is_open_of q f) (Some (length flights)) None)
open-push q [] f = refl
open-push q (g ∷ flights) f =
    ap (λ o. cond (is_open_of q g) (Some 0) (option_map (λ n. n + 1) o)) (open-push q flights f)
    ∙ elim (is_open_of q g) as (λ b. cond b (Some 0) (option_map (λ n. n + 1) (option_or (open_flight q flights) (cond (is_open_of q f) (Some (length flights)) None)))
    ≡ option_or (cond b (Some 0) (option_map (λ n. n + 1) (open_flight q flights))) (cond (is_open_of q f) (Some (length (g ∷ flights))) None)) [
      | true ↦ refl
      | false ↦ up (open_flight q flights) (is_open_of q f) (length flights) (length (g ∷ flights)) (omega arith)
    ]
  where
    up : (at : Option ℕ) (b : Bool) (n m : ℕ) → n + 1 ≡ m → option_map (λ n. n + 1) (option_or at (cond b (Some n) None)) ≡ option_or (option_map (λ n. n + 1) at) (cond b (Some m) None)
    up (Some k) b n m next = refl
    up None true n m next = ap (λ k. Some k) next
    up None false n m next = refl

module _ (cells : ℕ → ℕ) (flights : List Flight) (key : Digest) (none : open_flight key flights ≡ None) where
  get-begun : (q : Digest) → option_map (numbered cells) (open_flight q (flights ++ fresh key ∷ []))
      ≡ cond (eq_by_cmp digest_cmp q key) (Some (numbered cells (length flights))) (option_map (numbered cells) (open_flight q flights))
  get-begun q =
      ap (option_map (numbered cells)) (open-push q flights (fresh key)) ∙ ap
      (λ t. option_map (numbered cells) (option_or (open_flight q flights) (cond t (Some (length flights)) None))) (sym (same_test q key))
      ∙ elim (eq_by_cmp digest_cmp q key) as (λ t. eq_by_cmp digest_cmp q key ≡ t → option_map (numbered cells) (option_or (open_flight q flights) (cond t (Some (length flights)) None))
      ≡ cond t (Some (numbered cells (length flights))) (option_map (numbered cells) (open_flight q flights))) [
        | true ↦ λ tie.
            let gone : open_flight q flights ≡ None = ap (λ k. open_flight k flights) (digest_cmp-IsAntisymmetric q key (ties _ tie)) ∙ none in
            ap (λ o. option_map (numbered cells) (option_or o (Some (length flights)))) gone
        | false ↦ λ tie. or_none (open_flight q flights)
      ] refl
    where
      or_none : (at : Option ℕ) → option_map (numbered cells) (option_or at None) ≡ option_map (numbered cells) at
      or_none None = refl
      or_none (Some m) = refl

  begun_map : (table_of cells (flights ++ fresh key ∷ [])).flights ≡ insert (table_of cells flights).flights key (numbered cells (length flights))
  begun_map = same_map digest_cmp_total digest_cmp-IsAntisymmetric _ _ (λ q.
      get-open cells (flights ++ fresh key ∷ []) q ∙ get-begun q
      ∙ ap (λ o. cond (eq_by_cmp digest_cmp q key) (Some (numbered cells (length flights))) o) (sym (get-open cells flights q))
      ∙ sym (get-insert digest_cmp_total (table_of cells flights).flights key (numbered cells (length flights)) q))

  pub led : Does (table_of cells flights) (Led key (numbered cells (length flights))) (table_of cells (flights ++ fresh key ∷ []))
  led = (
    get-open cells flights key ∙ ap (option_map (numbered cells)) none,
    refl,
    λ i. record { flights = begun_map i; begun = length_push flights (fresh key) i },
  )

pub joined : (cells : ℕ → ℕ) (flights : List Flight) (key : Digest) (n : ℕ) → open_flight key flights ≡ Some n → Does (table_of cells flights) (Joined key (numbered cells n)) (table_of cells flights)
joined cells flights key n there = (get-open cells flights key ∙ ap (option_map (numbered cells)) there, refl)

-- ---- a flight ends

-- the number of the first of some flights, where that is the one, and else what is found after it
abbrev first_or : Bool → Option ℕ → Option ℕ
first_or here later = cond here (Some 0) later

-- none of them is an open one of the key
none_open : (key : Digest) (flights : List Flight) → AllByRecursion (λ g. g.is_open ≡ true → key ≢ g.key) flights → open_flight key flights ≡ None
none_open key [] others = refl
none_open key (g ∷ flights) others =
    ap (λ o. first_or (is_open_of key g) (option_map (λ n. n + 1) o)) (none_open key flights others.1) ∙ closed g others.0
  where
    closed : (g : Flight) → (g.is_open ≡ true → key ≢ g.key) → first_or (is_open_of key g) None ≡ None
    closed g other =
        elim g.is_open as (λ b. g.is_open ≡ b → first_or (b && bytes_eq key.0 g.key.0) None ≡ None) [
          | true ↦ λ opened. elim (bytes_eq key.0 g.key.0) as (λ t. bytes_eq key.0 g.key.0 ≡ t → first_or t None ≡ None) [
            | true ↦ λ same. absurd (other opened (sym (by_bytes key g.key same)))
            | false ↦ λ same. refl
          ] refl
          | false ↦ λ opened. refl
        ] refl

length-changed : (n : ℕ) (change : Flight → Flight) (flights : List Flight) → length (flight_changed n change flights) ≡ length flights
length-changed n change [] = refl
length-changed zero change (f ∷ flights) = refl
length-changed (suc n) change (f ∷ flights) = let rest = length-changed n change flights in omega (arith, rest)

same_flight : (f g : Flight) → Some f ≡ Some g → f ≡ g
same_flight f g e = cc

-- the first is another one than the one that is open
other_first : (g f : Flight) (flights : List Flight) (n : ℕ) → slice_get flights n ≡ Some f → f.is_open ≡ true → AllByRecursion (λ h. h.is_open ≡ true → g.key ≢ h.key) flights → g.key ≢ f.key
other_first g f [] n there opened others = absurd (let no : None ≡ Some f = there in cc)
other_first g f (h ∷ flights) zero there opened others =
    let same : h ≡ f = same_flight h f there in
    λ one. others.0 (ap (λ (x : Flight). x.is_open) same ∙ opened) (one ∙ ap (λ (x : Flight). x.key) (sym same))
other_first g f (h ∷ flights) (suc n) there opened others = other_first g f flights n there opened others.1

open-ended : (flights : List Flight) (n : ℕ) (f : Flight) (q : Digest) → OpenOnce flights → slice_get flights n ≡ Some f → f.is_open ≡ true
    → open_flight q (flight_changed n ended flights) ≡ cond (bytes_eq q.0 f.key.0) None (open_flight q flights)
open-ended [] n f q once there opened = absurd (let no : None ≡ Some f = there in cc)
open-ended (g ∷ flights) zero f q once there opened =
    let same : g ≡ f = same_flight g f there in
    let is_open : g.is_open ≡ true = ap (λ (x : Flight). x.is_open) same ∙ opened in
    let key : bytes_eq q.0 f.key.0 ≡ bytes_eq q.0 g.key.0 = ap (λ (x : Flight). bytes_eq q.0 x.key.0) (sym same) in
    let up = option_map (λ n. n + 1) (open_flight q flights) in
    let closed : up ≡ cond (bytes_eq q.0 g.key.0) None (first_or (true && bytes_eq q.0 g.key.0) up) =
    elim (bytes_eq q.0 g.key.0) as (λ t. bytes_eq q.0 g.key.0 ≡ t → up ≡ cond t None (first_or (true && t) up)) [
      | true ↦ λ tie.
          let one : g.key ≡ q = by_bytes q g.key tie in
          ap (option_map (λ n. n + 1)) (subst (λ k. open_flight k flights ≡ None) one (none_open g.key flights (once.0 is_open)))
      | false ↦ λ tie. refl
    ] refl in
    closed ∙ ap (λ b. cond (bytes_eq q.0 g.key.0) None (first_or (b && bytes_eq q.0 g.key.0) up)) (sym is_open)
    ∙ ap (λ t. cond t None (open_flight q (g ∷ flights))) (sym key)
open-ended (g ∷ flights) (suc n) f q once there opened =
    let rest = open-ended flights n f q once.1 there opened in
    let up : Option ℕ → Option ℕ = option_map (λ n. n + 1) in
    ap (λ o. first_or (is_open_of q g) (up o)) rest
    ∙ elim (bytes_eq q.0 f.key.0) as (λ t. bytes_eq q.0 f.key.0 ≡ t → first_or (is_open_of q g) (up (cond t None (open_flight q flights)))
    ≡ cond t None (first_or (is_open_of q g) (up (open_flight q flights)))) [
      | true ↦ λ tie. elim (is_open_of q g) as (λ b. is_open_of q g ≡ b → first_or b None ≡ None) [
        | true ↦ λ first.
            let both = and_parts g.is_open (bytes_eq q.0 g.key.0) first in
            absurd (other_first g f flights n there opened (once.0 both.0) (by_bytes q g.key both.1 ∙ sym (by_bytes q f.key tie)))
        | false ↦ λ first. refl
      ] refl
      | false ↦ λ tie. refl
    ] refl

module _ (cells : ℕ → ℕ) (flights : List Flight) (n : ℕ) (f : Flight) (once : OpenOnce flights) (there : slice_get flights n ≡ Some f) (opened : f.is_open ≡ true) where
  ended_map : (table_of cells (flight_changed n ended flights)).flights ≡ remove (table_of cells flights).flights f.key
  ended_map = same_map digest_cmp_total digest_cmp-IsAntisymmetric _ _ (λ q.
      get-open cells (flight_changed n ended flights) q ∙ ap (option_map (numbered cells)) (open-ended flights n f q once there opened)
      ∙ out (bytes_eq q.0 f.key.0) (open_flight q flights)
      ∙ ap (λ t. cond t None (option_map (numbered cells) (open_flight q flights))) (sym (same_test q f.key))
      ∙ ap (λ o. cond (eq_by_cmp digest_cmp q f.key) None o) (sym (get-open cells flights q))
      ∙ sym (get-remove digest_cmp_total (table_of cells flights).flights f.key q))
    where
      out : (t : Bool) (at : Option ℕ) → option_map (numbered cells) (cond t None at) ≡ cond t None (option_map (numbered cells) at)
      out true at = refl
      out false at = refl

  pub finished : Does (table_of cells flights) (Finished f.key) (table_of cells (flight_changed n ended flights))
  finished = λ i. record { flights = ended_map i; begun = length-changed n ended flights i }

-- ---- lists of calls

one_more : (old mid new : OpenFlights) (calls : List Call) (call : Call) → DoInTurn old calls mid → Does mid call new → DoInTurn old (calls ++ call ∷ []) new
one_more old mid new [] call is does = (new, subst (λ (s : OpenFlights). Does s call new) is does, refl)
one_more old mid new (c ∷ calls) call (next, first, rest) does = (next, first, one_more next mid new calls call rest does)

pub of_start : (cells : ℕ → ℕ) → AreOfATable cells []
of_start cells = ([], refl)

pub of_led : (cells : ℕ → ℕ) (flights : List Flight) (key : Digest) → open_flight key flights ≡ None → AreOfATable cells flights → AreOfATable cells (flights ++ fresh key ∷ [])
of_led cells flights key none (calls, ran) =
    (calls ++ Led key (numbered cells (length flights)) ∷ [], one_more no_flights (table_of cells flights) _ calls _ ran (led cells flights key none))

-- ones that open and close none
same_table : (cells : ℕ → ℕ) (flights others : List Flight) → length others ≡ length flights → open_ones cells 0 others ≡ open_ones cells 0 flights → AreOfATable cells flights → AreOfATable cells others
same_table cells flights others long same (calls, ran) =
    let is : table_of cells flights ≡ table_of cells others = λ i. record { flights = from_entries (sym same i); begun = sym long i } in
    (calls, subst (DoInTurn no_flights calls) is ran)

same_settled : (cells : ℕ → ℕ) (outcome : Landing) (m n : ℕ) (flights : List Flight) → open_ones cells m (flight_changed n (settled outcome) flights) ≡ open_ones cells m flights
same_settled cells outcome m n [] = refl
same_settled cells outcome m zero (f ∷ flights) = refl
same_settled cells outcome m (suc n) (f ∷ flights) =
    ap (λ rest. cond f.is_open ((f.key, numbered cells m) ∷ rest) rest) (same_settled cells outcome (m + 1) n flights)

pub of_settled : (cells : ℕ → ℕ) (flights : List Flight) (n : ℕ) (outcome : Landing) → AreOfATable cells flights → AreOfATable cells (flight_changed n (settled outcome) flights)
of_settled cells flights n outcome = same_table cells flights (flight_changed n (settled outcome) flights) (length-changed n (settled outcome) flights) (same_settled cells outcome 0 n flights)

-- one that was closed is closed
same_ended : (cells : ℕ → ℕ) (m n : ℕ) (flights : List Flight) → ((f : Flight) → slice_get flights n ≡ Some f → f.is_open ≡ false)
    → open_ones cells m (flight_changed n ended flights) ≡ open_ones cells m flights
same_ended cells m n [] closed = refl
same_ended cells m zero (f ∷ flights) closed =
    ap (λ b. cond b ((f.key, numbered cells m) ∷ open_ones cells (m + 1) flights) (open_ones cells (m + 1) flights)) (sym (closed f refl))
same_ended cells m (suc n) (f ∷ flights) closed =
    ap (λ rest. cond f.is_open ((f.key, numbered cells m) ∷ rest) rest) (same_ended cells (m + 1) n flights closed)

of_closed : (cells : ℕ → ℕ) (flights : List Flight) (n : ℕ) → ((f : Flight) → slice_get flights n ≡ Some f → f.is_open ≡ false) → AreOfATable cells flights → AreOfATable cells (flight_changed n ended flights)
of_closed cells flights n closed = same_table cells flights (flight_changed n ended flights) (length-changed n ended flights) (same_ended cells 0 n flights closed)

of_ended_at : (cells : ℕ → ℕ) (flights : List Flight) (n : ℕ) (f : Flight) (is_open : Bool) → f.is_open ≡ is_open → OpenOnce flights → slice_get flights n ≡ Some f
    → AreOfATable cells flights → AreOfATable cells (flight_changed n ended flights)
of_ended_at cells flights n f true opened once there (calls, ran) =
    (calls ++ Finished f.key ∷ [], one_more no_flights (table_of cells flights) _ calls _ ran (finished cells flights n f once there opened))
of_ended_at cells flights n f false closed once there of =
    of_closed cells flights n (λ g at. ap (λ (x : Flight). x.is_open) (same_flight g f (sym at ∙ there)) ∙ closed) of

of_ended_where : (cells : ℕ → ℕ) (flights : List Flight) (n : ℕ) (found : Option Flight) → slice_get flights n ≡ found → OpenOnce flights
    → AreOfATable cells flights → AreOfATable cells (flight_changed n ended flights)
of_ended_where cells flights n None there once of = of_closed cells flights n (λ g at. absurd (let no : None ≡ Some g = sym there ∙ at in cc no)) of
of_ended_where cells flights n (Some f) there once of = of_ended_at cells flights n f f.is_open refl once there of

pub of_ended : (cells : ℕ → ℕ) (flights : List Flight) (n : ℕ) → OpenOnce flights → AreOfATable cells flights → AreOfATable cells (flight_changed n ended flights)
of_ended cells flights n once of = of_ended_where cells flights n (slice_get flights n) refl once of
