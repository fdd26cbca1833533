-- What code needs of the steps.
use Rattle.std.proofs.Common.{◌≡◌, ℕ, zero, suc, ◌+◌, ◌<◌, ◌≤◌, Bool, true, false, cond, List, [], ◌∷◌, ◌++◌, length, drop, get_or, set, slice_get, slice_set, Option, Some, None, option_map, refl, sym, ap, ◌∙◌, arith, subst}
use Rattle.host_names.specs.declared.digests.Digest.{Digest}
use Rattle.world_node.specs.declared.flights.Flight.{Flight}
use Rattle.world_node.specs.declared.readers.Phase.{Phase}
use Rattle.world_node.specs.declared.readers.Phase.TheVariants.{Idle, Wants, Missed, Looks, Loads, Holds, Sets, Ends, Joins, Has}
use Rattle.world_node.specs.Nodes.{Want, Begin}
use Rattle.world_node.specs.Handlers.{missed_key, wants}
use Rattle.world_node.specs.Nodes.{NodeState, ReaderState, begun, by_reader, flight_changed, happens, is_open_of, led_or_joined, open_flight, wanted, with_phase}

-- what is read at a place is there
pub there : {A : Type 0} (xs : List A) (n : ℕ) (x : A) → n < length xs → x ≡ get_or xs n x → slice_get xs n ≡ Some x
there [] n x within is = absurd (omega arith)
there (y ∷ xs) zero x within is = ap (λ z. Some z) (sym is)
there (y ∷ xs) (suc n) x within is = there xs n x (omega arith) is

pub set_same : {A : Type 0} (xs : List A) (n : ℕ) (x : A) → slice_get xs n ≡ Some x → slice_set xs n x ≡ xs
set_same [] n x is = refl
set_same (y ∷ xs) zero x is = ap (λ z. z ∷ xs) (let same : y ≡ x = cc in sym same)
set_same (y ∷ xs) (suc n) x is = ap (λ zs. y ∷ zs) (set_same xs n x is)

shift : (i : ℕ) (rest : Option ℕ) → option_map (λ n. i + n) (option_map (λ n. n + 1) rest) ≡ option_map (λ n. (i + 1) + n) rest
shift i None = refl
shift i (Some n) = ap (λ m. Some m) (omega arith)

-- a flight more is passed over
pub passed : (key : Digest) (fs rest : List Flight) (i : ℕ) (f : Flight) → drop i fs ≡ f ∷ rest → is_open_of key f ≡ false → open_flight key fs ≡ option_map (λ n. i + n) (open_flight key (drop i fs))
    → open_flight key fs ≡ option_map (λ n. (i + 1) + n) (open_flight key rest)
passed key fs rest i f at test so =
    so ∙ ap (λ gs. option_map (λ n. i + n) (open_flight key gs)) at
    ∙ ap (λ b. option_map (λ n. i + n) (cond b (Some 0) (option_map (λ n. n + 1) (open_flight key rest)))) test ∙ shift i (open_flight key rest)

-- an open flight is met
pub met_open : (key : Digest) (fs rest : List Flight) (i : ℕ) (f : Flight) → drop i fs ≡ f ∷ rest → is_open_of key f ≡ true → open_flight key fs ≡ option_map (λ n. i + n) (open_flight key (drop i fs))
    → Some i ≡ open_flight key fs
met_open key fs rest i f at test so =
    sym (so ∙ ap (λ gs. option_map (λ n. i + n) (open_flight key gs)) at
    ∙ ap (λ b. option_map (λ n. i + n) (cond b (Some 0) (option_map (λ n. n + 1) (open_flight key rest)))) test ∙ ap (λ m. Some m) (omega arith))

kept : (w : NodeState) (r : ℕ) (v : ReaderState) → slice_get w.readers r ≡ Some v → record w { readers = slice_set w.readers r v } ≡ w
kept w r v at = ap (λ (vs : List ReaderState). record w { readers = vs }) (set_same w.readers r v at)

wants_by : (w : NodeState) (r : ℕ) (key : Digest) (v : ReaderState) → slice_get w.readers r ≡ Some v → (phase : Phase) → record w { readers = slice_set w.readers r (wants key v phase) } ≡ wanted w r v key phase
wants_by w r key v at Idle = refl
wants_by w r key v at (Wants k) = kept w r v at
wants_by w r key v at (Missed k) = kept w r v at
wants_by w r key v at (Looks n k) = kept w r v at
wants_by w r key v at (Loads n k) = kept w r v at
wants_by w r key v at (Holds n k o) = kept w r v at
wants_by w r key v at (Sets n k o) = kept w r v at
wants_by w r key v at (Ends n k) = kept w r v at
wants_by w r key v at (Joins n k) = kept w r v at
wants_by w r key v at (Has k o) = kept w r v at

pub want_done : (w : NodeState) (r : ℕ) (key : Digest) (v v' : ReaderState) → slice_get w.readers r ≡ Some v → v' ≡ wants key v v.phase → record w { readers = slice_set w.readers r v' } ≡ happens w (Want r key)
want_done w r key v v' at is =
    ap (λ (x : ReaderState). record w { readers = slice_set w.readers r x }) is ∙ wants_by w r key v at v.phase
    ∙ ap (λ (it : Option ReaderState). by_reader w it (λ u phase. wanted w r u key phase)) (sym at)

begins_not : (w : NodeState) (r : ℕ) (v : ReaderState) (phase : Phase) → missed_key phase ≡ None → begun w r v phase ≡ w
begins_not w r v Idle e = refl
begins_not w r v (Wants k) e = refl
begins_not w r v (Missed k) e = absurd (let no : Some k ≡ None = e in cc)
begins_not w r v (Looks n k) e = refl
begins_not w r v (Loads n k) e = refl
begins_not w r v (Holds n k o) e = refl
begins_not w r v (Sets n k o) e = refl
begins_not w r v (Ends n k) e = refl
begins_not w r v (Joins n k) e = refl
begins_not w r v (Has k o) e = refl

begins_by : (w : NodeState) (r : ℕ) (v : ReaderState) (key : Digest) (phase : Phase) → missed_key phase ≡ Some key → begun w r v phase ≡ led_or_joined w r v key (open_flight key w.flights)
begins_by w r v key Idle e = absurd (let no : None ≡ Some key = e in cc)
begins_by w r v key (Wants k) e = absurd (let no : None ≡ Some key = e in cc)
begins_by w r v key (Missed k) e = ap (λ (d : Digest). led_or_joined w r v d (open_flight d w.flights)) (let same : Some k ≡ Some key = e in cc)
begins_by w r v key (Looks n k) e = absurd (let no : None ≡ Some key = e in cc)
begins_by w r v key (Loads n k) e = absurd (let no : None ≡ Some key = e in cc)
begins_by w r v key (Holds n k o) e = absurd (let no : None ≡ Some key = e in cc)
begins_by w r v key (Sets n k o) e = absurd (let no : None ≡ Some key = e in cc)
begins_by w r v key (Ends n k) e = absurd (let no : None ≡ Some key = e in cc)
begins_by w r v key (Joins n k) e = absurd (let no : None ≡ Some key = e in cc)
begins_by w r v key (Has k o) e = absurd (let no : None ≡ Some key = e in cc)

pub begin_passed : (w : NodeState) (r : ℕ) (v : ReaderState) → slice_get w.readers r ≡ Some v → missed_key v.phase ≡ None → w ≡ happens w (Begin r)
begin_passed w r v at none = sym (begins_not w r v v.phase none) ∙ ap (λ (it : Option ReaderState). by_reader w it (begun w r)) (sym at)

pub begin_done : (w : NodeState) (r : ℕ) (v : ReaderState) (key : Digest) (number : Option ℕ) → slice_get w.readers r ≡ Some v → missed_key v.phase ≡ Some key → number ≡ open_flight key w.flights
    → led_or_joined w r v key number ≡ happens w (Begin r)
begin_done w r v key number at some is =
    ap (λ (n : Option ℕ). led_or_joined w r v key n) is ∙ sym (begins_by w r v key v.phase some) ∙ ap (λ (it : Option ReaderState). by_reader w it (begun w r)) (sym at)

change_is_set : (f : Flight → Flight) (n : ℕ) (xs : List Flight) (d : Flight) → n < length xs → flight_changed n f xs ≡ set xs n (f (get_or xs n d))
change_is_set f n [] d within = absurd (omega arith)
change_is_set f zero (x ∷ xs) d within = refl
change_is_set f (suc n) (x ∷ xs) d within = ap (λ ys. x ∷ ys) (change_is_set f n xs d (omega arith))

pub change_past : (f : Flight → Flight) (n : ℕ) (xs : List Flight) → length xs ≤ n → xs ≡ flight_changed n f xs
change_past f n [] past = refl
change_past f zero (x ∷ xs) past = absurd (omega arith)
change_past f (suc n) (x ∷ xs) past = ap (λ ys. x ∷ ys) (change_past f n xs (omega arith))

pub change_written : (f : Flight → Flight) (n : ℕ) (xs : List Flight) (x y : Flight) → n < length xs → x ≡ get_or xs n x → y ≡ f x → set xs n y ≡ flight_changed n f xs
change_written f n xs x y within here is = ap (set xs n) (is ∙ ap f here) ∙ sym (change_is_set f n xs x within)
