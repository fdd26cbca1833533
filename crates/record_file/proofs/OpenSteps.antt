-- What a crash may leave while a file is opened.
use Rattle.std.proofs.Common.{◌≡◌, ◌≢◌, ◌⊎◌, ℕ, List, [], ◌∷◌, ◌++◌, get_or, drop, inl, inr, sym, ◌∙◌, ap, subst, arith, All}
use Rattle.std.proofs.lemmas.List.Elements.{All-push}
use Rattle.record_file.specs.Frames.{framed, opened, IsShut, MayHold, before, between, after}
use Rattle.record_file.specs.Walks.{AreLawful, IsShort}
use Rattle.record_file.specs.Openings.{IsMending, MayBePut}
use Rattle.record_file.proofs.OneWalk.{one_opened}
use Rattle.record_file.proofs.PutSteps.{any_gate}

pub are_short : (IsLawful : List (List ℕ) → List ℕ → Type 0) (bodies : List (List ℕ)) → AreLawful IsLawful bodies → All IsShort bodies
are_short IsLawful bodies lawful = λ k d low. (lawful k d low).0

module _ (header : List ℕ) where
  -- a gate that a mending shuts, once it is shut
  module _ (bodies : List (List ℕ)) (gate : ℕ) (rest : List ℕ) where
    shut_stays : gate ≡ 0 → (c : List ℕ) → IsMending (opened header bodies) gate rest c → IsShut header bodies c
    shut_stays is c (inl some) = record { rest = rest; is = some.is ∙ ap (λ (n : ℕ). opened header bodies ++ n ∷ rest) (some.shut is) }
    shut_stays is c (inr cut) = record { rest = cut.rest; is = cut.is }

    half_stays : (body behind : List ℕ) → rest ≡ framed body ++ 0 ∷ behind → (c : List ℕ) → IsMending (opened header bodies) gate rest c → MayHold header bodies body c
    half_stays body behind spelled c (inl some) = any_gate header bodies body some.some c (record { rest = behind; is = some.is ∙ ap (λ (l : List ℕ). opened header bodies ++ some.some ∷ l) spelled })
    half_stays body behind spelled c (inr cut) = before (record { rest = cut.rest; is = cut.is })

  module _ (had : List (List ℕ)) (body : List ℕ) (put : MayBePut had body) (taken : List (List ℕ)) (few : All IsShort taken) (gate : ℕ) (rest file : List ℕ) (closed : gate ≢ 1) (is : file ≡ opened header taken ++ gate ∷ rest) where
    more_short : All IsShort (had ++ body ∷ [])
    more_short = All-push IsShort had body put.all put.short

    -- what is there while the end of the records is mended
    pub mending_holds : MayHold header had body file → (c : List ℕ) → IsMending (opened header taken) gate rest c → MayHold header had body c
    mending_holds (before shut) c left =
        let same = one_opened header taken had gate 0 rest shut.rest few put.all closed (λ e. omega (arith, e)) (sym is ∙ shut.is) in
        let gate_is : gate ≡ 0 = ap (λ (l : List ℕ). get_or l 0 0) same.1 in
        before (subst (λ (l : List (List ℕ)). IsShut header l c) same.0 (shut_stays taken gate rest gate_is c left))
    mending_holds (between half) c left =
        let same = one_opened header taken had gate half.gate rest (framed body ++ 0 ∷ half.rest) few put.all closed (λ e. omega (arith, e, half.neither)) (sym is ∙ half.is) in
        subst (λ (l : List (List ℕ)). MayHold header l body c) same.0 (half_stays taken gate rest body half.rest (ap (drop 1) same.1) c left)
    mending_holds (after shut) c left =
        let same = one_opened header taken (had ++ body ∷ []) gate 0 rest shut.rest few more_short closed (λ e. omega (arith, e)) (sym is ∙ shut.is) in
        let gate_is : gate ≡ 0 = ap (λ (l : List ℕ). get_or l 0 0) same.1 in
        after (subst (λ (l : List (List ℕ)). IsShut header l c) same.0 (shut_stays taken gate rest gate_is c left))

    -- which bodies those before the end are
    pub taken_is : MayHold header had body file → (taken ≡ had) ⊎ (taken ≡ had ++ body ∷ [])
    taken_is (before shut) =
        inl (one_opened header taken had gate 0 rest shut.rest few put.all closed (λ e. omega (arith, e)) (sym is ∙ shut.is)).0
    taken_is (between half) =
        inl (one_opened header taken had gate half.gate rest (framed body ++ 0 ∷ half.rest) few put.all closed (λ e. omega (arith, e, half.neither)) (sym is ∙ half.is)).0
    taken_is (after shut) =
        inr (one_opened header taken (had ++ body ∷ []) gate 0 rest shut.rest few more_short closed (λ e. omega (arith, e)) (sym is ∙ shut.is)).0
