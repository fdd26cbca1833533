-- What a file holds decides how it is opened.
use Rattle.std.proofs.Common.{◌≡◌, ◌≢◌, ◌⊎◌, ℕ, ◌+◌, ◌≤◌, suc, List, [], ◌∷◌, ◌++◌, length, drop, inl, inr, sym, ◌∙◌, ap, subst, arith, All}
use Rattle.std.proofs.lemmas.List.{append_cancel_left}
use Rattle.record_file.specs.Frames.{framed, records, opened, Holds, MayHold, shut, half_open, before, between, after}
use Rattle.record_file.specs.Walks.{AreLawful, EndsAt, HasEnded, HasRecord, IsBadRecord, IsNoRecord, IsShort}
use Rattle.record_file.specs.Pairs.{IsEnd}
use Rattle.record_file.proofs.NotWhole.{same_frame}
use Rattle.record_file.proofs.OneWalk.{first_record, no_record, opened_with, same_head, one_opened}

-- records and a gate begin with a gate
begins : (bodies : List (List ℕ)) (gate : ℕ) (rest : List ℕ) → (g : ℕ) × (r : List ℕ) × (records bodies ++ gate ∷ rest ≡ g ∷ r)
begins [] gate rest = (gate, rest, no_record (gate ∷ rest))
begins (b ∷ bodies) gate rest = (1, framed b ++ (records bodies ++ gate ∷ rest), first_record b bodies (gate ∷ rest))

-- of such records none is the first that is none
no_break : (IsLawful : List (List ℕ) → List ℕ → Type 0) (n : ℕ) (xs bs : List (List ℕ)) (h : ℕ) (r s : List ℕ) → AreLawful IsLawful xs → AreLawful IsLawful bs → h ≢ 1 → IsNoRecord (IsLawful xs) r ⊎ (1000000 ≤ n + length xs) → n + length bs ≤ 1000000 → records xs ++ 1 ∷ r ≡ records bs ++ h ∷ s → ⊥
no_break IsLawful n [] [] h r s few less closed broken most same = closed (sym (same_head 1 h r s (sym (no_record (1 ∷ r)) ∙ same ∙ no_record (h ∷ s))))
no_break IsLawful n [] (b ∷ bs) h r s few less closed (inl none) most same =
    let there : 1 ∷ r ≡ 1 ∷ (framed b ++ (records bs ++ h ∷ s)) = sym (no_record (1 ∷ r)) ∙ same ∙ first_record b bs (h ∷ s) in
    let next = begins bs h s in
    let first = less 0 b (omega arith) in
    none b next.0 next.1 (ap (drop 1) there ∙ ap (λ (l : List ℕ). framed b ++ l) next.2) first.0 first.1
no_break IsLawful n [] (b ∷ bs) h r s few less closed (inr many) most same = omega (arith, many, most)
no_break IsLawful n (a ∷ xs) [] h r s few less closed broken most same =
    closed (same_head h 1 s _ (sym (no_record (h ∷ s)) ∙ sym same ∙ first_record a xs (1 ∷ r)))
no_break IsLawful n (a ∷ xs) (b ∷ bs) h r s few less closed broken most same =
    let frames : framed a ++ (records xs ++ 1 ∷ r) ≡ framed b ++ (records bs ++ h ∷ s) = ap (drop 1) (sym (first_record a xs (1 ∷ r)) ∙ same ∙ first_record b bs (h ∷ s)) in
    let here = same_frame a b (records xs ++ 1 ∷ r) (records bs ++ h ∷ s) (few 0 a (omega arith)).0 (less 0 b (omega arith)).0 frames in
    let rest : AreLawful (λ before. IsLawful (b ∷ before)) bs = λ k d low. less (suc k) d (omega (arith, low)) in
    no_break (λ before. IsLawful (a ∷ before)) (n + 1) xs bs h r s (λ k d low. few (suc k) d (omega (arith, low)))
    (subst (λ (first : List ℕ). AreLawful (λ before. IsLawful (first ∷ before)) bs) (sym here.0) rest) closed (one_more broken) (omega (arith, most)) here.1
  where
    one_more : IsNoRecord (IsLawful (a ∷ xs)) r ⊎ (1000000 ≤ n + length (a ∷ xs)) → IsNoRecord (IsLawful (a ∷ xs)) r ⊎ (1000000 ≤ n + 1 + length xs)
    one_more (inl none) = inl none
    one_more (inr many) = inr (omega (arith, many))

module _ (header : List ℕ) where
  -- what was found of a file is what it holds
  pub found_is : (taken bodies : List (List ℕ)) (gate : ℕ) (file : List ℕ) → All IsShort taken → All IsShort bodies → EndsAt header taken gate file → Holds header bodies file → taken ≡ bodies
  found_is taken bodies gate file few less found (shut s) =
      (one_opened header taken bodies gate 0 found.rest s.rest few less found.closed (λ e. omega (arith, e)) (sym found.is ∙ s.is)).0
  found_is taken bodies gate file few less found (half_open body h) =
      (one_opened header taken bodies gate h.gate found.rest (framed body ++ 0 ∷ h.rest) few less found.closed (λ e. omega (arith, e, h.neither)) (sym found.is ∙ h.is)).0

  -- what a file holds is found in it
  pub holds_found : (bodies : List (List ℕ)) (file : List ℕ) → Holds header bodies file → (gate : ℕ) × EndsAt header bodies gate file
  holds_found bodies file (shut s) = (0, record { rest = s.rest; closed = λ e. omega (arith, e); is = s.is })
  holds_found bodies file (half_open body h) = (h.gate, record { rest = framed body ++ 0 ∷ h.rest; closed = λ e. omega (arith, e, h.neither); is = h.is })

  pub holds_one : (xs bs : List (List ℕ)) (file : List ℕ) → All IsShort xs → All IsShort bs → Holds header xs file → Holds header bs file → xs ≡ bs
  holds_one xs bs file few less one other = let found = holds_found xs file one in found_is xs bs found.0 file few less found.1 other

  pub opens_so : (bodies : List (List ℕ)) (gate : ℕ) (rest file : List ℕ) → file ≡ opened header bodies ++ gate ∷ rest → (g : ℕ) × (r : List ℕ) × (file ≡ opened header [] ++ g ∷ r)
  opens_so bodies gate rest file is =
      let first = begins bodies gate rest in
      let bare : opened header [] ++ first.0 ∷ first.1 ≡ 1 ∷ (header ++ first.0 ∷ first.1) = opened_with header [] (first.0 ∷ first.1) ∙ ap (λ (l : List ℕ). 1 ∷ (header ++ l)) (no_record (first.0 ∷ first.1)) in
      (first.0, first.1, is ∙ opened_with header bodies (gate ∷ rest) ∙ ap (λ (l : List ℕ). 1 ∷ (header ++ l)) first.2 ∙ sym bare)

  -- behind whichever bodies a gate is open, the first one is
  pub opens_record : (bodies : List (List ℕ)) (rest file : List ℕ) → file ≡ opened header bodies ++ 1 ∷ rest → HasRecord header file
  opens_record [] rest file is = record { rest = rest; is = is }
  opens_record (b ∷ bodies) rest file is =
      let behind = framed b ++ (records bodies ++ 1 ∷ rest) in
      let bare : opened header [] ++ 1 ∷ behind ≡ 1 ∷ (header ++ 1 ∷ behind) = opened_with header [] (1 ∷ behind) ∙ ap (λ (l : List ℕ). 1 ∷ (header ++ l)) (no_record (1 ∷ behind)) in
      record {
        rest = behind;
        is = is ∙ opened_with header (b ∷ bodies) (1 ∷ rest) ∙ ap (λ (l : List ℕ). 1 ∷ (header ++ l)) (first_record b bodies (1 ∷ rest)) ∙ sym bare;
      }

  -- a file with a body has an open gate behind its header
  pub some_record : (bodies : List (List ℕ)) (gate : ℕ) (rest file : List ℕ) → 1 ≤ length bodies → file ≡ opened header bodies ++ gate ∷ rest → HasRecord header file
  some_record [] gate rest file some is = absurd (omega (arith, some))
  some_record (b ∷ bodies) gate rest file some is =
      let behind = framed b ++ (records bodies ++ gate ∷ rest) in
      let bare : opened header [] ++ 1 ∷ behind ≡ 1 ∷ (header ++ 1 ∷ behind) = opened_with header [] (1 ∷ behind) ∙ ap (λ (l : List ℕ). 1 ∷ (header ++ l)) (no_record (1 ∷ behind)) in
      record {
        rest = behind;
        is = is ∙ opened_with header (b ∷ bodies) (gate ∷ rest) ∙ ap (λ (l : List ℕ). 1 ∷ (header ++ l)) (first_record b bodies (gate ∷ rest)) ∙ sym bare;
      }

  no_break_opened : (IsLawful : List (List ℕ) → List ℕ → Type 0) (number : ℕ) (bs : List (List ℕ)) (h : ℕ) (s file : List ℕ) → IsBadRecord header IsLawful number file → AreLawful IsLawful bs → h ≢ 1 → length bs ≤ 1000000 → file ≡ opened header bs ++ h ∷ s → ⊥
  no_break_opened IsLawful number bs h s file bad lawful closed most is =
      no_break IsLawful 0 bad.bodies bs h bad.breaks.rest s bad.lawful lawful closed (from_none bad.breaks.broken) (omega (arith, most))
      (append_cancel_left header (records bad.bodies ++ 1 ∷ bad.breaks.rest) (records bs ++ h ∷ s) (ap (drop 1) (sym (opened_with header bad.bodies (1 ∷ bad.breaks.rest)) ∙ sym bad.breaks.is ∙ is ∙ opened_with header bs (h ∷ s))))
    where
      from_none : IsNoRecord (IsLawful bad.bodies) bad.breaks.rest ⊎ (1000000 ≤ length bad.bodies) → IsNoRecord (IsLawful bad.bodies) bad.breaks.rest ⊎ (1000000 ≤ 0 + length bad.bodies)
      from_none (inl none) = inl none
      from_none (inr many) = inr (omega (arith, many))

  pub holds_no_bad : (IsLawful : List (List ℕ) → List ℕ → Type 0) (number : ℕ) (bodies : List (List ℕ)) (file : List ℕ) → IsBadRecord header IsLawful number file → AreLawful IsLawful bodies → length bodies ≤ 1000000 → Holds header bodies file → ⊥
  holds_no_bad IsLawful number bodies file bad lawful most (shut s) = no_break_opened IsLawful number bodies 0 s.rest file bad lawful (λ e. omega (arith, e)) most s.is
  holds_no_bad IsLawful number bodies file bad lawful most (half_open body h) =
      no_break_opened IsLawful number bodies h.gate (framed body ++ 0 ∷ h.rest) file bad lawful (λ e. omega (arith, e, h.neither)) most h.is

  -- what a put or an opening may leave holds the list, or the list with the body
  pub left_holds : (bodies : List (List ℕ)) (body file : List ℕ) → MayHold header bodies body file → Holds header bodies file ⊎ Holds header (bodies ++ body ∷ []) file
  left_holds bodies body file (before s) = inl (shut s)
  left_holds bodies body file (between h) = inl (half_open body h)
  left_holds bodies body file (after s) = inr (shut s)

  -- a file in which some bodies were found has no bad record
  pub found_no_bad : (IsLawful : List (List ℕ) → List ℕ → Type 0) (number : ℕ) (bodies : List (List ℕ)) (gate : ℕ) (file : List ℕ) → AreLawful IsLawful bodies → length bodies ≤ 1000000 → EndsAt header bodies gate file → IsBadRecord header IsLawful number file → ⊥
  found_no_bad IsLawful number bodies gate file lawful few found bad = no_break_opened IsLawful number bodies gate found.rest file bad lawful found.closed few found.is

  -- where a walk ended
  pub ended_there : (Has : List (List ℕ) → Type 0) (IsLawful : List (List ℕ) → List ℕ → Type 0) (at count gate : ℕ) (file : List ℕ) (ended : HasEnded header Has IsLawful at count gate file) → IsEnd header ended.walked.taken at count gate file
  ended_there Has IsLawful at count gate file ended = record {
    at_is = ended.walked.gate_is;
    count_is = ended.walked.count_is;
    ends = record { rest = drop (at + 1) file; closed = ended.closed; is = ended.walked.is ∙ ap (λ (l : List ℕ). opened header ended.walked.taken ++ l) ended.is };
  }

  pub ended_no_bad : (Has : List (List ℕ) → Type 0) (IsLawful : List (List ℕ) → List ℕ → Type 0) (number at count gate : ℕ) (file : List ℕ) → HasEnded header Has IsLawful at count gate file → count ≤ 1000000 → IsBadRecord header IsLawful number file → ⊥
  ended_no_bad Has IsLawful number at count gate file ended few bad =
      let there = ended_there Has IsLawful at count gate file ended in
      found_no_bad IsLawful number ended.walked.taken gate file ended.walked.lawful (omega (arith, there.count_is, few)) there.ends bad
