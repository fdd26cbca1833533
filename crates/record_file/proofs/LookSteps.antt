-- Which files have a header.
use Rattle.std.proofs.Common.{◌≡◌, ◌≢◌, ◌⊎◌, ℕ, ◌+◌, ◌<◌, ◌≤◌, List, [], ◌∷◌, ◌++◌, length, get_or, drop, inl, inr, sym, ◌∙◌, ap, subst, arith, length-append}
use Rattle.std.proofs.lemmas.List.{append-nil, drop_more}
use Rattle.record_file.specs.Frames.{records, opened, MayHold, framed, before, between, after}
use Rattle.record_file.specs.Slots.{HasFront, IsBelow, IsHeader, IsInUse, IsShown, old_header, new_header, version_1, version_2}
use Rattle.record_file.specs.Walks.{IsOpened}
use Rattle.record_file.proofs.OneAnswer.{opens_so}
use Rattle.record_file.proofs.OneWalk.{same_head}

module _ (header : List ℕ) where
  pub first_with : (rest : List ℕ) → opened header [] ++ rest ≡ 1 ∷ (header ++ rest)
  unfolding opened records
  first_with rest = ap (λ (l : List ℕ). 1 ∷ (l ++ rest)) (append-nil header)

  -- a file with its own gate open, its header and a gate behind it
  pub front_there : (file rest : List ℕ) → file ≡ 1 ∷ rest → drop 1 file ≡ header ++ drop (length header + 1) file → length header + 2 ≤ length file → HasFront header file
  front_there file rest is there long =
      let behind : drop (length header + 1) file ≡ get_or file (length header + 1) 0 ∷ drop (length header + 1 + 1) file = drop_more file (length header + 1) 0 (omega (arith, long)) in
      record {
        gate = get_or file (length header + 1) 0;
        rest = drop (length header + 1 + 1) file;
        is = is ∙ ap (λ (l : List ℕ). 1 ∷ l) (sym (ap (drop 1) is)) ∙ ap (λ (l : List ℕ). 1 ∷ l) there ∙ ap (λ (l : List ℕ). 1 ∷ (header ++ l)) behind ∙ sym (first_with (get_or file (length header + 1) 0 ∷ drop (length header + 1 + 1) file));
      }

  -- a file that is too short for that, or has other bytes there, has no such front
  pub front_short : (file : List ℕ) → length file < length header + 2 → HasFront header file → ⊥
  front_short file small front =
      omega (arith, small, ap length (front.is ∙ first_with (front.gate ∷ front.rest)), length-append header (front.gate ∷ front.rest))

  pub front_other : (file : List ℕ) → ((rest : List ℕ) → drop 1 file ≡ header ++ rest → ⊥) → HasFront header file → ⊥
  front_other file none front = none (front.gate ∷ front.rest) (ap (drop 1) (front.is ∙ first_with (front.gate ∷ front.rest)))

  pub front_opened : (file : List ℕ) → HasFront header file → IsOpened header file
  front_opened file front = record { rest = front.gate ∷ front.rest; is = front.is }

  -- it begins with 1, and has two bytes or more
  pub front_used : (file : List ℕ) → HasFront header file → IsInUse file
  front_used file front = by_header header (front.is ∙ first_with (front.gate ∷ front.rest))
    where
      by_header : (h : List ℕ) → file ≡ 1 ∷ (h ++ front.gate ∷ front.rest) → IsInUse file
      by_header [] is = record { second = front.gate; rest = front.rest; is = is }
      by_header (x ∷ h) is = record { second = x; rest = h ++ front.gate ∷ front.rest; is = is }

  -- a file with some bodies has it
  pub opened_front : (bodies : List (List ℕ)) (gate : ℕ) (rest file : List ℕ) → file ≡ opened header bodies ++ gate ∷ rest → HasFront header file
  opened_front bodies gate rest file is = let so = opens_so header bodies gate rest file is in record { gate = so.0; rest = so.1; is = so.2 }

  pub holds_front : (bodies : List (List ℕ)) (body file : List ℕ) → MayHold header bodies body file → HasFront header file
  holds_front bodies body file (before shut) = opened_front bodies 0 shut.rest file shut.is
  holds_front bodies body file (between half) = opened_front bodies half.gate (framed body ++ 0 ∷ half.rest) file half.is
  holds_front bodies body file (after shut) = opened_front (bodies ++ body ∷ []) 0 shut.rest file shut.is

-- a file has one of the two headers at most
pub not_both : (file : List ℕ) → HasFront old_header file → HasFront new_header file → ⊥
not_both file old new =
    let behind : old_header ++ old.gate ∷ old.rest ≡ new_header ++ new.gate ∷ new.rest =
    ap (drop 1) (sym (first_with old_header (old.gate ∷ old.rest)) ∙ sym old.is ∙ new.is ∙ first_with new_header (new.gate ∷ new.rest)) in
    let version : 1 ≡ 2 = ap (λ (l : List ℕ). get_or l 6 0) behind in
    omega (arith, version)

-- and so one generation
pub one_header : (a b : List ℕ) (g h : ℕ) (file : List ℕ) → IsHeader a g → IsHeader b h → HasFront a file → HasFront b file → (a ≡ b) × (g ≡ h)
one_header a b g h file (version_1 is none) (version_1 other zero_too) one two = (is ∙ sym other, none ∙ sym zero_too)
one_header a b g h file (version_1 is none) (version_2 other one_too) one two =
    absurd (not_both file (subst (λ (l : List ℕ). HasFront l file) is one) (subst (λ (l : List ℕ). HasFront l file) other two))
one_header a b g h file (version_2 is some) (version_1 other zero_too) one two =
    absurd (not_both file (subst (λ (l : List ℕ). HasFront l file) other two) (subst (λ (l : List ℕ). HasFront l file) is one))
one_header a b g h file (version_2 is some) (version_2 other one_too) one two = (is ∙ sym other, some ∙ sym one_too)

-- there are no more versions than two
pub two_headers : (header : List ℕ) (generation : ℕ) (file : List ℕ) → IsHeader header generation → HasFront header file → HasFront old_header file ⊎ HasFront new_header file
two_headers header generation file (version_1 is none) front = inl (subst (λ (l : List ℕ). HasFront l file) is front)
two_headers header generation file (version_2 is one) front = inr (subst (λ (l : List ℕ). HasFront l file) is front)

pub shown_used : (generation : ℕ) (file : List ℕ) → IsShown generation file → IsInUse file
shown_used generation file shown = front_used shown.header file shown.front

-- what isn't below a generation: a file that is shown with it or a greater one
pub not_below : (g h : ℕ) (file : List ℕ) → IsShown g file → IsBelow h file → g < h
not_below g h file shown (inl unused) = absurd (unused (shown_used g file shown))
not_below g h file shown (inr less) =
    subst (λ (n : ℕ). n < h) (one_header less.2.header shown.header less.0 g file less.2.is_header shown.is_header less.2.front shown.front).1 less.1

pub not_in_use : (gate : ℕ) (behind file : List ℕ) → gate ≢ 1 → file ≡ gate ∷ behind → IsInUse file → ⊥
not_in_use gate behind file other is used = other (same_head gate 1 behind (used.second ∷ used.rest) (sym is ∙ used.is))

-- a file of two bytes or more is in use where its gate is open
pub used_by_gate : (file : List ℕ) (gate : ℕ) → drop 0 file ≡ gate ∷ drop (0 + 1) file → gate ≡ 1 → 2 ≤ length file → IsInUse file
used_by_gate [] gate is open_gate long = absurd (omega (arith, long))
used_by_gate (x ∷ []) gate is open_gate long = absurd (omega (arith, long))
used_by_gate (x ∷ (y ∷ rest)) gate is open_gate long = record { second = y; rest = rest; is = ap (λ (n : ℕ). n ∷ (y ∷ rest)) (same_head x gate (y ∷ rest) (y ∷ rest) is ∙ open_gate) }
