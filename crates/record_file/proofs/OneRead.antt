-- One slot of two is read, and one list of bodies.
use Rattle.std.proofs.Common.{◌≡◌, ◌⊎◌, ℕ, ◌+◌, ◌≤◌, Bool, true, false, cond, List, [], ◌∷◌, ◌++◌, length, All, inl, inr, ⊎_elim, refl, sym, ◌∙◌, ap, subst, arith}
use Rattle.record_file.specs.declared.slots.Slots.{Slots}
use Rattle.record_file.specs.Frames.{Holds, IsShut, shut}
use Rattle.record_file.specs.Pairs.{AreForeign, ArePaired, FoundBoth, FoundLawful, HoldBoth, IsOldOrder, LeftOfFirst, LeftOfSecond, MayLead, Order, Reads, ReadsBad, ReadsOld, ReadsRecord, ReadsShut, first, first_of, second, second_of, neither, read, none}
use Rattle.record_file.specs.Slots.{HasFront, IsBelow, IsForeign, IsHeader, IsShown, new_header, old_header, version_1, version_2}
use Rattle.record_file.specs.Walks.{AreLawful, EndsAt, HasRecord, IsBadRecord, IsShort}
use Rattle.record_file.proofs.LookSteps.{not_below, one_header, opened_front, shown_used}
use Rattle.record_file.proofs.OneAnswer.{found_no_bad, holds_found, left_holds}
use Rattle.record_file.proofs.OneWalk.{one_opened}
use Rattle.record_file.proofs.SlotSteps.{stale_below}
use Rattle.record_file.proofs.PairSteps.{bad_front, below_none, lead_front, reads_none, turned_reads}

pub ends_front : (bodies : List (List ℕ)) (header file : List ℕ) → (gate : ℕ) × EndsAt header bodies gate file → HasFront header file
ends_front bodies header file found = opened_front header bodies found.0 found.1.rest file found.1.is

-- what is so of the file that is read, twice, is so of one file
module _ (P Q : List ℕ → List ℕ → Type 0) (front : (header file : List ℕ) → P header file → HasFront header file) (front_too : (header file : List ℕ) → Q header file → HasFront header file) (R : Type 0) (from : (header file : List ℕ) → P header file → Q header file → R) where
  same_file : (g h : ℕ) (a b file : List ℕ) → IsHeader a g → IsHeader b h → P a file → Q b file → R
  same_file g h a b file is is_too p q =
      let same = (one_header a b g h file is is_too (front a file p) (front_too b file q)).0 in
      from a file p (subst (λ (l : List ℕ). Q l file) (sym same) q)

  pub reads_both : (one other : List ℕ) → Reads P one other → Reads Q one other → R
  reads_both one other (first g a is p below) (first h b is_too q below_too) = same_file g h a b one is is_too p q
  reads_both one other (second g a is p below) (second h b is_too q below_too) = same_file g h a b other is is_too p q
  reads_both one other (first g a is p below) (second h b is_too q below_too) =
      let up = not_below g h one (record { header = a; is_header = is; front = front a one p }) below_too in
      let down = not_below h g other (record { header = b; is_header = is_too; front = front_too b other q }) below in
      absurd (omega (arith, up, down))
  reads_both one other (second g a is p below) (first h b is_too q below_too) =
      let up = not_below g h other (record { header = a; is_header = is; front = front a other p }) below_too in
      let down = not_below h g one (record { header = b; is_header = is_too; front = front_too b one q }) below in
      absurd (omega (arith, up, down))

-- two lists that were found are one
pub found_one : (xs ys : List (List ℕ)) (one other : List ℕ) → All IsShort xs → All IsShort ys → FoundBoth xs one other → FoundBoth ys one other → xs ≡ ys
found_one xs ys one other few less (read found) (read too) =
    reads_both (λ header file. (gate : ℕ) × EndsAt header xs gate file) (λ header file. (gate : ℕ) × EndsAt header ys gate file) (ends_front xs) (ends_front ys) (xs ≡ ys)
    (λ header file p q. (one_opened header xs ys p.0 q.0 p.1.rest q.1.rest few less p.1.closed q.1.closed (sym p.1.is ∙ q.1.is)).0) one other found too
found_one xs ys one other few less (read found) (none empty unused unused_too) = absurd (reads_none (λ header file. (gate : ℕ) × EndsAt header xs gate file) (ends_front xs) one other unused unused_too found)
found_one xs ys one other few less (none empty unused unused_too) (read found) = absurd (reads_none (λ header file. (gate : ℕ) × EndsAt header ys gate file) (ends_front ys) one other unused unused_too found)
found_one xs ys one other few less (none empty unused unused_too) (none too _ _) = empty ∙ sym too

-- what is held is found
held_read : (bodies : List (List ℕ)) (one other : List ℕ) → Reads (λ header file. Holds header bodies file) one other → Reads (λ header file. (gate : ℕ) × EndsAt header bodies gate file) one other
held_read bodies one other (first g header is holds below) = first g header is (holds_found header bodies one holds) below
held_read bodies one other (second g header is holds below) = second g header is (holds_found header bodies other holds) below

pub held_found : (bodies : List (List ℕ)) (one other : List ℕ) → HoldBoth bodies one other → FoundBoth bodies one other
held_found bodies one other (read reads) = read (held_read bodies one other reads)
held_found bodies one other (none empty unused unused_too) = none empty unused unused_too

-- so two slots hold one list
pub held_one : (xs ys : List (List ℕ)) (one other : List ℕ) → All IsShort xs → All IsShort ys → HoldBoth xs one other → HoldBoth ys one other → xs ≡ ys
held_one xs ys one other few less held too = found_one xs ys one other few less (held_found xs one other held) (held_found ys one other too)

-- two slots that hold few enough bodies have no bad record
pub found_not_bad : (IsLawful : List ℕ → List (List ℕ) → List ℕ → Type 0) (number : ℕ) (bodies : List (List ℕ)) (one other : List ℕ) → length bodies ≤ 1000000 → FoundLawful IsLawful bodies one other → ReadsBad IsLawful number one other → ⊥
found_not_bad IsLawful number bodies one other few (read found) bad =
    reads_both (λ header file. AreLawful (IsLawful header) bodies × ((gate : ℕ) × EndsAt header bodies gate file)) (λ header file. IsBadRecord header (IsLawful header) number file)
    (λ header file p. ends_front bodies header file p.1) (λ header. bad_front (IsLawful header) number header) ⊥
    (λ header file p q. found_no_bad header (IsLawful header) number bodies p.1.0 file p.0 few p.1.1 q) one other found bad
found_not_bad IsLawful number bodies one other few (none empty unused unused_too) bad =
    reads_none (λ header file. IsBadRecord header (IsLawful header) number file) (λ header. bad_front (IsLawful header) number header) one other unused unused_too bad

-- what is found and lawful is found
lawful_read : (IsLawful : List ℕ → List (List ℕ) → List ℕ → Type 0) (bodies : List (List ℕ)) (one other : List ℕ) → Reads (λ header file. AreLawful (IsLawful header) bodies × ((gate : ℕ) × EndsAt header bodies gate file)) one other
    → Reads (λ header file. (gate : ℕ) × EndsAt header bodies gate file) one other
lawful_read IsLawful bodies one other (first g header is found below) = first g header is found.1 below
lawful_read IsLawful bodies one other (second g header is found below) = second g header is found.1 below

pub lawful_found : (IsLawful : List ℕ → List (List ℕ) → List ℕ → Type 0) (bodies : List (List ℕ)) (one other : List ℕ) → FoundLawful IsLawful bodies one other → FoundBoth bodies one other
lawful_found IsLawful bodies one other (read reads) = read (lawful_read IsLawful bodies one other reads)
lawful_found IsLawful bodies one other (none empty unused unused_too) = none empty unused unused_too

-- and neither is foreign
below_known : (generation : ℕ) (file : List ℕ) → IsBelow generation file → IsForeign file → ⊥
below_known generation file (inl unused) foreign = unused foreign.used
below_known generation file (inr less) foreign = foreign.none less.0 less.2

known_both : (g : ℕ) (one other : List ℕ) → IsShown g one → IsBelow g other → AreForeign one other → ⊥
known_both g one other shown below (inl foreign) = foreign.none g shown
known_both g one other shown below (inr (inl foreign)) = below_known g other below foreign
known_both g one other shown below (inr (inr both)) =
    let same = (one_header shown.header both.1.header g both.0 one shown.is_header both.1.is_header shown.front both.1.front).1 in
    let down = not_below both.0 g other both.2 below in
    omega (arith, same, down)

known_turned : (g : ℕ) (one other : List ℕ) → IsShown g other → IsBelow g one → AreForeign one other → ⊥
known_turned g one other shown below (inl foreign) = below_known g one below foreign
known_turned g one other shown below (inr (inl foreign)) = foreign.none g shown
known_turned g one other shown below (inr (inr both)) =
    let same = (one_header shown.header both.2.header g both.0 other shown.is_header both.2.is_header shown.front both.2.front).1 in
    let down = not_below both.0 g one both.1 below in
    omega (arith, same, down)

pub found_not_foreign : (bodies : List (List ℕ)) (one other : List ℕ) → FoundBoth bodies one other → AreForeign one other → ⊥
found_not_foreign bodies one other (read (first g header is found below)) foreign =
    known_both g one other (record { header = header; is_header = is; front = ends_front bodies header one found }) below foreign
found_not_foreign bodies one other (read (second g header is found below)) foreign =
    known_turned g one other (record { header = header; is_header = is; front = ends_front bodies header other found }) below foreign
found_not_foreign bodies one other (none empty unused unused_too) (inl foreign) = unused foreign.used
found_not_foreign bodies one other (none empty unused unused_too) (inr (inl foreign)) = unused_too foreign.used
found_not_foreign bodies one other (none empty unused unused_too) (inr (inr both)) = unused (shown_used both.0 one both.1)

-- what is read isn't foreign
known_reads : (P : List ℕ → List ℕ → Type 0) → ((header file : List ℕ) → P header file → HasFront header file) → (one other : List ℕ) → Reads P one other → AreForeign one other → ⊥
known_reads P front one other (first g header is p below) foreign = known_both g one other (record { header = header; is_header = is; front = front header one p }) below foreign
known_reads P front one other (second g header is p below) foreign = known_turned g one other (record { header = header; is_header = is; front = front header other p }) below foreign

pub bad_known : (IsLawful : List ℕ → List (List ℕ) → List ℕ → Type 0) (number : ℕ) (one other : List ℕ) → ReadsBad IsLawful number one other → AreForeign one other → ⊥
bad_known IsLawful number one other bad foreign = known_reads (λ header file. IsBadRecord header (IsLawful header) number file) (λ header. bad_front (IsLawful header) number header) one other bad foreign

record_front : (header file : List ℕ) → HasRecord header file → HasFront header file
record_front header file has = record { gate = 1; rest = has.rest; is = has.is }

pub record_known : (one other : List ℕ) → ReadsRecord one other → AreForeign one other → ⊥
record_known one other has foreign = known_reads (λ header file. HasRecord header file) record_front one other has foreign

-- ---- what stops leave gives the list, or the list with the body

module _ (bodies : List (List ℕ)) (body : List ℕ) where
  pub led : (g : ℕ) (one other : List ℕ) → MayLead g bodies body one → IsBelow g other → HoldBoth bodies one other ⊎ HoldBoth (bodies ++ body ∷ []) one other
  led g one other leads below =
      ⊎_elim (λ holds. inl (read (first g leads.header leads.is_header holds below))) (λ holds. inr (read (first g leads.header leads.is_header holds below))) (left_holds leads.header bodies body one leads.holds)

  pub led_turned : (g : ℕ) (one other : List ℕ) → MayLead g bodies body other → IsBelow g one → HoldBoth bodies one other ⊎ HoldBoth (bodies ++ body ∷ []) one other
  led_turned g one other leads below =
      ⊎_elim (λ holds. inl (read (second g leads.header leads.is_header holds below))) (λ holds. inr (read (second g leads.header leads.is_header holds below))) (left_holds leads.header bodies body other leads.holds)

  -- an older file is below a newer one
  under : (g : ℕ) (file : List ℕ) → MayLead g bodies body file → IsBelow (g + 1) file
  under g file leads = inr (g, omega arith, record { header = leads.header; is_header = leads.is_header; front = lead_front g bodies body file leads })

  pub left_both : (order : Order) (one other : List ℕ) → LeftOfFirst order bodies body one → LeftOfSecond order bodies body other → HoldBoth bodies one other ⊎ HoldBoth (bodies ++ body ∷ []) one other
  left_both (first g) one other leads (inl below) = led g one other leads below
  left_both (first g) one other leads (inr next) = led_turned (g + 1) one other next (under g one leads)
  left_both (second g) one other (inl below) leads = led_turned g one other leads below
  left_both (second g) one other (inr next) leads = led (g + 1) one other next (under g other leads)
  left_both neither one other unused (inl below) = inl (none unused.0 unused.1 (below_none other below))
  left_both neither one other unused (inr next) = led_turned 1 one other next (inl unused.1)

-- ---- whether the file that is read is of version 1

old_zero : (generation : ℕ) (header : List ℕ) → IsHeader header generation → header ≡ old_header → generation ≡ 0
old_zero generation header (version_1 is zero_is) old = zero_is
old_zero generation header (version_2 is one_is) old = absurd (omega (arith, ap length (sym is ∙ old)))

-- only a file of generation 0 is
pub old_led : (g : ℕ) (one other : List ℕ) → IsShown g one → IsBelow g other → ReadsOld one other → g ≡ 0
old_led g one other shown below (first h header is p under) = (one_header shown.header header g h one shown.is_header is shown.front p.1).1 ∙ old_zero h header is p.0
old_led g one other shown below (second h header is p under) =
    let up = not_below g h one shown under in
    let down = not_below h g other (record { header = header; is_header = is; front = p.1 }) below in
    absurd (omega (arith, up, down))

module _ (bodies : List (List ℕ)) (body : List ℕ) where
  lead_shown : (g : ℕ) (file : List ℕ) → MayLead g bodies body file → IsShown g file
  lead_shown g file leads = record { header = leads.header; is_header = leads.is_header; front = lead_front g bodies body file leads }

  pub old_left : (order : Order) (one other : List ℕ) → LeftOfFirst order bodies body one → LeftOfSecond order bodies body other → ReadsOld one other → IsOldOrder order
  old_left (first g) one other leads (inl below) reads = old_led g one other (lead_shown g one leads) below reads
  old_left (first g) one other leads (inr next) reads =
      absurd (omega (arith, old_led (g + 1) other one (lead_shown (g + 1) other next) (under bodies body g one leads) (turned_reads _ one other reads)))
  old_left (second g) one other (inl below) leads reads = old_led g other one (lead_shown g other leads) below (turned_reads _ one other reads)
  old_left (second g) one other (inr next) leads reads =
      absurd (omega (arith, old_led (g + 1) one other (lead_shown (g + 1) one next) (under bodies body g other leads) reads))
  old_left neither one other unused (inl below) reads =
      absurd (reads_none (λ header file. (header ≡ old_header) × HasFront header file) (λ header file p. p.1) one other unused.1 (below_none other below) reads)
  old_left neither one other unused (inr next) reads =
      absurd (omega (arith, old_led 1 other one (lead_shown 1 other next) (inl unused.1) (turned_reads _ one other reads)))

-- it isn't of two slots that are open
module _ {D : Type 0} (may_leave : D → List ℕ → Type 0) (slots : Slots D) (bodies : List (List ℕ)) where
  pub paired_new : ArePaired may_leave slots bodies → (a b : List ℕ) → may_leave (first_of slots) a → may_leave (second_of slots) b → ReadsOld a b → ⊥
  paired_new paired = by_turn slots.turned
    where
      shown_new : (file : List ℕ) → IsShut new_header bodies file → IsShown 1 file
      shown_new file s = record { header = new_header; is_header = version_2 refl refl; front = opened_front new_header bodies 0 s.rest file s.is }

      by_turn : (turned : Bool) → (a b : List ℕ) → may_leave (cond turned slots.other slots.records.disk) a → may_leave (cond turned slots.records.disk slots.other) b → ReadsOld a b → ⊥
      by_turn false a b here there reads = omega (arith, old_led 1 a b (shown_new a (paired.settled.shut a here)) (stale_below 1 b (paired.stale b there)) reads)
      by_turn true a b here there reads = omega (arith, old_led 1 b a (shown_new b (paired.settled.shut b there)) (stale_below 1 a (paired.stale a here)) (turned_reads _ a b reads))

-- what is read with a gate of 0 behind it is held
pub shut_held : (bodies : List (List ℕ)) (one other : List ℕ) → ReadsShut bodies one other → HoldBoth bodies one other
shut_held bodies one other (first g header is shut_there below) = read (first g header is (shut shut_there) below)
shut_held bodies one other (second g header is shut_there below) = read (second g header is (shut shut_there) below)
