-- Which of two slots is read, and what is left of both.
use Rattle.std.proofs.Common.{◌≡◌, ◌≢◌, ◌⊎◌, ℕ, ◌+◌, ◌<◌, Bool, true, false, not, cond, Option, Some, None, Result, MatchOption, is_some, List, [], ◌∷◌, ◌++◌, length, inl, inr, refl, sym, ◌∙◌, ap, subst, arith}
use Rattle.std.specs.Prelude.{⊤}
use Rattle.host_disk.proofs.Runs.{started}
use Rattle.host_disk.specs.Crashes.{LeavesOnly, Only}
use Rattle.record_file.specs.declared.faults.OpenFault.{OpenFault}
use Rattle.record_file.specs.declared.headers.Version.{Version}
use Rattle.record_file.specs.declared.headers.Version.TheVariants.{Old, Current}
use Rattle.record_file.specs.Frames.{opened, MayHold}
use Rattle.record_file.specs.declared.pairs.Opened.{Opened}
use Rattle.record_file.specs.declared.positions.Position.{Position}
use Rattle.record_file.specs.declared.slots.Slots.{Slots}
use Rattle.record_file.specs.declared.surveys.Found.{Found}
use Rattle.record_file.specs.Slots.{HasFront, IsBelow, IsForeign, IsHeader, IsInUse, IsReplacing, IsShown, IsStale, IsSurveyed, generation_of, header_of, new_header, old_header, older, version_1, version_2}
use Rattle.record_file.specs.Pairs.{AreForeign, ArePaired, AreRefused, AreSurveyed, BothLeave, FoundBoth, FoundLawful, HasOpened, IsMade, ReadsShut, first_of, second_of, IsBeside, IsReady, LeftOfFirst, LeftOfSecond, MayFollow, MayLead, Order, Reads, first, second, neither, read, none, kept, unused, brought, is_moved, order_of}
use Rattle.record_file.specs.Walks.{IsBadRecord, IsOnlyRead, TellsEither}
use Rattle.record_file.proofs.Brought.{leads}
use Rattle.record_file.proofs.SlotSteps.{stale_below}
use Rattle.record_file.proofs.Steps.{weaker}
use Rattle.record_file.proofs.LookSteps.{front_used, holds_front, not_below, not_both, one_header, opened_front, shown_used}

pub is_header : (version : Version) → IsHeader (header_of version) (generation_of version)
is_header Old = version_1 refl refl
is_header Current = version_2 refl refl

pub shown : (version : Version) (file : List ℕ) → HasFront (header_of version) file → IsShown (generation_of version) file
shown version file front = record { header = header_of version; is_header = is_header version; front = front }

-- a file that leads has a front
pub lead_front : (generation : ℕ) (bodies : List (List ℕ)) (body file : List ℕ) (leads : MayLead generation bodies body file) → HasFront leads.header file
lead_front generation bodies body file leads = holds_front leads.header bodies body file leads.holds

pub lead_used : (generation : ℕ) (bodies : List (List ℕ)) (body file : List ℕ) → MayLead generation bodies body file → IsInUse file
lead_used generation bodies body file leads = front_used leads.header file (lead_front generation bodies body file leads)

-- one of this version has its header and its generation
pub lead_is : (version : Version) (generation : ℕ) (bodies : List (List ℕ)) (body file : List ℕ) → HasFront (header_of version) file → MayLead generation bodies body file → (generation ≡ generation_of version) × MayHold (header_of version) bodies body file
lead_is version generation bodies body file front leads =
    let same = one_header leads.header (header_of version) generation (generation_of version) file leads.is_header (is_header version) (lead_front generation bodies body file leads) front in
    (same.1, subst (λ (h : List ℕ). MayHold h bodies body file) same.0 leads.holds)

pub may_lead : (version : Version) (bodies : List (List ℕ)) (body file : List ℕ) → MayHold (header_of version) bodies body file → MayLead (generation_of version) bodies body file
may_lead version bodies body file holds = record { header = header_of version; is_header = is_header version; holds = holds }

-- there is no generation above 1
pub no_later : (generation : ℕ) (bodies : List (List ℕ)) (body file : List ℕ) → 1 < generation → MayLead generation bodies body file → ⊥
no_later generation bodies body file high leads = by_header leads.is_header
  where
    by_header : IsHeader leads.header generation → ⊥
    by_header (version_1 is zero_is) = omega (arith, high, zero_is)
    by_header (version_2 is one_is) = omega (arith, high, one_is)

-- what is below generation 0 isn't in use
pub below_none : (file : List ℕ) → IsBelow 0 file → IsInUse file → ⊥
below_none file (inl not_used) used = not_used used
below_none file (inr less) used = omega (arith, less.1)

-- a slot in use that is below a generation is stale beside it
pub used_stale : (generation : ℕ) (file : List ℕ) → IsInUse file → IsBelow generation file → IsStale generation file
used_stale generation file used (inl not_used) = absurd (not_used used)
used_stale generation file used (inr less) = older 1 less.0 (used.second ∷ used.rest) less.1 (subst (IsShown less.0) used.is less.2) used.is

-- a file of version 1 is stale beside one of version 2
pub old_stale : (file : List ℕ) → HasFront old_header file → IsStale 1 file
old_stale file front = used_stale 1 file (front_used old_header file front) (inr (0, omega arith, shown Old file front))

-- a slot that was surveyed is in use where it has a version
pub surveyed_unused : (found : Option Version) (file : List ℕ) → found ≡ None → MatchOption found (IsInUse file → ⊥) (λ v. HasFront (header_of v) file) → IsInUse file → ⊥
surveyed_unused None file is how = how
surveyed_unused (Some v) file is how = absurd (cc is)

pub surveyed_used : (found : Option Version) (version : Version) (file : List ℕ) → found ≡ Some version → MatchOption found (IsInUse file → ⊥) (λ v. HasFront (header_of v) file) → HasFront (header_of version) file
surveyed_used None version file some how = absurd (cc some)
surveyed_used (Some v) version file some how = let same : v ≡ version = cc some in subst (λ (x : Version). HasFront (header_of x) file) same how

-- as it is found to have none or some
pub found_none : (found : Option Version) → is_some found ≡ false → found ≡ None
found_none None not = refl
found_none (Some v) not = absurd (cc not)

pub found_some : (found : Option Version) (file : List ℕ) → is_some found ≡ true → MatchOption found (IsInUse file → ⊥) (λ v. HasFront (header_of v) file) → IsInUse file
found_some None file some how = absurd (cc some)
found_some (Some v) file some how = front_used (header_of v) file how

-- it is below the generation of one that leads it
pub surveyed_below : (found : Option Version) (version : Version) (file : List ℕ) → MatchOption found ⊤ (λ v. generation_of v < generation_of version) → MatchOption found (IsInUse file → ⊥) (λ v. HasFront (header_of v) file) → IsBelow (generation_of version) file
surveyed_below None version file less how = inl how
surveyed_below (Some v) version file less how = inr (generation_of v, less, shown v file how)

-- it is none without a header
pub surveyed_known : (found : Option Version) (file : List ℕ) → MatchOption found (IsInUse file → ⊥) (λ v. HasFront (header_of v) file) → IsForeign file → ⊥
surveyed_known None file how foreign = how foreign.used
surveyed_known (Some v) file how foreign = foreign.none (generation_of v) (shown v file how)

-- ---- the order of two slots

-- it doesn't matter in which order two slots are
pub turned_reads : (P : List ℕ → List ℕ → Type 0) (a b : List ℕ) → Reads P a b → Reads P b a
turned_reads P a b (first generation header is_header here below) = second generation header is_header here below
turned_reads P a b (second generation header is_header here below) = first generation header is_header here below

pub turned_found : (bodies : List (List ℕ)) (a b : List ℕ) → FoundBoth bodies a b → FoundBoth bodies b a
turned_found bodies a b (read reads) = read (turned_reads _ a b reads)
turned_found bodies a b (none empty one other) = none empty other one

turned_lawful : (IsLawful : List ℕ → List (List ℕ) → List ℕ → Type 0) (bodies : List (List ℕ)) (a b : List ℕ) → FoundLawful IsLawful bodies a b → FoundLawful IsLawful bodies b a
turned_lawful IsLawful bodies a b (read reads) = read (turned_reads _ a b reads)
turned_lawful IsLawful bodies a b (none empty one other) = none empty other one

pub turned_foreign : (a b : List ℕ) → AreForeign a b → AreForeign b a
turned_foreign a b (inl one) = inr (inl one)
turned_foreign a b (inr (inl other)) = inl other
turned_foreign a b (inr (inr both)) = inr (inr (both.0, both.2, both.1))

-- ---- which file is read

-- P is so only of a file with that header
module _ (P : List ℕ → List ℕ → Type 0) (front : (header file : List ℕ) → P header file → HasFront header file) (version : Version) (a b : List ℕ) (here : HasFront (header_of version) a) (below : IsBelow (generation_of version) b) where
  -- the slot that leads is the one that is read
  pub reads_lead : Reads P a b → P (header_of version) a
  reads_lead (first generation header is p under) =
      subst (λ (h : List ℕ). P h a) (one_header header (header_of version) generation (generation_of version) a is (is_header version) (front header a p) here).0 p
  reads_lead (second generation header is p under) =
      let up = not_below (generation_of version) generation a (shown version a here) under in
      let down = not_below generation (generation_of version) b (record { header = header; is_header = is; front = front header b p }) below in
      absurd (omega (arith, up, down))

-- none is, where none is in use
pub reads_none : (P : List ℕ → List ℕ → Type 0) → ((header file : List ℕ) → P header file → HasFront header file) → (a b : List ℕ) → (IsInUse a → ⊥) → (IsInUse b → ⊥) → Reads P a b → ⊥
reads_none P front a b one other (first generation header is p under) = one (front_used header a (front header a p))
reads_none P front a b one other (second generation header is p under) = other (front_used header b (front header b p))

pub bad_front : (IsLawful : List (List ℕ) → List ℕ → Type 0) (number : ℕ) (header file : List ℕ) → IsBadRecord header IsLawful number file → HasFront header file
bad_front IsLawful number header file bad = opened_front header bad.bodies 1 bad.breaks.rest file bad.breaks.is

-- two slots that were surveyed are foreign only if they have one generation
pub surveyed_same : (version : Version) (one other : Option Version) (a b : List ℕ) → one ≡ Some version → MatchOption other ⊤ (λ v. generation_of v < generation_of version)
    → MatchOption one (IsInUse a → ⊥) (λ v. HasFront (header_of v) a) → MatchOption other (IsInUse b → ⊥) (λ v. HasFront (header_of v) b) → AreForeign a b → ⊥
surveyed_same version one other a b is less how how_too (inl foreign) = surveyed_known one a how foreign
surveyed_same version one other a b is less how how_too (inr (inl foreign)) = surveyed_known other b how_too foreign
surveyed_same version one other a b is less how how_too (inr (inr both)) =
    let here = surveyed_used one version a is how in
    let same = one_header both.1.header (header_of version) both.0 (generation_of version) a both.1.is_header (is_header version) both.1.front here in
    let down = not_below both.0 (generation_of version) b both.2 (surveyed_below other version b less how_too) in
    omega (arith, down, same.1)

-- two slots of which neither is in use are no reason to refuse them
pub neither_refused : (IsLawful : List ℕ → List (List ℕ) → List ℕ → Type 0) (a b : List ℕ) → (IsInUse a → ⊥) → (IsInUse b → ⊥) → AreRefused IsLawful a b → ⊥
neither_refused IsLawful a b one other (inl (inl foreign)) = one foreign.used
neither_refused IsLawful a b one other (inl (inr (inl foreign))) = other foreign.used
neither_refused IsLawful a b one other (inl (inr (inr both))) = one (shown_used both.0 a both.1)
neither_refused IsLawful a b one other (inr bad) = reads_none (λ header file. IsBadRecord header (IsLawful header) bad.0 file) (λ header. bad_front (IsLawful header) bad.0 header) a b one other bad.1

-- a file with the old header is of the old version
pub old_version : (version : Version) (file : List ℕ) → HasFront (header_of version) file → HasFront old_header file → version ≡ Old
old_version Old file here front = refl
old_version Current file here front = absurd (not_both file front here)

-- what was opened with the second slot leading
module _ (Has : List (List ℕ) → Type 0) (IsLawful : List ℕ → List (List ℕ) → List ℕ → Type 0) (gate count : ℕ) (one other : List ℕ) where
  opened_so : (seen : List ℕ) (images beside : List ℕ → Type 0) → HasOpened Has IsLawful gate count one other seen images beside → HasOpened Has IsLawful gate count other one seen images beside
  opened_so seen images beside opened = record {
    bodies = opened.bodies;
    has = opened.has;
    found = turned_lawful IsLawful opened.bodies one other opened.found;
    made = opened.made;
  }

  -- the same two files
  pub opened_on : (a b : List ℕ) → one ≡ a → other ≡ b → (seen : List ℕ) (images beside : List ℕ → Type 0) → HasOpened Has IsLawful gate count one other seen images beside → HasOpened Has IsLawful gate count a b seen images beside
  opened_on a b same same_too seen images beside opened = subst (λ (l : List ℕ). HasOpened Has IsLawful gate count a l seen images beside) same_too (subst (λ (l : List ℕ). HasOpened Has IsLawful gate count l other seen images beside) same opened)

  pub opened_turned : (version : Version) (seen seen_beside : List ℕ) (images beside : List ℕ → Type 0)
      → HasOpened Has IsLawful gate count one other (cond (is_moved version) seen_beside seen) (cond (is_moved version) beside images) (cond (is_moved version) images beside)
      → HasOpened Has IsLawful gate count other one (cond (not (is_moved version)) seen seen_beside) (cond (not (is_moved version)) images beside) (cond (not (is_moved version)) beside images)
  opened_turned Old seen seen_beside images beside opened = opened_so seen_beside beside images opened
  opened_turned Current seen seen_beside images beside opened = opened_so seen images beside opened

-- the counts of two disks in the other order
pub either_turned : {T : Type 0} (result : Result T OpenFault) (one other new_one new_other : ℕ) → TellsEither result one other new_one new_other → TellsEither result other one new_other new_one
either_turned result one other new_one new_other (inl told) = inr told
either_turned result one other new_one new_other (inr told) = inl told

-- ---- what stops leave

module _ (version : Version) (bodies : List (List ℕ)) (body lead beside : List ℕ) (here : HasFront (header_of version) lead) (below : IsBelow (generation_of version) beside) where
  -- the slot that leads follows in an order only where the other one is older
  follow_is : (generation : ℕ) → MayLead generation bodies body beside → MayFollow generation bodies body lead
      → MayHold (header_of version) bodies body lead × ((file : List ℕ) → MayHold (header_of version) bodies body file → MayFollow generation bodies body file)
  follow_is generation leads (inl under) =
      let up = not_below (generation_of version) generation lead (shown version lead here) under in
      let down = not_below generation (generation_of version) beside (record { header = leads.header; is_header = leads.is_header; front = lead_front generation bodies body beside leads }) below in
      absurd (omega (arith, up, down))
  follow_is generation leads (inr next) =
      let is = lead_is version (generation + 1) bodies body lead here next in
      (is.1, λ file holds. inr (subst (λ (n : ℕ). MayLead n bodies body file) (sym is.0) (may_lead version bodies body file holds)))

  -- what is left beside one that leads follows
  beside_follows : MayFollow (generation_of version) bodies body beside → (file : List ℕ) → IsBeside version (MayLead 1 bodies body) beside file → MayFollow (generation_of version) bodies body file
  beside_follows follows file (kept same) = subst (MayFollow (generation_of version) bodies body) (sym same) follows
  beside_follows follows file (unused not_used still) = inl (inl still)
  beside_follows follows file (brought not_used old leads) = inr (subst (λ (v : Version). MayLead (generation_of v + 1) bodies body file) (sym old) leads)

  -- and an older one stays
  beside_leads : (generation : ℕ) → MayLead generation bodies body beside → (file : List ℕ) → IsBeside version (MayLead 1 bodies body) beside file → MayLead generation bodies body file
  beside_leads generation leads file (kept same) = subst (MayLead generation bodies body) (sym same) leads
  beside_leads generation leads file (unused not_used still) = absurd (not_used (lead_used generation bodies body beside leads))
  beside_leads generation leads file (brought not_used old moved) = absurd (not_used (lead_used generation bodies body beside leads))

  -- the first slot leads
  pub first_leads : (order : Order) → LeftOfFirst order bodies body lead → LeftOfSecond order bodies body beside
      → MayHold (header_of version) bodies body lead × (((file : List ℕ) → MayHold (header_of version) bodies body file → LeftOfFirst order bodies body file)
      × ((file : List ℕ) → IsBeside version (MayLead 1 bodies body) beside file → LeftOfSecond order bodies body file))
  first_leads (first generation) one other =
      let is = lead_is version generation bodies body lead here one in (
        is.1,
        (
          λ file holds. subst (λ (n : ℕ). MayLead n bodies body file) (sym is.0) (may_lead version bodies body file holds),
          λ file left. subst (λ (n : ℕ). MayFollow n bodies body file) (sym is.0) (beside_follows (subst (λ (n : ℕ). MayFollow n bodies body beside) is.0 other) file left),
        ),
      )
  first_leads (second generation) one other = let is = follow_is generation other one in (is.0, (is.1, beside_leads generation other))
  first_leads neither one other = absurd (one.1 (front_used (header_of version) lead here))

  -- the second one does
  pub second_leads : (order : Order) → LeftOfFirst order bodies body beside → LeftOfSecond order bodies body lead
      → MayHold (header_of version) bodies body lead × (((file : List ℕ) → MayHold (header_of version) bodies body file → LeftOfSecond order bodies body file)
      × ((file : List ℕ) → IsBeside version (MayLead 1 bodies body) beside file → LeftOfFirst order bodies body file))
  second_leads (first generation) one other = let is = follow_is generation one other in (is.0, (is.1, beside_leads generation one))
  second_leads (second generation) one other =
      let is = lead_is version generation bodies body lead here other in (
        is.1,
        (
          λ file holds. subst (λ (n : ℕ). MayLead n bodies body file) (sym is.0) (may_lead version bodies body file holds),
          λ file left. subst (λ (n : ℕ). MayFollow n bodies body file) (sym is.0) (beside_follows (subst (λ (n : ℕ). MayFollow n bodies body beside) is.0 one) file left),
        ),
      )
  second_leads neither one (inl under) = absurd (below_none lead under (front_used (header_of version) lead here))
  second_leads neither one (inr next) =
      let is = lead_is version 1 bodies body lead here next in (
        is.1,
        (
          λ file holds. inr (subst (λ (n : ℕ). MayLead n bodies body file) (sym is.0) (may_lead version bodies body file holds)),
          λ file left. (one.0, beside_unused one.1 file left),
        ),
      )
    where
      beside_unused : (IsInUse beside → ⊥) → (file : List ℕ) → IsBeside version (MayLead 1 bodies body) beside file → IsInUse file → ⊥
      beside_unused not_used file (kept same) used = not_used (subst IsInUse same used)
      beside_unused not_used file (unused _ still) used = still used
      beside_unused not_used file (brought _ old moved) used =
          let is = lead_is version 1 bodies body lead here next in
          omega (arith, is.0, ap generation_of old)

-- neither does: there are no bodies
pub neither_leads : (bodies : List (List ℕ)) (body a b : List ℕ) (order : Order) → (IsInUse a → ⊥) → (IsInUse b → ⊥) → LeftOfFirst order bodies body a → LeftOfSecond order bodies body b
    → ((file : List ℕ) → (IsInUse file → ⊥) → LeftOfFirst order bodies body file) × ((file : List ℕ) → MayFollow 0 [] body file → LeftOfSecond order bodies body file)
neither_leads bodies body a b (first generation) one_unused other_unused one other = absurd (one_unused (lead_used generation bodies body a one))
neither_leads bodies body a b (second generation) one_unused other_unused one other = absurd (other_unused (lead_used generation bodies body b other))
neither_leads bodies body a b neither one_unused other_unused one other = (
  λ file still. (one.0, still),
  λ file follows. subst (λ (l : List (List ℕ)). MayFollow 0 l body file) (sym one.0) follows,
)

-- ---- while the records of one end

pub replaced_beside : (bodies : List (List ℕ)) (old : List ℕ) → (IsInUse old → ⊥) → (file : List ℕ) → IsReplacing (opened new_header bodies ++ 0 ∷ []) file → IsBeside Old (λ f. f ≡ opened new_header bodies ++ 0 ∷ []) old file
replaced_beside bodies old not_used file (inl still) = unused not_used still
replaced_beside bodies old not_used file (inr is) = brought not_used refl is

pub current_beside : (bodies : List (List ℕ)) (old file : List ℕ) → IsBeside Current (λ f. ⊥) old file → IsBeside Current (λ f. f ≡ opened new_header bodies ++ 0 ∷ []) old file
current_beside bodies old file (kept same) = kept same
current_beside bodies old file (unused not_used still) = unused not_used still
current_beside bodies old file (brought not_used is never) = absurd never

-- what is brought over has the bodies, or those and the one that was put
pub brought_leads : (version : Version) (had bodies : List (List ℕ)) (body old file : List ℕ) → (bodies ≡ had) ⊎ (bodies ≡ had ++ body ∷ []) → IsBeside version (λ f. f ≡ opened new_header bodies ++ 0 ∷ []) old file → IsBeside version (MayLead 1 had body) old file
brought_leads version had bodies body old file taken (kept same) = kept same
brought_leads version had bodies body old file taken (unused not_used still) = unused not_used still
brought_leads version had bodies body old file taken (brought not_used is moved) = brought not_used is (leads had bodies body file taken moved)

module _ {D : Type 0} (seen : D → List ℕ) (may_leave : D → List ℕ → Type 0) (moment : D → ℕ) (left_since : D → ℕ → List ℕ → Type 0) where
  -- after reads of the slot that leads
  pub ready_on : (version : Version) (size : ℕ) (found : Found) (old mid beside : D) → IsOnlyRead seen may_leave moment left_since old mid → IsReady seen may_leave version size found old beside → IsReady seen may_leave version size found mid beside
  ready_on version size found old mid beside reads ready = record {
    size_is = ready.size_is ∙ sym (ap length reads.same);
    front = subst (HasFront (header_of version)) (sym reads.same) ready.front;
    only = λ c left. ready.only c (reads.crash c left) ∙ sym reads.same;
    surveyed = ready.surveyed;
    only_beside = ready.only_beside;
    below = ready.below;
  }

  -- the slots as they were surveyed, the first one leading or the second
  pub first_ready : (version : Version) (one other : Found) (a b : D) → one.version ≡ Some version → MatchOption other.version ⊤ (λ v. generation_of v < generation_of version) → AreSurveyed seen may_leave one other a b → IsReady seen may_leave version one.size other a b
  first_ready version one other a b is less surveyed = record {
    size_is = surveyed.one_is.size_is;
    front = surveyed_used one.version version (seen a) is surveyed.one_is.use_is;
    only = surveyed.one_only;
    surveyed = surveyed.other_is;
    only_beside = surveyed.other_only;
    below = surveyed_below other.version version (seen b) less surveyed.other_is.use_is;
  }

  pub second_ready : (version : Version) (one other : Found) (a b : D) → other.version ≡ Some version → MatchOption one.version ⊤ (λ v. generation_of v < generation_of version) → AreSurveyed seen may_leave one other a b → IsReady seen may_leave version other.size one b a
  second_ready version one other a b is less surveyed = record {
    size_is = surveyed.other_is.size_is;
    front = surveyed_used other.version version (seen b) is surveyed.other_is.use_is;
    only = surveyed.other_only;
    surveyed = surveyed.one_is;
    only_beside = surveyed.one_only;
    below = surveyed_below one.version version (seen a) less surveyed.one_is.use_is;
  }

  -- as they were surveyed, once both are synced
  pub surveyed_now : (one other : Found) (a b a_mid b_mid : D) → IsOnlyRead seen may_leave moment left_since a a_mid → IsOnlyRead seen may_leave moment left_since b b_mid → IsSurveyed one.size one.version (seen a) → IsSurveyed other.size other.version (seen b)
      → Only (seen a_mid) (may_leave a_mid) → Only (seen b_mid) (may_leave b_mid) → AreSurveyed seen may_leave one other a_mid b_mid
  surveyed_now one other a b a_mid b_mid reads reads_too is is_too only only_too = record {
    one_is = subst (IsSurveyed one.size one.version) (sym reads.same) is;
    other_is = subst (IsSurveyed other.size other.version) (sym reads_too.same) is_too;
    one_only = only;
    other_only = only_too;
  }

-- what is so of two files is so of the same two
pub on_both : (P : List ℕ → List ℕ → Type 0) (a b c d : List ℕ) → a ≡ c → b ≡ d → P a b → P c d
on_both P a b c d same same_too p = subst (λ (l : List ℕ). P c l) same_too (subst (λ (l : List ℕ). P l b) same p)

-- two slots of one version are foreign
pub same_foreign : (one other : Option Version) (a b : List ℕ) → one ≡ other → one ≢ None → MatchOption one (IsInUse a → ⊥) (λ v. HasFront (header_of v) a) → MatchOption other (IsInUse b → ⊥) (λ v. HasFront (header_of v) b) → AreForeign a b
same_foreign None other a b same some how how_too = absurd (some refl)
same_foreign (Some v) other a b same some how how_too = inr (inr (generation_of v, shown v a how, shown v b (surveyed_used other v b (sym same) how_too)))

-- while a body is put, the slot that is read leads, and the other one follows
pub put_moves : {D : Type 0} (moment : D → ℕ) (left_since : D → ℕ → List ℕ → Type 0) (bodies : List (List ℕ)) (body : List ℕ) (turned : Bool) (lead other new : D) → LeavesOnly moment left_since lead new (MayHold new_header bodies body) → ((c : List ℕ) → left_since other (moment other) c → IsBelow 1 c)
    → BothLeave moment left_since (order_of turned) bodies body (cond turned other lead) (cond turned lead other) (cond turned other new) (cond turned new other)
put_moves moment left_since bodies body false lead other new leaves below = record {
  one = weaker moment left_since lead new (MayHold new_header bodies body) (MayLead 1 bodies body) (λ c holds. may_lead Current bodies body c holds) leaves;
  other = started moment left_since other (MayFollow 1 bodies body) (λ c left. inl (below c left));
}
put_moves moment left_since bodies body true lead other new leaves below = record {
  one = started moment left_since other (MayFollow 1 bodies body) (λ c left. inl (below c left));
  other = weaker moment left_since lead new (MayHold new_header bodies body) (MayLead 1 bodies body) (λ c holds. may_lead Current bodies body c holds) leaves;
}

module _ {D : Type 0} (may_leave : D → List ℕ → Type 0) (slots : Slots D) (bodies : List (List ℕ)) where
  -- two slots that are open give their bodies
  pub paired_reads : ArePaired may_leave slots bodies → (a b : List ℕ) → may_leave (first_of slots) a → may_leave (second_of slots) b → ReadsShut bodies a b
  paired_reads paired = by_turn slots.turned
    where
      by_turn : (turned : Bool) → (a b : List ℕ) → may_leave (cond turned slots.other slots.records.disk) a → may_leave (cond turned slots.records.disk slots.other) b → ReadsShut bodies a b
      by_turn false a b here there = first 1 new_header (version_2 refl refl) (paired.settled.shut a here) (stale_below 1 b (paired.stale b there))
      by_turn true a b here there = second 1 new_header (version_2 refl refl) (paired.settled.shut b there) (stale_below 1 a (paired.stale a here))

-- two slots that were opened have their bodies
pub opened_paired : {D : Type 0} (seen : D → List ℕ) (may_leave : D → List ℕ → Type 0) (slots : Slots D) (at : Opened) (one other : D) (bodies : List (List ℕ)) → first_of slots ≡ one → second_of slots ≡ other → slots.turned ≡ at.turned → slots.records.position ≡ at.position → slots.records.broken ≡ false
    → IsMade bodies at.position.gate at.position.count (cond at.turned (seen other) (seen one)) (cond at.turned (may_leave other) (may_leave one)) (cond at.turned (may_leave one) (may_leave other)) → ArePaired may_leave slots bodies
opened_paired {D} seen may_leave slots at one other bodies one_is other_is turned position whole made = by_turn slots.turned one_is other_is (subst (λ (t : Bool). IsMade bodies at.position.gate at.position.count (cond t (seen other) (seen one)) (cond t (may_leave other) (may_leave one)) (cond t (may_leave one) (may_leave other))) (sym turned) made)
  where
    by_turn : (t : Bool) → cond t slots.other slots.records.disk ≡ one → cond t slots.records.disk slots.other ≡ other → IsMade bodies at.position.gate at.position.count (cond t (seen other) (seen one)) (cond t (may_leave other) (may_leave one)) (cond t (may_leave one) (may_leave other)) → ArePaired may_leave slots bodies
    by_turn false read_is beside_is made = record {
      settled = record {
        whole = whole;
        gate = ap (λ (p : Position). p.gate) position ∙ made.gate_is;
        count = ap (λ (p : Position). p.count) position ∙ made.count_is;
        shut = λ c left. record { rest = []; is = made.exactly.only c (subst (λ (d : D). may_leave d c) read_is left) };
      };
      stale = λ c left. made.stale c (subst (λ (d : D). may_leave d c) beside_is left);
    }
    by_turn true beside_is read_is made = record {
      settled = record {
        whole = whole;
        gate = ap (λ (p : Position). p.gate) position ∙ made.gate_is;
        count = ap (λ (p : Position). p.count) position ∙ made.count_is;
        shut = λ c left. record { rest = []; is = made.exactly.only c (subst (λ (d : D). may_leave d c) read_is left) };
      };
      stale = λ c left. made.stale c (subst (λ (d : D). may_leave d c) beside_is left);
    }
