-- A log in two parts, where no undo of the second names an entry of the first: what the second part is over what the first leaves.
use Rattle.std.proofs.Common.{◌≡◌, inl, inr, ℕ, zero, suc, ◌+◌, ◌-◌, ◌<◌, ◌≤◌, ◌==◌, nat_le, nat_lt, Bool, true, false, not, cond, ◌||◌, List, [], ◌∷◌, ◌++◌, length, slice_get, Option, Some, None, is_none, option_map, refl, sym, ap, subst, ◌∙◌, arith, IsTrue}
use Rattle.std.proofs.Math.Bool.{or-false}
use Rattle.std.proofs.lemmas.Bool.{eqb-true, leb-false, lt-leb, le-leb}
use Rattle.std.proofs.lemmas.List.{append-nil, append_assoc, length-append}
use Rattle.byte_view.specs.Contents.{Contents}
use Rattle.host_names.specs.declared.cells.Cell.{Cell}
use Rattle.host_names.specs.declared.names.SiteName.{SiteName}
use Rattle.site_state.specs.States.{State}
use Rattle.site_change.specs.declared.commands.Command.{Command}
use Rattle.site_change.specs.declared.refusals.ChangeRefusal.{ChangeRefusal}
use Rattle.site_change.specs.declared.refusals.ChangeRefusal.TheVariants.{AlreadyUndone, Clash, NoSuchChange}
use Rattle.site_change.specs.Changes.{refusal, applied, run_from, site_of_command}
use Rattle.site_change.proofs.LeftOut.{accepted}
use Rattle.site_change.specs.declared.entries.Entry.{Entry}
use Rattle.site_change.specs.declared.entries.Entry.TheVariants.{Change, Undo}
use Rattle.change_log.specs.Bases.{Names, resolved}
use Rattle.change_log.specs.Logs.{Log, entry_at, last_number, next_number, with_entries, with_entry, with_only}
use Rattle.change_undo.specs.Clashes.{changed_cells, clash, first_touch, clash_in}
use Rattle.change_undo.specs.Histories.{IsLegalAfter, change_refusal, is_accepted_in, is_allowed, refusal_at, same_site}
use Rattle.change_undo.specs.LiveChanges.{undone, is_among, live_from, base_state, live_changes, run}
use Rattle.change_undo.proofs.Live.{live_from-append, undone-append}
use Rattle.change_undo.proofs.Runs.{is_none-none, named-within, run_from-append}
use Rattle.sealed_logs.specs.Sealing.{split_in}
use Rattle.sealed_logs.proofs.Runs.{NamesWithin, among-append}
use Rattle.sealed_logs.proofs.States.{AllBelow}

-- ---- entries that undo nothing up to a number

abbrev pub IsAbove : ℕ → Entry → Type 0
IsAbove n (Change command) = Unit {0}
IsAbove n (Undo site k) = n < k

abbrev pub AreAbove : ℕ → List Entry → Type 0
AreAbove n [] = Unit {0}
AreAbove n (entry ∷ entries) = IsAbove n entry × AreAbove n entries

pub above-split : (n at : ℕ) (entries : List Entry) → split_in n at entries ≡ None → AreAbove n entries
above-split n at [] none = tt
above-split n at (Change command ∷ entries) none = (tt, above-split n (at + 1) entries none)
above-split n at (Undo site k ∷ entries) none =
    elim (nat_le k n) as (λ t. nat_le k n ≡ t → cond t (Some at) (split_in n (at + 1) entries) ≡ None → (n < k) × AreAbove n entries) [
      | true ↦ λ e h. cc h
      | false ↦ λ e h. (leb-false k n e, above-split n (at + 1) entries h)
    ] refl none

pub split-above : (n at : ℕ) (entries : List Entry) → AreAbove n entries → split_in n at entries ≡ None
split-above n at [] above = refl
split-above n at (Change command ∷ entries) above = split-above n (at + 1) entries above.1
split-above n at (Undo site k ∷ entries) above =
    ap (λ t. cond t (Some at) (split_in n (at + 1) entries)) (lt-leb k n above.0) ∙ split-above n (at + 1) entries above.1

pub above-append : (n : ℕ) (xs ys : List Entry) → AreAbove n xs → AreAbove n ys → AreAbove n (xs ++ ys)
above-append n [] ys a b = b
above-append n (x ∷ xs) ys a b = (a.0, above-append n xs ys a.1 b)

pub above-parts : (n : ℕ) (xs ys : List Entry) → AreAbove n (xs ++ ys) → AreAbove n xs × AreAbove n ys
above-parts n [] ys a = (tt, a)
above-parts n (x ∷ xs) ys a = let rest = above-parts n xs ys a.1 in ((a.0, rest.0), rest.1)

pub other_number : (k i : ℕ) → i < k → (k == i) ≡ false
other_number k i less =
    elim (k == i) as (λ t. (k == i) ≡ t → t ≡ false) [ true ↦ λ e. absurd (omega (arith, eqb-true k i e, less)) | false ↦ λ e. refl ] refl

pub above-none : (n : ℕ) (entries : List Entry) → AreAbove n entries → (i : ℕ) → i ≤ n → is_among (undone entries) i ≡ false
above-none n [] above i le = refl
above-none n (Change command ∷ entries) above i le = above-none n entries above.1 i le
above-none n (Undo site k ∷ entries) above i le =
    ap (λ t. t || is_among (undone entries) i) (other_number k i (omega (arith, above.0, le))) ∙ above-none n entries above.1 i le

-- ---- lists

same_live : (gone other : List ℕ) (n : ℕ) (entries : List Entry) → ((i : ℕ) → n ≤ i → i < n + length entries → is_among gone i ≡ is_among other i)
    → live_from gone n entries ≡ live_from other n entries
same_live gone other n [] same = refl
same_live gone other n (Change command ∷ entries) same =
    let rest = same_live gone other (n + 1) entries (λ i low high. same i (omega (arith, low)) (omega (arith, high))) in
    ap (λ t. cond t (live_from gone (n + 1) entries) ((n, command) ∷ live_from gone (n + 1) entries)) (same n (omega arith) (omega arith))
    ∙ ap (λ l. cond (is_among other n) l ((n, command) ∷ l)) rest
same_live gone other n (Undo site k ∷ entries) same =
    same_live gone other (n + 1) entries (λ i low high. same i (omega (arith, low)) (omega (arith, high)))

pub live-below : (gone : List ℕ) (n k : ℕ) (entries : List Entry) → n + length entries ≤ k → AllBelow k (live_from gone n entries)
live-below gone n k [] le = tt
live-below gone n k (Change command ∷ entries) le =
    let rest = live-below gone (n + 1) k entries (omega (arith, le)) in
    elim (is_among gone n) as (λ t. AllBelow k (cond t (live_from gone (n + 1) entries) ((n, command) ∷ live_from gone (n + 1) entries))) [
      | true ↦ rest
      | false ↦ (omega (arith, le), rest)
    ]
live-below gone n k (Undo site j ∷ entries) le = live-below gone (n + 1) k entries (omega (arith, le))

clash-later : (uploads : Contents) (k : ℕ) (state mid : State) (xs ys : List (ℕ × Command)) → AllBelow k xs → run_from uploads state xs ≡ Some mid
    → clash_in uploads k state (xs ++ ys) ≡ clash_in uploads k mid ys
clash-later uploads k state mid [] ys below ran =
    let same : state ≡ mid = cc ran in
    ap (λ s. clash_in uploads k s ys) same
clash-later uploads k state mid (c ∷ xs) ys below ran =
    let parts = accepted (refusal c.1 c.0 state uploads) _ mid ran in
    let next = applied c.1 c.0 state uploads in
    ap (λ t. cond t (first_touch uploads (changed_cells c.1 c.0 state uploads) next (xs ++ ys)) (clash_in uploads k next (xs ++ ys))) (other_number k c.0 below.0)
    ∙ clash-later uploads k next mid xs ys below.1 parts.1

slice_get-later : (xs ys : List Entry) (i : ℕ) → slice_get (xs ++ ys) (length xs + i) ≡ slice_get ys i
slice_get-later [] ys i =
    let same : 0 + i ≡ i = omega arith in
    ap (slice_get ys) same
slice_get-later (x ∷ xs) ys i =
    let same : length (x ∷ xs) + i ≡ suc (length xs + i) = omega arith in
    ap (slice_get (x ∷ (xs ++ ys))) same ∙ slice_get-later xs ys i

-- ---- the two parts

-- The first part leaves what these names stand for, which is a base for the second.
pub record Parts (uploads : Contents) (log : Log) (xs : List Entry) (mid : ℕ) (names : Names) : Type 0 where
  pub at : mid ≡ log.base + length xs
  pub known : NamesWithin (with_only log xs)
  pub ran : run uploads (with_only log xs) ≡ Some (resolved uploads names)

-- the second part alone
abbrev pub rest_of : ℕ → Names → List Entry → Log
rest_of mid names ys = record { base = mid; names = names; entries = ys }

module _ (uploads : Contents) (log : Log) (xs : List Entry) (mid : ℕ) (names : Names) (parts : Parts uploads log xs mid names) where
  -- whether an undo of the whole log names a number
  low_names : (ys : List Entry) → AreAbove mid ys → (i : ℕ) → i ≤ mid → is_among (undone xs ++ undone ys) i ≡ is_among (undone xs) i
  low_names ys above i le =
      among-append (undone xs) (undone ys) i ∙ ap (λ t. is_among (undone xs) i || t) (above-none mid ys above i le) ∙ or-false (is_among (undone xs) i)

  high_names : (ys : List Entry) (i : ℕ) → mid < i → is_among (undone xs ++ undone ys) i ≡ is_among (undone ys) i
  high_names ys i more =
      among-append (undone xs) (undone ys) i
      ∙ ap (λ t. t || is_among (undone ys) i) (elim (is_among (undone xs) i) as (λ t. is_among (undone xs) i ≡ t → t ≡ false) [
        | true ↦ λ e. absurd (omega (arith, parts.known i e, parts.at, more))
        | false ↦ λ e. refl
      ] refl)

  pub live-split : (ys : List Entry) → AreAbove mid ys → live_changes (with_only log (xs ++ ys)) ≡ live_changes (with_only log xs) ++ live_changes (rest_of mid names ys)
  live-split ys above =
      let gone = undone xs ++ undone ys in
      let b : ℕ = log.base + 1 in
      let place : b + length xs ≡ mid + 1 = omega (arith, parts.at) in
      ap (λ l. live_from l b (xs ++ ys)) (undone-append xs ys)
      ∙ live_from-append gone b xs ys
      ∙ ap (λ l. l ++ live_from gone (b + length xs) ys) (same_live gone (undone xs) b xs (λ i low high. low_names ys above i (omega (arith, high, parts.at))))
      ∙ ap (λ (m : ℕ). live_changes (with_only log xs) ++ live_from gone m ys) place
      ∙ ap (λ l. live_changes (with_only log xs) ++ l) (same_live gone (undone ys) (mid + 1) ys (λ i low high. high_names ys i (omega (arith, low))))

  -- it gives the same state
  pub run-split : (ys : List Entry) → AreAbove mid ys → run uploads (with_only log (xs ++ ys)) ≡ run uploads (rest_of mid names ys)
  run-split ys above =
      ap (run_from uploads (base_state uploads log)) (live-split ys above)
      ∙ run_from-append uploads (base_state uploads log) (resolved uploads names) (live_changes (with_only log xs)) (live_changes (rest_of mid names ys)) parts.ran

  -- its last number is the same
  pub last-split : (ys : List Entry) → last_number (with_only log (xs ++ ys)) ≡ last_number (rest_of mid names ys)
  last-split ys = omega (arith, parts.at, length-append xs ys)

  pub entry-split : (ys : List Entry) (k : ℕ) → mid < k → entry_at (with_only log (xs ++ ys)) k ≡ entry_at (rest_of mid names ys) k
  entry-split ys k more =
      let place : k - log.base - 1 ≡ length xs + (k - mid - 1) = omega (arith, parts.at, more) in
      ap (λ t. cond t None (slice_get (xs ++ ys) (k - log.base - 1))) (lt-leb k log.base (omega (arith, parts.at, more)))
      ∙ ap (slice_get (xs ++ ys)) place
      ∙ slice_get-later xs ys (k - mid - 1)
      ∙ sym (ap (λ t. cond t None (slice_get ys (k - mid - 1))) (lt-leb k mid more))

  pub clash-split : (ys : List Entry) (k : ℕ) → AreAbove mid ys → mid < k → clash uploads (with_only log (xs ++ ys)) k ≡ clash uploads (rest_of mid names ys) k
  clash-split ys k above more =
      ap (clash_in uploads k (base_state uploads log)) (live-split ys above)
      ∙ clash-later uploads k (base_state uploads log) (resolved uploads names) (live_changes (with_only log xs)) (live_changes (rest_of mid names ys))
      (live-below (undone xs) (log.base + 1) k xs (omega (arith, parts.at, more))) parts.ran

  refusal-entry : (ys : List Entry) (site : SiteName) (k : ℕ) (entry : Option Entry) → AreAbove mid ys → mid < k
      → refusal_at uploads (with_only log (xs ++ ys)) site k entry ≡ refusal_at uploads (rest_of mid names ys) site k entry
  refusal-entry ys site k None above more = refl
  refusal-entry ys site k (Some (Undo other j)) above more = refl
  refusal-entry ys site k (Some (Change command)) above more =
      ap (λ t. cond (not (same_site (site_of_command command) site)) (Some NoSuchChange) (cond t (Some AlreadyUndone)
      (option_map (λ later. Clash later.0 later.1) (clash uploads (with_only log (xs ++ ys)) k)))) (ap (λ l. is_among l k) (undone-append xs ys) ∙ high_names ys k more)
      ∙ ap (λ c. cond (not (same_site (site_of_command command) site)) (Some NoSuchChange) (cond (is_among (undone ys) k) (Some AlreadyUndone)
      (option_map (λ later. Clash later.0 later.1) c))) (clash-split ys k above more)

  -- the undo of a change above the first part is refused for the same reason, with the same clash
  pub refusal-split : (ys : List Entry) (site : SiteName) (k : ℕ) → AreAbove mid ys → mid < k
      → change_refusal uploads (with_only log (xs ++ ys)) site k ≡ change_refusal uploads (rest_of mid names ys) site k
  refusal-split ys site k above more =
      ap (refusal_at uploads (with_only log (xs ++ ys)) site k) (entry-split ys k more) ∙ refusal-entry ys site k (entry_at (rest_of mid names ys) k) above more

  -- the same entries may follow
  pub allowed-split : (ys : List Entry) (entry : Entry) → AreAbove mid ys → IsAbove mid entry
      → is_allowed uploads (with_only log (xs ++ ys)) entry ≡ is_allowed uploads (rest_of mid names ys) entry
  allowed-split ys (Change command) above is =
      ap (λ s. is_accepted_in uploads s (next_number (with_only log (xs ++ ys))) command) (run-split ys above)
      ∙ ap (λ (m : ℕ). is_accepted_in uploads (run uploads (rest_of mid names ys)) (m + 1) command) (last-split ys)
  allowed-split ys (Undo site k) above is = ap is_none (refusal-split ys site k above is)

  -- what is allowed over the second part names nothing of the first
  pub allowed-above : (ys : List Entry) (entry : Entry) → IsTrue (is_allowed uploads (rest_of mid names ys) entry) → IsAbove mid entry
  allowed-above ys (Change command) ok = tt
  allowed-above ys (Undo site k) ok = (named-within uploads (rest_of mid names ys) site k (is_none-none _ ok)).0

  longer : (ys : List Entry) (entry : Entry) (zs : List Entry) → IsLegalAfter uploads (with_entry (with_only log (xs ++ ys)) entry) zs
      → IsLegalAfter uploads (with_only log (xs ++ (ys ++ entry ∷ []))) zs
  longer ys entry zs = subst (λ es. IsLegalAfter uploads (with_only log es) zs) (append_assoc xs ys (entry ∷ []))

  pub legal-split : (ys zs : List Entry) → AreAbove mid ys → AreAbove mid zs → IsLegalAfter uploads (with_only log (xs ++ ys)) zs
      → IsLegalAfter uploads (rest_of mid names ys) zs
  legal-split ys [] above more legal = tt
  legal-split ys (z ∷ zs) above more legal = (
    subst IsTrue (allowed-split ys z above more.0) legal.0,
    legal-split (ys ++ z ∷ []) zs (above-append mid ys (z ∷ []) above (more.0, tt)) more.1 (longer ys z zs legal.1),
  )

  pub legal-unsplit : (ys zs : List Entry) → AreAbove mid ys → IsLegalAfter uploads (rest_of mid names ys) zs
      → AreAbove mid zs × IsLegalAfter uploads (with_only log (xs ++ ys)) zs
  legal-unsplit ys [] above legal = (tt, tt)
  legal-unsplit ys (z ∷ zs) above legal =
      let is = allowed-above ys z legal.0 in
      let rest = legal-unsplit (ys ++ z ∷ []) zs (above-append mid ys (z ∷ []) above (is, tt)) legal.1 in (
        (is, rest.0),
        (
          subst IsTrue (sym (allowed-split ys z above is)) legal.0,
          subst (λ es. IsLegalAfter uploads (with_only log es) zs) (sym (append_assoc xs ys (z ∷ []))) rest.1,
        ),
      )
