-- The needs of all entries say which files are wanted.
use Rattle.std.proofs.Common.{◌≡◌, ◌⊎◌, ◌↔◌, ◌∙◌, ◌||◌, ◌==◌, ℕ, zero, suc, ◌+◌, ◌-◌, ◌<◌, ◌≤◌, List, [], ◌∷◌, Bool, true, false, IsTrue, IsSome, cond, Option, Some, None, Contains, inl, inr, ap, arith, filter_map, get_or, length, map, refl, slice_get, subst, sym}
use Rattle.std.specs.BTreeMap.{is_at}
use Rattle.std.specs.List.{list_any}
use Rattle.std.specs.List.Sorted.{IsStrictlySortedBy}
use Rattle.std.specs.Map.{keys_of, lookup}
use Rattle.std.specs.Ordering.{eq_by_cmp}
use Rattle.std.proofs.lemmas.Bool.{eqb-true, eqb-false}
use Rattle.std.proofs.lemmas.Cmp.{eq_by_cmp_equiv}
use Rattle.std.proofs.lemmas.List.Folds.{list_any_at}
use Rattle.std.proofs.lemmas.Map.Keys.{IsDistinct-from_sorted, any_passes_from_place}
use Rattle.std.proofs.lemmas.Map.Views.{Contains-from_any, Contains-from_lookup, Contains-keys_from_lookup, IsSome-lookup_from_Contains, lookup-from_Contains}
use Rattle.host_names.specs.Cells.{cell_cmp}
use Rattle.host_names.specs.Digests.{digest_cmp, digest_cmp_total}
use Rattle.host_names.specs.declared.cells.Cell.{Cell}
use Rattle.host_names.specs.declared.cells.Cell.TheVariants as cell
use Rattle.host_names.specs.declared.digests.Digest.{Digest}
use Rattle.host_names.specs.declared.names.SiteName.{SiteName}
use Rattle.blob_store.specs.declared.openings.Wanted.{Wanted}
use Rattle.site_state.specs.Files.{Paths}
use Rattle.site_state.specs.Missing.{digests_of}
use Rattle.site_change.specs.declared.commands.Command.TheVariants.{Open, Publish, Restore}
use Rattle.site_change.specs.declared.entries.Entry.{Entry}
use Rattle.site_change.specs.declared.entries.Entry.TheVariants.{Change, Undo}
use Rattle.change_undo.specs.Histories.{entry_at}
use Rattle.host_opening.specs.Needs.{is_listed, more, one_wanted, need_at, need_if, need_in, need_up_to, publishes}
use Rattle.host_opening.specs.WantedFiles.{AreWanted, IsPublished, Lists, wanted_digests}
use Rattle.host_opening.proofs.Needed.{at_itself, cell_at_itself, same_cells, same_digest}
use Rattle.change_log.specs.Logs.{Log, last_number}
use Rattle.change_undo.proofs.Marked.{none_up_to, number_at}
use Rattle.host_opening.proofs.Taken.{entry_before, entry_within}

-- ---- what is published

any_place : (p : Entry → Bool) (xs : List Entry) → list_any p xs ≡ true → (k : ℕ) × (x : Entry) × (slice_get xs k ≡ Some x) × (p x ≡ true)
any_place p [] e = cc e
any_place p (y ∷ xs) e =
    elim (p y) as (λ b. p y ≡ b → (b || list_any p xs) ≡ true → (k : ℕ) × (x : Entry) × (slice_get (y ∷ xs) k ≡ Some x) × (p x ≡ true)) [
      | true ↦ λ here _. (zero, y, refl, here)
      | false ↦ λ _ rest. let found = any_place p xs rest in (suc found.0, found.1, found.2, found.3)
    ] refl e

-- the entry that publishes the deploy
abbrev Publishing : SiteName → ℕ → Entry → Type 0
Publishing site n entry = (entry ≡ Change (Publish site n)) ⊎ (entry ≡ Change (Restore site n))

publishing : (site : SiteName) (n : ℕ) (entry : Entry) → publishes (cell.Kept site n) entry ≡ true → Publishing site n entry
publishing site n (Change (Publish s m)) e = let same : cell.Kept s m ≡ cell.Kept site n = same_cells _ _ e in inl (cc same)
publishing site n (Change (Restore s m)) e = let same : cell.Kept s m ≡ cell.Kept site n = same_cells _ _ e in inr (cc same)
publishing site n _ e = cc e

is_published : (log : Log) (site : SiteName) (n : ℕ) → list_any (publishes (cell.Kept site n)) log.entries ≡ true → IsPublished log site n
is_published log site n e =
    let found = any_place (publishes (cell.Kept site n)) log.entries e in
    let here : entry_at log (log.base + suc found.0) ≡ Some found.1 = entry_before log found.0 ∙ found.2 in (
      log.base + suc found.0,
      elim (publishing site n found.1 found.3) [
        | inl is ↦ inl (here ∙ ap Some is)
        | inr is ↦ inr (here ∙ ap Some is)
      ],
    )

any_entry : (log : Log) (k : ℕ) (c : Cell) (entry : Entry) → entry_at log k ≡ Some entry → publishes c entry ≡ true → list_any (publishes c) log.entries ≡ true
any_entry log k c entry is passes =
    let some = (entry_within log k entry is).0 in
    let at : k ≡ log.base + suc (k - log.base - 1) = omega (arith, some) in
    any_passes_from_place (publishes c) log.entries (k - log.base - 1) entry (sym (number_at (slice_get log.entries) log.base k (k - log.base - 1) at) ∙ is) passes

was_published : (log : Log) (site : SiteName) (n : ℕ) → IsPublished log site n → list_any (publishes (cell.Kept site n)) log.entries ≡ true
was_published log site n (k, inl is) = any_entry log k (cell.Kept site n) _ is (cell_at_itself (cell.Kept site n))
was_published log site n (k, inr is) = any_entry log k (cell.Kept site n) _ is (cell_at_itself (cell.Kept site n))

-- ---- what is listed

abbrev is_one : Digest → Digest → Bool
is_one q digest = is_at (digest_cmp digest) q

listed_digests : (q : Digest) (files : Paths (Option Digest)) → list_any (λ f. is_listed q f.1) files ≡ list_any (is_one q) (digests_of files)
listed_digests q [] = refl
listed_digests q ((path, None) ∷ files) = listed_digests q files
listed_digests q ((path, Some digest) ∷ files) = ap (λ b. is_one q digest || b) (listed_digests q files)

is_listed_by : (q : Digest) (files : Paths (Option Digest)) → list_any (λ f. is_listed q f.1) files ≡ true → Contains (digests_of files) q
is_listed_by q files e = Contains-from_any {eq = is_one} (λ x y tie. sym (same_digest y x tie)) q (digests_of files) (sym (listed_digests q files) ∙ e)

was_listed : (q : Digest) (files : Paths (Option Digest)) → Contains (digests_of files) q → list_any (λ f. is_listed q f.1) files ≡ true
was_listed q files (i, lt, here) = listed_digests q files ∙ list_any_at (is_one q) (digests_of files) i q lt (ap (is_one q) here ∙ at_itself q)

-- ---- what one entry needs

abbrev Needs : Log → ℕ → Digest → Bool → Type 0
Needs log n q b = (site : SiteName) × Lists log site n q × (b ≡ list_any (publishes (cell.Kept site n)) log.entries)

needed_if : (one must b : Bool) → need_if one must ≡ Some b → (one ≡ true) × (b ≡ must)
needed_if true must b e = (refl, cc e)
needed_if false must b e = cc e

needs_of_entry : (log : Log) (n : ℕ) (q : Digest) (b : Bool) (o : Option Entry) → entry_at log n ≡ o → need_at log n o q ≡ Some b → Needs log n q b
needs_of_entry log n q b (Some (Change (Open site files auto))) is e =
    let needed = needed_if (list_any (λ f. is_listed q f.1) files.1) _ b e in
    (site, (files, auto, is, is_listed_by q files.1 needed.0), needed.1)
needs_of_entry log n q b _ is e = cc e

lists_needs : (log : Log) (site : SiteName) (n : ℕ) (q : Digest) → Lists log site n q
    → need_at log n (entry_at log n) q ≡ Some (list_any (publishes (cell.Kept site n)) log.entries)
lists_needs log site n q (files, auto, is, there) =
    let must = list_any (publishes (cell.Kept site n)) log.entries in
    ap (λ o. need_at log n o q) is ∙ ap (λ one. need_if one must) (was_listed q files.1 there)

-- ---- what all need

more_some : (x y : Option Bool) (b : Bool) → more x y ≡ Some b → (x ≡ Some b) ⊎ (y ≡ Some b)
more_some None y b e = inr e
more_some (Some a) None b e = inl e
more_some (Some true) (Some d) b e = inl e
more_some (Some false) (Some d) b e = inr e

-- it is needed, and must be there where the one says so
abbrev AtLeast : Bool → Option Bool → Type 0
AtLeast b o = (d : Bool) × (o ≡ Some d) × (b ≡ true → d ≡ true)

left_more : (b : Bool) (y : Option Bool) → AtLeast b (more (Some b) y)
left_more b None = (b, refl, λ e. e)
left_more true (Some d) = (true, refl, λ e. refl)
left_more false (Some d) = (d, refl, λ e. cc e)

right_more : (b d : Bool) (x : Option Bool) → (b ≡ true → d ≡ true) → AtLeast b (more x (Some d))
right_more b d None so = (d, refl, so)
right_more b d (Some true) so = (true, refl, λ e. refl)
right_more b d (Some false) so = (d, refl, so)

some_need : (log : Log) (k : ℕ) (q : Digest) (b : Bool) → need_up_to log k q ≡ Some b → (n : ℕ) × Needs log n q b
some_need log zero q b e = cc e
some_need log (suc k) q b e = elim (more_some (need_at log (k + 1) (entry_at log (k + 1)) q) (need_up_to log k q) b e) [
  | inl here ↦ (k + 1, needs_of_entry log (k + 1) q b (entry_at log (k + 1)) refl here)
  | inr before ↦ some_need log k q b before
]

last_or_before : (n k : ℕ) → n ≤ suc k → (n ≡ k + 1) ⊎ (n ≤ k)
last_or_before n k le = elim (n == k + 1) as (λ b. (n == k + 1) ≡ b → (n ≡ k + 1) ⊎ (n ≤ k)) [
  | true ↦ λ e. inl (eqb-true n (k + 1) e)
  | false ↦ λ e. let differ = eqb-false n (k + 1) e in inr (omega (arith, differ))
] refl

need_there : (log : Log) (k n : ℕ) (q : Digest) (b : Bool) → 1 ≤ n → n ≤ k → need_at log n (entry_at log n) q ≡ Some b → AtLeast b (need_up_to log k q)
need_there log zero n q b some le e = absurd (omega arith)
need_there log (suc k) n q b some le e = elim (last_or_before n k le) [
  | inl last ↦
      let here : need_at log (k + 1) (entry_at log (k + 1)) q ≡ Some b = ap (λ m. need_at log m (entry_at log m) q) (sym last) ∙ e in
      subst (λ o. AtLeast b (more o (need_up_to log k q))) (sym here) (left_more b (need_up_to log k q))
  | inr before ↦
      let there = need_there log k n q b some before e in
      subst (λ o. AtLeast b (more (need_at log (k + 1) (entry_at log (k + 1)) q) o)) (sym there.1) (right_more b there.0 (need_at log (k + 1) (entry_at log (k + 1)) q) there.2)
]

-- each listed digest is needed
needed : (log : Log) (site : SiteName) (n : ℕ) (q : Digest) → Lists log site n q
    → AtLeast (list_any (publishes (cell.Kept site n)) log.entries) (need_up_to log (last_number log) q)
needed log site n q lists =
    let within = entry_within log n _ lists.2 in
    need_there log (last_number log) n q _ (omega (arith, within.0)) within.1 (lists_needs log site n q lists)

-- ---- the list of what is wanted

digests_are_keys : (es : List (Digest × Bool)) → wanted_digests (map one_wanted es) ≡ keys_of es
digests_are_keys [] = refl
digests_are_keys (e ∷ es) = ap (λ l. e.0 ∷ l) (digests_are_keys es)

from_wanted : (es : List (Digest × Bool)) (one : Wanted) → Contains (map one_wanted es) one → Contains es (one.digest, one.must)
from_wanted [] one (i, lt, here) = absurd (omega (arith, lt))
from_wanted (e ∷ es) one (zero, lt, here) = (zero, omega arith, ap (λ (w : Wanted). (w.digest, w.must)) here)
from_wanted (e ∷ es) one (suc i, lt, here) =
    let rest = from_wanted es one (i, omega (arith, lt), here) in (suc rest.0, omega (arith, rest.1), rest.2)

same_key : (x y : Digest) → eq_by_cmp digest_cmp x y ≡ true → x ≡ y
same_key x y e = same_digest x y e

pub wanted_is : (log : Log) (es : List (Digest × Bool)) (wanted : List Wanted) → IsStrictlySortedBy digest_cmp (keys_of es)
    → ((q : Digest) → lookup (is_at (digest_cmp q)) es ≡ need_up_to log (last_number log) q) → wanted ≡ map one_wanted es → AreWanted log wanted
wanted_is log es wanted sorted needs is =
    let equivalence = eq_by_cmp_equiv digest_cmp_total in
    subst (λ w. AreWanted log w) (sym is) (record {
      rising = subst (λ l. IsStrictlySortedBy digest_cmp l) (sym (digests_are_keys es)) sorted;
      listed = λ q. (
        (λ there.
            let key : Contains (keys_of es) q = subst (λ l. Contains l q) (digests_are_keys es) there in
            let found = some_of (lookup (is_at (digest_cmp q)) es) (IsSome-lookup_from_Contains equivalence q es key) in
            let need = some_need log (last_number log) q found.0 (sym (needs q) ∙ found.1) in
            (need.1.0, need.0, need.1.1)),
        (λ lists.
            let need = needed log lists.0 lists.1 q lists.2 in
            let some : IsSome (lookup (is_at (digest_cmp q)) es) = subst (λ o. IsSome o) (sym (needs q ∙ need.1)) refl in
            subst (λ l. Contains l q) (sym (digests_are_keys es)) (Contains-keys_from_lookup same_key q es some)),
      );
      must = λ one there.
          let pair = from_wanted es one there in
          let found : lookup (is_at (digest_cmp one.digest)) es ≡ Some one.must =
          lookup-from_Contains equivalence one.digest one.must es (IsDistinct-from_sorted digest_cmp (keys_of es) sorted) pair in
          let need : need_up_to log (last_number log) one.digest ≡ Some one.must = sym (needs one.digest) ∙ found in (
            (λ must.
                let from = some_need log (last_number log) one.digest one.must need in
                (from.1.0, from.0, from.1.1, is_published log from.1.0 from.0 (sym from.1.2 ∙ must))),
            (λ lists.
                let all = needed log lists.0 lists.1 one.digest lists.2 in
                let same : one.must ≡ all.0 = cc (need, all.1) in
                same ∙ all.2 (was_published log lists.0 lists.1 lists.3)),
          );
    })
  where
    some_of : (o : Option Bool) → IsSome o → (b : Bool) × (o ≡ Some b)
    some_of None some = cc some
    some_of (Some b) some = (b, refl)

-- up to the base nothing is needed
pub need_none : (log : Log) (k : ℕ) (q : Digest) → k ≤ log.base → need_up_to log k q ≡ None
need_none log zero q low = refl
need_none log (suc k) q low =
    let next : k + 1 ≤ log.base = omega (arith, low) in
    ap (λ o. more (need_at log (k + 1) o q) (need_up_to log k q)) (none_up_to (slice_get log.entries) log.base (k + 1) next)
    ∙ need_none log k q (omega (arith, low))
