-- The lines of the last entries of a site, found from the newest on.
use Rattle.std.proofs.Common.{◌≡◌, ◌⊎◌, inl, inr, ℕ, zero, suc, ◌+◌, ◌-◌, ◌<◌, ◌≤◌, Bool, List, [], ◌∷◌, ◌++◌, append_assoc, length, map, filter, take, drop, reverse, slice_get, true, false, cond, Option, Some, None, refl, sym, ap, subst, ◌∙◌, arith}
use Rattle.std.specs.Prelude.{option_and_then}
use Rattle.std.specs.List.{AllByRecursion, cons_option, enumerate_from, filter_map}
use Rattle.std.proofs.Math.Seq.{drop-append_seam}
use Rattle.std.proofs.lemmas.List.{append-nil, take_all, take_at, take-append-drop, length-append, length-reverse, length-take-le, reverse-append, reverse-reverse}
use Rattle.std.proofs.lemmas.List.Elements.{filter_map-append}
use Rattle.host_names.specs.declared.names.SiteName.{SiteName}
use Rattle.site_change.specs.declared.entries.Entry.{Entry}
use Rattle.site_change.specs.Entries.{site_of_entry}
use Rattle.change_undo.specs.Histories.{entry_at, same_site, undone}
use Rattle.change_log.proofs.Longer.{above}
use Rattle.change_log.specs.Logs.{Log}
use Rattle.change_undo.specs.SiteEntries.{numbers_of}
use Rattle.host_api.specs.declared.change_lines.ChangeLine.{ChangeLine}
use Rattle.host_answers.specs.ChangeLists.{line_of, line_in, line_at, lines_of}

few_or_many : (m n : ℕ) → (m ≤ n) ⊎ (n < m)
few_or_many m n = grind arith

-- ---- the last so many

-- so many at most, from the end
abbrev last_of : {A : Type 0} → ℕ → List A → List A
last_of n xs = drop (length xs - n) xs

-- how many lines are shown
abbrev pub most_lines : ℕ
most_lines = 1000

last_of_few : {A : Type 0} (n : ℕ) (xs : List A) → length xs ≤ n → last_of n xs ≡ xs
last_of_few n xs few =
    let none : length xs - n ≡ 0 = omega (arith, few) in
    ap (λ k. drop k xs) none

last_of_back : {A : Type 0} (n : ℕ) (front back : List A) → length back ≡ n → last_of n (front ++ back) ≡ back
last_of_back n front back some =
    let long = length-append front back in
    let at : length (front ++ back) - n ≡ length front = omega (arith, long) in
    ap (λ k. drop k (front ++ back)) at ∙ drop-append_seam front back

-- the last so many, found from the end on
pub turned : {A : Type 0} (n : ℕ) (xs : List A) → reverse (take n (reverse xs)) ≡ last_of n xs
turned n xs = elim (few_or_many (length xs) n) [
  | inl few ↦
      let long = length-reverse xs in
      ap reverse (take_all n (reverse xs) (omega (arith, long, few))) ∙ reverse-reverse xs ∙ sym (last_of_few n xs few)
  | inr many ↦
      let front = reverse (drop n (reverse xs)) in
      let back = reverse (take n (reverse xs)) in
      let parts : xs ≡ front ++ back =
      sym (reverse-reverse xs) ∙ ap reverse (sym (take-append-drop n (reverse xs))) ∙ reverse-append (take n (reverse xs)) (drop n (reverse xs)) in
      let long = length-reverse xs in
      let some = length-reverse (take n (reverse xs)) in
      let taken = length-take-le n (reverse xs) (omega (arith, long, many)) in
      sym (ap (last_of n) parts ∙ last_of_back n front back (omega (arith, some, taken)))
]

-- ---- the entries of a site

-- the entries have these numbers in the log
AreEntriesOf : Log → List (ℕ × Entry) → Type 0
AreEntriesOf log entries = AllByRecursion (λ e. entry_at log e.0 ≡ Some e.1) entries

slice_get-next : (front : List Entry) (e : Entry) (entries : List Entry) (i : ℕ) → i ≡ length front → slice_get (front ++ e ∷ entries) i ≡ Some e
slice_get-next [] e entries zero at = refl
slice_get-next [] e entries (suc i) at = absurd (omega (arith, at))
slice_get-next (x ∷ front) e entries zero at = absurd (omega (arith, at))
slice_get-next (x ∷ front) e entries (suc i) at = slice_get-next front e entries i (omega (arith, at))

entries_from : (log : Log) (front entries : List Entry) (n : ℕ) → log.entries ≡ front ++ entries → n ≡ log.base + length front + 1 → AreEntriesOf log (enumerate_from n entries)
unfolding AreEntriesOf
entries_from log front [] n parts next = tt
entries_from log front (e ∷ entries) n parts next =
    let long = length-append front (e ∷ []) in (
      ap (λ t. cond t None (slice_get log.entries (n - log.base - 1))) (above n log.base (omega (arith, next)))
          ∙ ap (λ (es : List Entry). slice_get es (n - log.base - 1)) parts ∙ slice_get-next front e entries (n - log.base - 1) (omega (arith, next)),
      entries_from log (front ++ e ∷ []) entries (n + 1) (parts ∙ sym (append_assoc front (e ∷ []) entries)) (omega (arith, next, long)),
    )

-- each number of an entry of the site has a line, and these are all
lines-of : (log : Log) (site : SiteName) (entries : List (ℕ × Entry)) → AreEntriesOf log entries
    → filter_map (line_at log site) (map (λ e. e.0) (filter (λ e. same_site (site_of_entry e.1) site) entries)) ≡ filter_map (line_in site (undone log.entries)) entries
unfolding AreEntriesOf
lines-of log site [] are = refl
lines-of log site (e ∷ entries) are =
    let f = line_in site (undone log.entries) in
    let test : ℕ × Entry → Bool = λ e. same_site (site_of_entry e.1) site in
    let rest = filter test entries in
    elim (test e) as (λ b. test e ≡ b → filter_map (line_at log site) (map (λ p. p.0) (cond b (e ∷ rest) rest)) ≡ cons_option (f e) (filter_map f entries)) [
      | true ↦ λ it.
          ap (λ (o : Option Entry). cons_option (option_and_then (λ (x : Entry). f (e.0, x)) o) (filter_map (line_at log site) (map (λ p. p.0) rest))) are.0
          ∙ ap (cons_option (f e)) (lines-of log site entries are.1)
      | false ↦ λ other.
          lines-of log site entries are.1
          ∙ sym (ap (λ b. cons_option (cond b (Some (line_of (undone log.entries) e.0 e.1)) None) (filter_map f entries)) other)
    ] refl

-- ---- the newest first

last_one : {Y : Type 0} (o : Option Y) (ys : List Y) → reverse ys ++ cons_option o [] ≡ reverse (cons_option o ys)
last_one None ys = append-nil (reverse ys)
last_one (Some y) ys = sym (reverse-append (y ∷ []) ys)

filter_map-reverse : {X Y : Type 0} (h : X → Option Y) (xs : List X) → filter_map h (reverse xs) ≡ reverse (filter_map h xs)
filter_map-reverse h [] = refl
filter_map-reverse h (x ∷ xs) =
    ap (filter_map h) (reverse-append (x ∷ []) xs) ∙ filter_map-append h (reverse xs) (x ∷ [])
    ∙ ap (λ ys. ys ++ cons_option (h x) []) (filter_map-reverse h xs) ∙ last_one (h x) (filter_map h xs)

newest_lines : (log : Log) (site : SiteName) → filter_map (line_at log site) (reverse (numbers_of log site)) ≡ reverse (lines_of log site)
newest_lines log site =
    filter_map-reverse (line_at log site) (numbers_of log site) ∙ ap reverse (lines-of log site (enumerate_from (log.base + 1) log.entries) (entries_from log [] log.entries (log.base + 1) refl (omega arith)))

-- ---- the loop

-- these lines, the newest first, and those of the numbers that are left are all, and these are not too many
abbrev pub AreFound : Log → SiteName → List ChangeLine → List ℕ → Type 0
AreFound log site items left = (items ++ filter_map (line_at log site) left ≡ reverse (lines_of log site)) × (length items ≤ most_lines)

pub none_found : (log : Log) (site : SiteName) (items : List ChangeLine) (left : List ℕ) → items ≡ [] → left ≡ reverse (numbers_of log site) → AreFound log site items left
none_found log site items left none all =
    let short : length items ≤ most_lines = subst (λ (ls : List ChangeLine). length ls ≤ most_lines) (sym none) (omega arith) in (
      ap (λ (ls : List ChangeLine). ls ++ filter_map (line_at log site) left) none ∙ ap (filter_map (line_at log site)) all ∙ newest_lines log site,
      short,
    )

pub no_line_found : (log : Log) (site : SiteName) (items : List ChangeLine) (n : ℕ) (left rest : List ℕ) → AreFound log site items left
    → left ≡ n ∷ rest → line_at log site n ≡ None → AreFound log site items rest
no_line_found log site items n left rest found first is =
    let f = line_at log site in (
      ap (λ o. items ++ cons_option o (filter_map f rest)) (sym is) ∙ ap (λ ns. items ++ filter_map f ns) (sym first) ∙ found.0,
      found.1,
    )

-- where no number is left
pub all_found : (log : Log) (site : SiteName) (items : List ChangeLine) (left : List ℕ) → AreFound log site items left → left ≡ []
    → items ≡ take most_lines (reverse (lines_of log site))
all_found log site items left found none =
    let whole : items ≡ reverse (lines_of log site) =
    sym (append-nil items) ∙ ap (λ ns. items ++ filter_map (line_at log site) ns) (sym none) ∙ found.0 in
    sym (take_all most_lines items found.1) ∙ ap (take most_lines) whole

-- where no more lines are wanted
pub enough_found : (log : Log) (site : SiteName) (items : List ChangeLine) (left : List ℕ) → AreFound log site items left → length items ≡ most_lines
    → items ≡ take most_lines (reverse (lines_of log site))
enough_found log site items left found full = sym (take_at items (filter_map (line_at log site) left) most_lines full) ∙ ap (take most_lines) found.0
