-- The entries of each site, found from the last one on.
use Rattle.std.proofs.Common.{◌≡◌, ℕ, zero, suc, ◌+◌, ◌-◌, ◌<◌, ◌≤◌, Bool, true, false, cond, List, [], ◌∷◌, ◌++◌, length, map, filter, reverse, slice_get, Option, Some, unwrap_or, refl, sym, ap, subst, ◌∙◌, arith}
use Rattle.std.specs.Cmp.{IsTotalOrder}
use Rattle.std.specs.FinMap.{find, IsAntisymmetric, nat_cmp-IsAntisymmetric, slice_cmp-IsAntisymmetric}
use Rattle.std.specs.List.{enumerate_from}
use Rattle.std.specs.List.Sorted.{IsStrictlySortedBy}
use Rattle.std.specs.Map.{keys_of}
use Rattle.std.specs.Ordering.{eq_by_cmp}
use Rattle.std.specs.Str.{bytes_eq}
use Rattle.std.proofs.lemmas.Bool.{le-leb, lt-leb}
use Rattle.std.proofs.lemmas.Bool.Decides.{same_from_decides}
use Rattle.std.proofs.lemmas.Cmp.{on_total, nat_list_cmp_total}
use Rattle.std.proofs.lemmas.List.{length-append, map-append, reverse-append}
use Rattle.std.proofs.lemmas.List.Elements.{filter-append}
use Rattle.std.proofs.lemmas.Map.Text.{is_eq-slice_cmp}
use Rattle.std.proofs.lemmas.Slice.Eq.{bytes_eq-Decides}
use Rattle.host_names.specs.declared.names.SiteName.{SiteName}
use Rattle.persistent_maps.specs.Edits.{edited}
use Rattle.persistent_maps.proofs.Edits.{find-edited, Rises-edited}
use Rattle.site_change.specs.declared.entries.Entry.{Entry}
use Rattle.site_change.specs.Entries.{site_of_entry}
use Rattle.change_undo.specs.Histories.{same_site}
use Rattle.change_log.specs.Logs.{Log, next_number, numbered, with_entry, with_only}
use Rattle.change_undo.specs.SiteEntries.{numbers_of}
use Rattle.change_undo.specs.SiteIndexes.{site_cmp, last_of, before, trail, Leads, LeadsOn, AreChained}

-- ---- the order of sites

site_cmp_total : IsTotalOrder site_cmp
site_cmp_total = on_total (λ site. site.0) nat_list_cmp_total

site_cmp-IsAntisymmetric : IsAntisymmetric site_cmp
site_cmp-IsAntisymmetric a b e = let same = slice_cmp-IsAntisymmetric nat_cmp-IsAntisymmetric a.0 b.0 e in λ i. record { 0 = same i }

bytes_eq-swapped : (xs ys : List ℕ) → bytes_eq xs ys ≡ bytes_eq ys xs
bytes_eq-swapped xs ys =
    same_from_decides (bytes_eq xs ys) (bytes_eq ys xs) (λ e. sym ((bytes_eq-Decides xs ys).0 e), λ same. (bytes_eq-Decides xs ys).1 (sym same))
    (bytes_eq-Decides ys xs)

same_site-is : (a b : SiteName) → same_site a b ≡ true → a ≡ b
same_site-is a b e = let same = (bytes_eq-Decides a.0 b.0).0 e in λ i. record { 0 = same i }

-- ---- where a number leads

slice_get-front : (xs ys : List ℕ) (i : ℕ) → i < length xs → slice_get (xs ++ ys) i ≡ slice_get xs i
slice_get-front [] ys i within = absurd (omega (arith, within))
slice_get-front (x ∷ xs) ys zero within = refl
slice_get-front (x ∷ xs) ys (suc i) within = slice_get-front xs ys i (omega (arith, within))

slice_get-pushed : (xs : List ℕ) (x i : ℕ) → i ≡ length xs → slice_get (xs ++ x ∷ []) i ≡ Some x
slice_get-pushed [] x zero at = refl
slice_get-pushed [] x (suc i) at = absurd (omega (arith, at))
slice_get-pushed (y ∷ xs) x zero at = absurd (omega (arith, at))
slice_get-pushed (y ∷ xs) x (suc i) at = slice_get-pushed xs x i (omega (arith, at))

-- a number leads to no other with more entries
Leads-more : (base : ℕ) (earlier more : List ℕ) (n : ℕ) (ks : List ℕ) → Leads base earlier n ks → Leads base (earlier ++ more) n ks
Leads-more base earlier more n [] h = h
Leads-more base earlier more n (k ∷ ks) h =
    let long = length-append earlier more in
    let same : before base earlier k ≡ before base (earlier ++ more) k =
    ap (λ (o : Option ℕ). unwrap_or o 0) (sym (slice_get-front earlier more (k - base - 1) (omega (arith, h.1, h.2)))) in (
      h.0,
      h.1,
      omega (arith, long, h.2),
      subst (λ m. m < k) same h.3,
      subst (λ m. Leads base (earlier ++ more) m ks) same (Leads-more base earlier more (before base earlier k) ks h.4),
    )

Leads-within : (base : ℕ) (earlier : List ℕ) (n : ℕ) (ks : List ℕ) → Leads base earlier n ks → n ≤ base + length earlier
Leads-within base earlier n [] h = omega (arith, h)
Leads-within base earlier n (k ∷ ks) h = omega (arith, h.0, h.2)

pub trail-is : (base : ℕ) (earlier : List ℕ) (most n : ℕ) (ks : List ℕ) → n ≤ most → Leads base earlier n ks → trail base earlier most n ≡ ks
trail-is base earlier zero n [] few h = refl
trail-is base earlier (suc most) n [] few h = ap (λ t. cond t [] (n ∷ trail base earlier most (before base earlier n))) (le-leb n base h)
trail-is base earlier zero n (k ∷ ks) few h = absurd (omega (arith, few, h.0, h.1))
trail-is base earlier (suc most) n (k ∷ ks) few h =
    ap (λ t. cond t [] (n ∷ trail base earlier most (before base earlier n))) (lt-leb n base (omega (arith, h.0, h.1)))
    ∙ ap (λ m. m ∷ trail base earlier most (before base earlier m)) h.0
    ∙ ap (λ ms. k ∷ ms) (trail-is base earlier most (before base earlier k) ks (omega (arith, few, h.0, h.3)) h.4)

-- one step along a trail
step_along : (base : ℕ) (earlier : List ℕ) (n : ℕ) (ks : List ℕ) → base < n → Leads base earlier n ks
    → LeadsOn base earlier (before base earlier n) × (trail base earlier n n ≡ n ∷ trail base earlier (before base earlier n) (before base earlier n))
step_along base earlier n [] some h = absurd (omega (arith, some, h))
step_along base earlier n (k ∷ ks) some h =
    let next = before base earlier n in
    let rest : Leads base earlier next ks = subst (λ m. Leads base earlier (before base earlier m) ks) (sym h.0) h.4 in (
      record { numbers = ks; leads = rest },
      trail-is base earlier n n (k ∷ ks) (omega arith) h ∙ ap (λ m. m ∷ ks) (sym h.0) ∙ ap (λ ms. n ∷ ms) (sym (trail-is base earlier next next ks (omega arith) rest)),
    )

pub leads-on : (base : ℕ) (earlier : List ℕ) (n : ℕ) → base < n → LeadsOn base earlier n → LeadsOn base earlier (before base earlier n)
leads-on base earlier n some on = (step_along base earlier n on.numbers some on.leads).0

pub trail-next : (base : ℕ) (earlier : List ℕ) (n : ℕ) → base < n → LeadsOn base earlier n
    → trail base earlier n n ≡ n ∷ trail base earlier (before base earlier n) (before base earlier n)
trail-next base earlier n some on = (step_along base earlier n on.numbers some on.leads).1

pub trail-ends : (base : ℕ) (earlier : List ℕ) (n : ℕ) → n ≤ base → trail base earlier n n ≡ []
trail-ends base earlier n low = trail-is base earlier n n [] (omega arith) low

-- ---- one entry more

enumerate_from-push : (n : ℕ) (entries : List Entry) (e : Entry) → enumerate_from n (entries ++ e ∷ []) ≡ enumerate_from n entries ++ (n + length entries, e) ∷ []
enumerate_from-push n [] e = ap (λ m. (m, e) ∷ []) (omega arith)
enumerate_from-push n (x ∷ entries) e =
    ap (λ ps. (n, x) ∷ ps) (enumerate_from-push (n + 1) entries e ∙ ap (λ m. enumerate_from (n + 1) entries ++ (m, e) ∷ []) (omega arith))

-- the newest number comes first, if the newest entry is of the site
newest_first : (b : Bool) (n : ℕ) (e : Entry) (ns : List ℕ) → reverse (map (λ (p : ℕ × Entry). p.0) (cond b ((n, e) ∷ []) [])) ++ ns ≡ cond b (n ∷ ns) ns
newest_first true n e ns = refl
newest_first false n e ns = refl

numbers-push : (log : Log) (e : Entry) (site : SiteName) (n : ℕ) → n ≡ next_number log
    → reverse (numbers_of (with_entry log e) site) ≡ cond (same_site (site_of_entry e) site) (n ∷ reverse (numbers_of log site)) (reverse (numbers_of log site))
numbers-push log e site n next =
    let test : ℕ × Entry → Bool = λ p. same_site (site_of_entry p.1) site in
    let number : ℕ × Entry → ℕ = λ p. p.0 in
    let at : log.base + 1 + length log.entries ≡ n = omega (arith, next) in
    ap (λ ps. reverse (map number (filter test ps))) (enumerate_from-push (log.base + 1) log.entries e ∙ ap (λ m. numbered log ++ (m, e) ∷ []) at)
    ∙ ap (λ ps. reverse (map number ps)) (filter-append test (numbered log) ((n, e) ∷ []))
    ∙ ap reverse (map-append number (filter test (numbered log)) (filter test ((n, e) ∷ [])))
    ∙ reverse-append (map number (filter test (numbered log))) (map number (filter test ((n, e) ∷ [])))
    ∙ newest_first (test (n, e)) n e (reverse (numbers_of log site))

unwrap_or-cond : (b : Bool) (n : ℕ) (o : Option ℕ) → unwrap_or (cond b (Some n) o) 0 ≡ cond b n (unwrap_or o 0)
unwrap_or-cond true n o = refl
unwrap_or-cond false n o = refl

last_of-push : (last : List (SiteName × ℕ)) (own site : SiteName) (n : ℕ) → IsStrictlySortedBy site_cmp (keys_of last)
    → last_of (edited site_cmp last own (Some n)) site ≡ cond (same_site own site) n (last_of last site)
last_of-push last own site n rises =
    ap (λ (o : Option ℕ). unwrap_or o 0) (find-edited site_cmp_total site_cmp-IsAntisymmetric site last own (Some n) rises)
    ∙ unwrap_or-cond (eq_by_cmp site_cmp site own) n (find site_cmp site last)
    ∙ ap (λ b. cond b n (last_of last site)) (is_eq-slice_cmp site.0 own.0 ∙ bytes_eq-swapped site.0 own.0)

-- the newest entry leads to the entries of its site before it
leads-push : (log : Log) (earlier : List ℕ) (n prior : ℕ) (ns : List ℕ) → n ≡ next_number log → length earlier ≡ length log.entries → Leads log.base earlier prior ns
    → Leads log.base (earlier ++ prior ∷ []) n (n ∷ ns)
leads-push log earlier n prior ns next same leads =
    let long = length-append earlier (prior ∷ []) in
    let within = Leads-within log.base earlier prior ns leads in
    let at : prior ≡ before log.base (earlier ++ prior ∷ []) n =
    ap (λ (o : Option ℕ). unwrap_or o 0) (sym (slice_get-pushed earlier prior (n - log.base - 1) (omega (arith, next, same)))) in (
      refl,
      omega (arith, next),
      omega (arith, next, same, long),
      subst (λ m. m < n) at (omega (arith, next, same, within)),
      subst (λ m. Leads log.base (earlier ++ prior ∷ []) m ns) at (Leads-more log.base earlier (prior ∷ []) prior ns leads),
    )

pub chained-push : (log : Log) (e : Entry) (earlier : List ℕ) (last : List (SiteName × ℕ)) (n : ℕ) → n ≡ next_number log → AreChained log earlier last
    → AreChained (with_entry log e) (earlier ++ last_of last (site_of_entry e) ∷ []) (edited site_cmp last (site_of_entry e) (Some n))
chained-push log e earlier last n next chained =
    let own = site_of_entry e in
    let prior = last_of last own in
    let long = length-append earlier (prior ∷ []) in
    let more = length-append log.entries (e ∷ []) in
    record {
      lengths = omega (arith, chained.lengths, long, more);
      rises = Rises-edited site_cmp_total last own (Some n) chained.rises;
      leads = λ site.
          let ns = reverse (numbers_of log site) in
          let P : ℕ → Type 0 = λ m. Leads log.base (earlier ++ prior ∷ []) m (reverse (numbers_of (with_entry log e) site)) in
          let Q : List ℕ → Type 0 = λ ks. Leads log.base (earlier ++ prior ∷ []) (cond (same_site own site) n (last_of last site)) ks in
          subst P (sym (last_of-push last own site n chained.rises)) (subst Q (sym (numbers-push log e site n next))
          (elim (same_site own site) as (λ b. same_site own site ≡ b → Leads log.base (earlier ++ prior ∷ []) (cond b n (last_of last site)) (cond b (n ∷ ns) ns)) [
            | true ↦ λ it.
                let R : SiteName → Type 0 = λ s. Leads log.base earlier (last_of last s) ns in
                leads-push log earlier n prior ns next chained.lengths (subst R (sym (same_site-is own site it)) (chained.leads site))
            | false ↦ λ other. Leads-more log.base earlier (prior ∷ []) (last_of last site) ns (chained.leads site)
          ] refl));
    }

-- the same, of what is found to be these
pub chained-after : (log more : Log) (e : Entry) (earlier others : List ℕ) (last pairs : List (SiteName × ℕ)) (prior n : ℕ) (own : SiteName) → n ≡ next_number log → AreChained log earlier last
    → more ≡ with_entry log e → own ≡ site_of_entry e → prior ≡ last_of last own → others ≡ earlier ++ prior ∷ [] → pairs ≡ edited site_cmp last own (Some n) → AreChained more others pairs
chained-after log more e earlier others last pairs prior n own next chained is_more is_own is_prior are_others are_pairs =
    let P : Log → Type 0 = λ ls. AreChained ls others pairs in
    let Q : List ℕ → Type 0 = λ ks. AreChained (with_entry log e) ks pairs in
    let R : List (SiteName × ℕ) → Type 0 = λ ps. AreChained (with_entry log e) (earlier ++ last_of last (site_of_entry e) ∷ []) ps in
    subst P (sym is_more) (subst Q (sym (are_others ∙ ap (λ m. earlier ++ m ∷ []) (is_prior ∙ ap (last_of last) is_own)))
    (subst R (sym (are_pairs ∙ ap (λ (s : SiteName). edited site_cmp last s (Some n)) is_own)) (chained-push log e earlier last n next chained)))

-- ---- without entries

none_rise : IsStrictlySortedBy site_cmp []
unfolding IsStrictlySortedBy
none_rise = tt

pub chained-none : (log : Log) → log.entries ≡ [] → AreChained log [] []
chained-none log none = record {
  lengths = ap (λ (es : List Entry). length es) (sym none);
  rises = none_rise;
  leads = λ site.
      let P : List Entry → Type 0 = λ es. Leads log.base [] (last_of [] site) (reverse (numbers_of (with_only log es) site)) in
      subst P (sym none) (omega arith);
}
