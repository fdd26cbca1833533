-- A change is posted under a key that covers each cell which it touches.
use Rattle.std.proofs.Common.{◌≡◌, inl, inr, ℕ, zero, suc, ◌<◌, ◌==◌, Bool, true, false, ◌&&◌, ◌||◌, List, [], ◌∷◌, ◌++◌, length, take, drop, slice_index, length-append, arith, Option, bytes_eq, refl, sym, ap, ◌∙◌}
use Rattle.std.specs.List.{list_any}
use Rattle.std.specs.Cmp.Lexicographic.{bytes_decides}
use Rattle.std.proofs.lemmas.Bool.{cases_lt}
use Rattle.std.proofs.lemmas.Bool.Decides.{Decides-eqb}
use Rattle.host_names.specs.Folders.{is_below, slash_after}
use Rattle.host_names.proofs.Folders.{below-is}
use Rattle.host_names.specs.declared.names.SiteName.{SiteName}
use Rattle.host_names.specs.declared.cells.Cell.{Cell}
use Rattle.host_names.specs.declared.cells.Cell.TheVariants as cell
use Rattle.host_names.specs.declared.digests.Digest.{Digest}
use Rattle.site_state.specs.Files.{Paths}
use Rattle.site_state.specs.States.{is_live_of, is_live_below, is_alias_of}
use Rattle.site_change.specs.declared.touched.Touched.{Touched}
use Rattle.site_change.specs.declared.touched.TouchedCells.{TouchedCells}
use Rattle.site_change.specs.declared.touched.TouchedCells.TheVariants as touched
use Rattle.site_change.specs.TouchedCells as cells
use Rattle.site_change.specs.TouchedCells.{is_touched}
use Rattle.site_change.specs.Changes.{same_cell, is_listed}
use Rattle.site_change.proofs.Effects.{one_cell}
use Rattle.touch_index.specs.Keys.{any_below, has_folder_at, has_folder, is_in_folder, folder_key, all_folders, covers, cell_key, all_paths, all_aliases, covering, listed_keys, posted_keys, touched_keys}
use Rattle.touch_index.specs.Postings.{is_among}

itself : (n : ℕ) → (n == n) ≡ true
itself n = (Decides-eqb n n).1 refl

pub or_left : (a b : Bool) → a ≡ true → (a || b) ≡ true
or_left a b e = ap (λ t. t || b) e

pub or_right : (a b : Bool) → b ≡ true → (a || b) ≡ true
or_right true b e = refl
or_right false b e = e

or_cases : (a b r : Bool) → (a || b) ≡ true → (a ≡ true → r ≡ true) → (b ≡ true → r ≡ true) → r ≡ true
or_cases true b r e f g = f refl
or_cases false b r e f g = g e

-- whether one of the keys is among the others
abbrev pub meet : List ℕ → List ℕ → Bool
meet keys others = list_any (λ key. is_among key others) keys

-- of more keys
any-more : (test other : ℕ → Bool) → ((n : ℕ) → test n ≡ true → other n ≡ true) → (n : ℕ) → any_below test n ≡ true → any_below other n ≡ true
any-more test other more zero e = cc e
any-more test other more (suc n) e = or_cases (any_below test n) (test n) _ e (λ h. or_left _ _ (any-more test other more n h)) (λ h. or_right _ _ (more n h))

pub and_both : (a b : Bool) → a ≡ true → b ≡ true → (a && b) ≡ true
and_both a b e f = λ i. e i && f i

pub and_first : (a b : Bool) → (a && b) ≡ true → (a ≡ true) × (b ≡ true)
and_first true b e = (refl, e)
and_first false b e = cc e

meet-more : (keys others : List ℕ) (k : ℕ) → meet keys others ≡ true → meet keys (k ∷ others) ≡ true
meet-more [] others k e = e
meet-more (key ∷ keys) others k e = or_cases _ _ _ e (λ h. or_left _ _ (or_right _ _ h)) (λ h. or_right _ _ (meet-more keys others k h))

-- the test of the keys among these
abbrev pub is_one_of : List ℕ → ℕ → Bool
is_one_of keys key = is_among key keys

-- a change that is posted under these keys may touch the cell
record IsCovered (keys : List ℕ) (c : Cell) : Type 0 where
  is : covers (is_one_of keys) c ≡ true

by_either : (a b : Bool) (keys : List ℕ) (c : Cell) → (a || b) ≡ true → (a ≡ true → IsCovered keys c) → (b ≡ true → IsCovered keys c) → IsCovered keys c
by_either a b keys c e f g = record { is = or_cases a b _ e (λ h. (f h).is) (λ h. (g h).is) }

more : (k : ℕ) (keys : List ℕ) (c : Cell) → IsCovered keys c → IsCovered (k ∷ keys) c
more k keys c covered = record {
  is = or_cases (meet (covering c) keys) (is_in_folder (is_one_of keys) c) _ covered.is
      (λ h. or_left _ _ (meet-more (covering c) keys k h)) (λ h. or_right _ _ (folder-more c h));
}
  where
    still : (key : ℕ) → is_among key keys ≡ true → is_among key (k ∷ keys) ≡ true
    still key e = or_right _ _ e

    folder-more : (c : Cell) → is_in_folder (is_one_of keys) c ≡ true → is_in_folder (is_one_of (k ∷ keys)) c ≡ true
    folder-more (cell.Live site path) e =
        let both = and_first _ _ e in
        and_both _ _ (still _ both.0) (any-more _ _ (λ n h. let parts = and_first _ _ h in and_both _ _ parts.0 (still _ parts.1)) (length path) both.1)
    folder-more (cell.Kept site n) e = cc e
    folder-more (cell.Alias site name) e = cc e
    folder-more (cell.Draft site n) e = cc e

by_covering : (keys : List ℕ) (c : Cell) → meet (covering c) keys ≡ true → IsCovered keys c
by_covering keys c e = record { is = or_left _ _ e }

by_key : (c d : Cell) (keys : List ℕ) → same_cell c d ≡ true → IsCovered (cell_key d ∷ keys) c
by_key c d keys e = by_covering (cell_key d ∷ keys) c (or_left _ _ (or_left _ _ (ap (λ x. cell_key c == cell_key x) (sym (one_cell c d e)) ∙ itself (cell_key c))))

by_list : (site : SiteName) (files : Paths (Option Digest)) (c : Cell) → is_listed site files c ≡ true → IsCovered (listed_keys site files) c
by_list site [] c e = cc
by_list site (f ∷ files) c e =
    by_either _ _ _ c e (λ h. by_key c (cell.Live site f.0) _ h) (λ h. more _ _ c (by_list site files c h))

same_site : (a b : SiteName) → bytes_eq a.0 b.0 ≡ true → a ≡ b
same_site a b e = let bytes = (bytes_decides a.0 b.0).0 e in λ i. record { 0 = bytes i }

by_all_paths : (site : SiteName) (c : Cell) (keys : List ℕ) → is_live_of site c ≡ true → IsCovered (all_paths site ∷ keys) c
by_all_paths site (cell.Live other path) keys e =
    by_covering (all_paths site ∷ keys) (cell.Live other path) (or_right _ _ (or_left _ _ (or_left _ _ (ap (λ s. all_paths s == all_paths site) (sym (same_site site other e)) ∙ itself (all_paths site)))))
by_all_paths site (cell.Kept other n) keys e = cc
by_all_paths site (cell.Alias other name) keys e = cc
by_all_paths site (cell.Draft other n) keys e = cc

by_all_aliases : (site : SiteName) (c : Cell) (keys : List ℕ) → is_alias_of site c ≡ true → IsCovered (all_aliases site ∷ keys) c
by_all_aliases site (cell.Alias other name) keys e =
    by_covering (all_aliases site ∷ keys) (cell.Alias other name) (or_right _ _ (or_left _ _ (or_left _ _ (ap (λ s. all_aliases s == all_aliases site) (sym (same_site site other e)) ∙ itself (all_aliases site)))))
by_all_aliases site (cell.Live other path) keys e = cc
by_all_aliases site (cell.Kept other n) keys e = cc
by_all_aliases site (cell.Draft other n) keys e = cc

-- ---- folders

pub any-at : (test : ℕ → Bool) (k n : ℕ) → k < n → test k ≡ true → any_below test n ≡ true
any-at test k zero less e = absurd (omega (arith, less))
any-at test k (suc n) less e = elim (cases_lt k n) [
  | inl below ↦ or_left _ _ (any-at test k n below e)
  | inr top ↦ let same : k ≡ n = omega (arith, less, top) in or_right _ _ (ap test (sym same) ∙ e)
]

take-front : (front rest : List ℕ) → take (length front) (front ++ rest) ≡ front
take-front [] rest = refl
take-front (b ∷ front) rest = ap (λ t. b ∷ t) (take-front front rest)

at-front : (front : List ℕ) (b : ℕ) (rest : List ℕ) → slice_index (front ++ b ∷ rest) (length front) ≡ b
at-front [] b rest = refl
at-front (a ∷ front) b rest = at-front front b rest

-- where the folder's key passes, so does the test of the folders above a path below it
folder-found : (posted : ℕ → Bool) (site : SiteName) (folder path : List ℕ) → is_below folder path ≡ true → posted (folder_key site folder) ≡ true → has_folder posted site path ≡ true
folder-found posted site folder path below there =
    let rest = drop (length (slash_after folder)) path in
    let is = below-is folder path below in
    ap (has_folder posted site) is
    ∙ any-at (has_folder_at posted site (folder ++ 47 ∷ rest)) (length folder) (length (folder ++ 47 ∷ rest)) (shorter folder rest)
    (and_both _ _ (ap (λ n. n == 47) (at-front folder 47 rest)) (ap (λ t. posted (folder_key site t)) (take-front folder (47 ∷ rest)) ∙ there))
  where
    shorter : (folder rest : List ℕ) → length folder < length (folder ++ 47 ∷ rest)
    shorter folder rest = grind (arith, length-append)

by_folder : (site : SiteName) (folder : List ℕ) (keys : List ℕ) (c : Cell) → is_live_below site folder c ≡ true
    → is_among (all_folders site) keys ≡ true → is_among (folder_key site folder) keys ≡ true → IsCovered keys c
by_folder site folder keys (cell.Live other path) e mark key =
    let parts = and_first (bytes_eq site.0 other.0) (is_below folder path) e in
    let one : site ≡ other = same_site site other parts.0 in
    record {
      is = or_right _ _ (and_both _ _ (ap (λ s. is_among (all_folders s) keys) (sym one) ∙ mark)
          (ap (λ s. has_folder (is_one_of keys) s path) (sym one) ∙ folder-found (is_one_of keys) site folder path parts.1 key));
    }
by_folder site folder keys (cell.Kept other n) e mark key = cc e
by_folder site folder keys (cell.Alias other name) e mark key = cc e
by_folder site folder keys (cell.Draft other n) e mark key = cc e

among-covered : (site : SiteName) (touches : TouchedCells) (c : Cell) → cells.is_among site touches c ≡ true → IsCovered (posted_keys site touches) c
among-covered site (touched.Path path) c e = by_key c (cell.Live site path) _ e
among-covered site (touched.Paths one other) c e =
    by_either _ _ _ c e (λ h. by_key c (cell.Live site one) _ h) (λ h. more _ _ c (by_key c (cell.Live site other) _ h))
among-covered site (touched.Folders one other) c e =
    let keys = posted_keys site (touched.Folders one other) in
    let mark : is_among (all_folders site) keys ≡ true = or_left _ _ (itself (all_folders site)) in
    by_either _ _ _ c e
    (λ h. by_folder site one keys c h mark (or_right _ _ (or_left _ _ (itself (folder_key site one)))))
    (λ h. by_folder site other keys c h mark (or_right _ _ (or_right _ _ (or_left _ _ (itself (folder_key site other))))))
among-covered site (touched.Draft m) c e = by_key c (cell.Draft site m) _ e
among-covered site (touched.Alias name) c e = by_key c (cell.Alias site name) _ e
among-covered site (touched.AliasAndKept name m) c e =
    by_either _ _ _ c e (λ h. by_key c (cell.Kept site m) _ h) (λ h. more _ _ c (by_key c (cell.Alias site name) _ h))
among-covered site (touched.KeptAndAliases m) c e =
    by_either _ _ _ c e (λ h. by_key c (cell.Kept site m) _ h) (λ h. more _ _ c (by_all_aliases site c _ h))
among-covered site (touched.Deploy m) c e =
    by_either _ _ _ c e (λ h. by_key c (cell.Draft site m) _ h)
    (λ rest. by_either _ _ _ c rest (λ h. more _ _ c (by_key c (cell.Kept site m) _ h)) (λ h. more _ _ c (more _ _ c (by_all_paths site c _ h))))
among-covered site (touched.Patch m files) c e =
    by_either _ _ _ c e (λ h. by_key c (cell.Draft site m) _ h) (λ h. more _ _ c (by_list site files.1 c h))
among-covered site (touched.PatchAndKept m files) c e =
    by_either _ _ _ c e (λ h. by_key c (cell.Draft site m) _ h)
    (λ rest. by_either _ _ _ c rest (λ h. more _ _ c (by_key c (cell.Kept site m) _ h)) (λ h. more _ _ c (more _ _ c (by_list site files.1 c h))))

pub touched-covered : (t : Touched) (c : Cell) → is_touched t c ≡ true → covers (is_one_of (touched_keys t)) c ≡ true
touched-covered t c e = (among-covered t.site t.cells c e).is

-- a change that is posted under no key touches nothing
pub covers-none : (c : Cell) → covers (λ key. false) c ≡ false
covers-none (cell.Live site path) = refl
covers-none (cell.Kept site n) = refl
covers-none (cell.Alias site name) = refl
covers-none (cell.Draft site n) = refl
