-- What has been read before memory is taken is the front of an entry with paths.
use Rattle.std.proofs.Common.{◌≡◌, sym, ℕ, Bool, true, false, cond, ◌&&◌, ◌||◌, eqb, leb, ◌≤◌, List, [], ◌∷◌, ◌++◌, length, append_assoc, Option, Some, None, refl, ap, ◌∙◌, arith, inl, inr, ◌⊎◌, is_some}
use Rattle.std.specs.Int.{w32, to_be_bytes}
use Rattle.std.specs.Option.{IsSome}
use Rattle.std.specs.List.{flat_map, AllByRecursion}
use Rattle.std.proofs.lemmas.Bool.{and_parts, eqb-true, leb-true}
use Rattle.std.proofs.lemmas.List.Concat.{flat_map-cons}
use Rattle.std.proofs.lemmas.Option.{none-some}
use Rattle.entry_texts.specs.Spells.{path_text, name_text, flags, IsName, listed_text, digest_text, IsListed, BeginsWithPath, BeginsWithListing, TakesMemory}
use Rattle.entry_texts.specs.Reading.{◌>>=◌, site_at, path_at, flags_at, count_at, whole_files, after_path, listing_front, after_flags, before_memory}
use Rattle.entry_texts.proofs.Taking.{IsBytes, IsBytes-rest, bind_some}
use Rattle.entry_texts.proofs.NameTexts.{site_takes, path_takes}
use Rattle.entry_texts.proofs.Listed.{Entry, flags_take, count_takes}
use Rattle.entry_texts.proofs.Wholes.{files_whole}

some_of : {A : Type 0} (r : Option A) → IsSome r → (x : A) × (r ≡ Some x)
some_of (Some x) h = (x, refl)
some_of None h = absurd (cc h)

-- the site, and what follows it
abbrev AfterSite : (List ℕ → Type 0) → List ℕ → Type 0
AfterSite Begins bytes = (site rest : List ℕ) × IsName site × (bytes ≡ name_text site ++ rest) × Begins rest

path_begins : (bytes : List ℕ) → IsBytes bytes → IsSome (after_path bytes) → AfterSite BeginsWithPath bytes
unfolding after_path
path_begins bytes fits h =
    let e = some_of (site_at bytes >>= λ s. path_at s.1 >>= λ p. Some p.1) h in
    let a = bind_some (site_at bytes) (λ s. path_at s.1 >>= λ p. Some p.1) e.0 e.1 in
    let b = bind_some (path_at a.0.1) (λ p. Some p.1) e.0 a.2 in
    let s = site_takes bytes a.0.0 a.0.1 fits a.1 in
    let t = path_takes a.0.1 b.0.0 b.0.1 s.0.rest_fits b.1 in
    (a.0.0.0, a.0.1, s.1, s.0.parts, (b.0.0, b.0.1, t.1, t.0.parts))

or_given : (x y : Bool) (A : Type 0) (z : Option A) (v : A) → cond (x || y) z None ≡ Some v → ((x ≡ true) ⊎ (y ≡ true)) × (z ≡ Some v)
or_given true y A z v e = (inl refl, e)
or_given false true A z v e = (inr refl, e)
or_given false false A z v e = absurd (none-some v e)

-- what a whole list of paths begins with
all_begin : (n : ℕ) (rest : List ℕ) (files : List Entry) → rest ≡ flat_map listed_text files → length files ≡ n → AllByRecursion IsListed files → ((1 ≤ n) × BeginsWithPath rest) ⊎ ((n ≡ 0) × (rest ≡ []))
all_begin n rest [] text len listed = inr (sym len, text)
all_begin n rest (e ∷ files) text len listed =
    inl (omega (arith, len), (e.0, digest_text e.1 ++ flat_map listed_text files, listed.0.0, text ∙ flat_map-cons listed_text e files ∙ append_assoc (path_text e.0) (digest_text e.1) (flat_map listed_text files)))

path_or_all : (n : ℕ) (rest : List ℕ) → IsBytes rest → (((leb 1 n && is_some (path_at rest)) ≡ true) ⊎ IsSome (whole_files n rest)) → ((1 ≤ n) × BeginsWithPath rest) ⊎ ((n ≡ 0) × (rest ≡ []))
path_or_all n rest fits (inl here) =
    let both = and_parts (leb 1 n) (is_some (path_at rest)) here in
    let a = some_of (path_at rest) both.1 in
    let t = path_takes rest a.0.0 a.0.1 fits a.1 in
    inl (leb-true 1 n both.0, (a.0.0, a.0.1, t.1, t.0.parts))
path_or_all n rest fits (inr all) =
    let a = some_of (whole_files n rest) all in
    let w = files_whole n rest a.0 fits a.1 in
    all_begin n rest a.0 w.0 w.1 w.2

listing_begins : (bytes : List ℕ) → IsBytes bytes → IsSome (listing_front bytes) → BeginsWithListing bytes
unfolding listing_front
listing_begins bytes fits h =
    let e = some_of (flags_at bytes >>= λ f. count_at f.1 >>= λ n. cond ((leb 1 n.0 && is_some (path_at n.1)) || is_some (whole_files n.0 n.1)) (Some n.1) None) h in
    let b = bind_some (flags_at bytes) (λ f. count_at f.1 >>= λ n. cond ((leb 1 n.0 && is_some (path_at n.1)) || is_some (whole_files n.0 n.1)) (Some n.1) None) e.0 e.1 in
    let d = bind_some (count_at b.0.1) (λ n. cond ((leb 1 n.0 && is_some (path_at n.1)) || is_some (whole_files n.0 n.1)) (Some n.1) None) e.0 b.2 in
    let g = or_given (leb 1 d.0.0 && is_some (path_at d.0.1)) (is_some (whole_files d.0.0 d.0.1)) (List ℕ) (Some d.0.1) e.0 d.2 in
    let f = flags_take bytes b.0.0 b.0.1 fits b.1 in
    let n = count_takes b.0.1 d.0.0 d.0.1 f.rest_fits d.1 in
    let text : bytes ≡ flags b.0.0.0 b.0.0.1 ∷ (to_be_bytes w32 d.0.0 ++ d.0.1) = f.parts ∙ ap (λ (r : List ℕ). flags b.0.0.0 b.0.0.1 ∷ r) n.0.parts in
    (b.0.0.0, b.0.0.1, d.0.0, d.0.1, text, n.1, path_or_all d.0.0 d.0.1 n.0.rest_fits g.0)

flags_begin : (bytes : List ℕ) → IsBytes bytes → IsSome (after_flags bytes) → AfterSite BeginsWithListing bytes
unfolding after_flags
flags_begin bytes fits h =
    let e = some_of (site_at bytes >>= λ s. listing_front s.1) h in
    let a = bind_some (site_at bytes) (λ s. listing_front s.1) e.0 e.1 in
    let s = site_takes bytes a.0.0 a.0.1 fits a.1 in
    (a.0.0.0, a.0.1, s.1, s.0.parts, listing_begins a.0.1 s.0.rest_fits (ap is_some a.2))

with_kind : (kind k : ℕ) (bytes text : List ℕ) → eqb kind k ≡ true → bytes ≡ text → kind ∷ bytes ≡ k ∷ text
with_kind kind k bytes text e f = ap (λ (n : ℕ). n ∷ bytes) (eqb-true kind k e) ∙ ap (λ (b : List ℕ). k ∷ b) f

-- a test, and what is there where it went so
by_test : {A : Type 0} {P : Type 0} (b : Bool) (x y : Option A) → IsSome (cond b x y) → (b ≡ true → IsSome x → P) → (IsSome y → P) → P
by_test true x y h f g = f refl h
by_test false x y h f g = g h

pub takes_memory : (bytes : List ℕ) → IsBytes bytes → IsSome (before_memory bytes) → TakesMemory bytes
unfolding before_memory
takes_memory [] fits h = absurd (cc h)
takes_memory (kind ∷ bytes) fits h =
    let rest_fits = IsBytes-rest kind bytes fits in
    let paths : (k : ℕ) → (k ≡ 6) ⊎ ((k ≡ 7) ⊎ (k ≡ 10)) → eqb kind k ≡ true → IsSome (after_path bytes) → TakesMemory (kind ∷ bytes) =
    λ k one e some. let a = path_begins bytes rest_fits some in (a.0, a.1, a.2, inr (k, one, with_kind kind k bytes (name_text a.0 ++ a.1) e a.3, a.4)) in
    by_test (eqb kind 1) (after_flags bytes) _ h
    (λ k some. let a = flags_begin bytes rest_fits some in (a.0, a.1, a.2, inl (with_kind kind 1 bytes (name_text a.0 ++ a.1) k a.3, a.4)))
    (λ on. by_test (eqb kind 6) (after_path bytes) _ on (paths 6 (inl refl))
    (λ further. by_test (eqb kind 7) (after_path bytes) _ further (paths 7 (inr (inl refl)))
    (λ last. by_test (eqb kind 10) (after_path bytes) None last (paths 10 (inr (inr refl))) (λ none. absurd (cc none)))))
