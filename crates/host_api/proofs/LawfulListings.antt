-- Of what a body lists, only a patch has removals.
use Rattle.std.proofs.Common.{◌≡◌, ℕ, Bool, true, false, not, cond, ◌&&◌, ◌||◌, List, [], ◌∷◌, Option, Some, None, is_some, Result, Ok, Err, IsTrue, refl, sym, ap, subst, ◌∙◌}
use Rattle.std.specs.FinMap as map
use Rattle.std.specs.FinMap.Entries.{put, by_order}
use Rattle.std.specs.List.{list_all}
use Rattle.std.specs.Cmp.Lexicographic.{nat_list_cmp_total}
use Rattle.std.specs.declared.cmp.Ordering.TheVariants.{Less, Equal, Greater}
use Rattle.serde_json.specs.Data.{Data, Members, no_members, member}
use Rattle.host_names.specs.Path.{is_path, with_slash}
use Rattle.host_names.specs.declared.digests.Digest.{Digest}
use Rattle.site_state.specs.Files.{IsByPath}
use Rattle.site_state.specs.Listings.{is_lawful}
use Rattle.host_api.specs.Bodies.{Files, then_with, digest_in, listed_in, files_in, with_one, with_all}
use Rattle.host_api.specs.declared.refusals.Refusal.{Refusal}
use Rattle.host_api.specs.declared.refusals.Refusal.TheVariants.{BadPath, BadBody}
use Rattle.host_api.proofs.ListedFiles.{Entry, path_cmp, entries_files_in}

abbrev are_files : List Entry → Bool
are_files = list_all (λ f. is_some f.1)

both : (a b : Bool) → (a && b) ≡ true → (a ≡ true) × (b ≡ true)
both true b e = (refl, e)
both false b e = cc e

are_files-put : (path : List ℕ) (listed : Option Digest) (files : List Entry) → is_some listed ≡ true → are_files files ≡ true → are_files (put path_cmp path listed files) ≡ true
are_files-put path listed [] here all = ap (λ t. t && true) here
are_files-put path listed (f ∷ files) here all =
    let parts = both (is_some f.1) (are_files files) all in
    elim (path_cmp path f.0) as (λ o. are_files (by_order o ((path, listed) ∷ f ∷ files) ((f.0, listed) ∷ files) (f ∷ put path_cmp path listed files)) ≡ true) [
      | Less ↦ (λ i. here i && all i)
      | Equal ↦ (λ i. here i && parts.1 i)
      | Greater ↦ (λ i. parts.0 i && are_files-put path listed files here parts.1 i)
    ]

abbrev IsLawful : Bool → Files → Type 0
IsLawful patch files = is_lawful patch (map.entries files) ≡ true

with_lawful : (patch : Bool) (files : Files) (path : List ℕ) (listed : Option Digest) → (patch || is_some listed) ≡ true → IsLawful patch files → IsLawful patch (map.insert files path listed)
with_lawful true files path listed here lawful = refl
with_lawful false files path listed here lawful =
    ap are_files (map.entries-insert nat_list_cmp_total files path listed) ∙ are_files-put path listed (map.entries files) here lawful

spelt : (r : Result Digest Refusal) (listed : Option Digest) → then_with r (λ digest. Ok (Some digest)) ≡ Ok listed → is_some listed ≡ true
spelt (Ok digest) (Some d) e = refl
spelt (Ok digest) None e = cc e
spelt (Err refusal) listed e = cc e

-- what a value lists is a file, or it is a patch
listed_lawful : (patch : Bool) (value : Data) (listed : Option Digest) → listed_in patch value ≡ Ok listed → (patch || is_some listed) ≡ true
listed_lawful true value listed e = refl
listed_lawful false value listed e = spelt (digest_in value) listed e

-- one path more
by_value : (patch : Bool) (files more : Files) (path : List ℕ) (r : Result (Option Digest) Refusal) → ((listed : Option Digest) → r ≡ Ok listed → (patch || is_some listed) ≡ true)
    → IsLawful patch files → then_with r (λ listed. Ok (map.insert files path listed)) ≡ Ok more → IsLawful patch more
by_value patch files more path (Ok listed) is lawful e =
    let same : map.insert files path listed ≡ more = cc e in
    subst (IsLawful patch) same (with_lawful patch files path listed (is listed refl) lawful)
by_value patch files more path (Err refusal) is lawful e = cc e

by_place : (patch : Bool) (files more : Files) (path : List ℕ) (value : Data) (lawful_path known : Bool) → IsLawful patch files
    → cond (not lawful_path) (Err BadPath) (cond known (Err BadBody) (then_with (listed_in patch value) (λ listed. Ok (map.insert files path listed)))) ≡ Ok more → IsLawful patch more
by_place patch files more path value false known lawful e = cc e
by_place patch files more path value true true lawful e = cc e
by_place patch files more path value true false lawful e = by_value patch files more path (listed_in patch value) (listed_lawful patch value) lawful e

-- all of them
by_member : (patch : Bool) (ms : Members) (r : Result Files Refusal) (all : Files) → ((files : Files) → r ≡ Ok files → IsLawful patch files)
    → ((files : Files) → IsLawful patch files → with_all patch files ms ≡ Ok all → IsLawful patch all) → then_with r (λ more. with_all patch more ms) ≡ Ok all → IsLawful patch all
by_member patch ms (Ok files) all first rest e = rest files (first files refl) e
by_member patch ms (Err refusal) all first rest e = cc e

lawful_all : (patch : Bool) (ms : Members) (files all : Files) → IsLawful patch files → with_all patch files ms ≡ Ok all → IsLawful patch all
lawful_all patch no_members files all lawful e = let same : files ≡ all = cc e in subst (IsLawful patch) same lawful
lawful_all patch (member key value ms) files all lawful e =
    by_member patch ms (with_one patch files (with_slash key) value) all
    (λ more is. by_place patch files more (with_slash key) value (is_path (with_slash key)) (map.contains_key files (with_slash key)) lawful is)
    (λ more. lawful_all patch ms more all) e

nothing_listed : map.entries {R = path_cmp} (map.empty {X = Option Digest}) ≡ []
nothing_listed =
    ap map.entries (sym (map.same_map nat_list_cmp_total same (map.from_sorted []) map.empty (λ q. map.get-from_sorted path_cmp [] q tt ∙ sym (map.get-empty path_cmp q)))) ∙ map.entries-from_sorted path_cmp [] tt
  where
    same : map.IsAntisymmetric path_cmp
    same = map.slice_cmp-IsAntisymmetric map.nat_cmp-IsAntisymmetric

none_lawful : (patch : Bool) → IsLawful patch map.empty
none_lawful true = refl
none_lawful false = ap are_files nothing_listed

-- what the members of a body list
pub members_lawful : (patch : Bool) (ms : Members) (files listed : List Entry) → IsByPath files → listed ≡ files → with_all patch map.empty ms ≡ Ok (files_in files) → IsTrue (is_lawful patch listed)
members_lawful patch ms files listed sorted same e =
    ap (is_lawful patch) (same ∙ sym (entries_files_in files sorted)) ∙ lawful_all patch ms map.empty (files_in files) (none_lawful patch) e
