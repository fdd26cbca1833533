-- The files of a listing, of which none is missing.
use Rattle.std.proofs.Common.{◌≡◌, ℕ, ◌<◌, true, false, not, cond, List, [], ◌∷◌, map, length, get_or, Option, Some, None, option_map, refl, sym, ap, subst, ◌∙◌, ◌≤◌, take, take_all}
use Rattle.std.specs.FinMap as finmap
use Rattle.std.specs.List.{AllByRecursion}
use Rattle.std.specs.List.Sorted.{IsStrictlySortedBy}
use Rattle.std.specs.Cmp.Lexicographic.{slice_cmp}
use Rattle.std.specs.Ordering.{nat_cmp, is_gt}
use Rattle.std.specs.declared.cmp.Ordering.TheVariants.{Less}
use Rattle.std.proofs.lemmas.List.Elements.{All-from_recursion}
use Rattle.byte_view.specs.Contents.{Contents}
use Rattle.host_names.specs.Digests.{digest_cmp}
use Rattle.host_names.specs.declared.digests.Digest.{Digest}
use Rattle.site_state.specs.Files.{Paths, IsByPath}
use Rattle.site_state.specs.Missing.{least_missing_of, if_lacking, lesser}
use Rattle.site_state.proofs.LackingDigests.{least_missing-cons}
use Rattle.site_change.specs.Changes.{file_at, tree_of}

neither : (a b : Option Digest) → lesser a b ≡ None → (a ≡ None) × (b ≡ None)
neither None b e = (refl, e)
neither (Some a) None e = cc e
neither (Some a) (Some b) e = elim (is_gt (digest_cmp a b)) as (λ t. cond t (Some b) (Some a) ≡ None → (Some a ≡ None) × (Some b ≡ None)) [ true ↦ λ h. cc h | false ↦ λ h. cc h ] e

pub there : (uploads : Contents) (digest : Digest) → if_lacking uploads (Some digest) ≡ None → finmap.contains_key uploads digest ≡ true
there uploads digest e = elim (finmap.contains_key uploads digest) as (λ b. cond (not b) (Some digest) None ≡ None → b ≡ true) [ true ↦ λ h. refl | false ↦ λ h. cc h ] e

-- where none is missing, the first isn't, and none of the rest is
pub none_missing : (uploads : Contents) (f : List ℕ × Option Digest) (files : Paths (Option Digest)) → least_missing_of uploads (f ∷ files) ≡ None
    → (if_lacking uploads f.1 ≡ None) × (least_missing_of uploads files ≡ None)
none_missing uploads f files none = neither (if_lacking uploads f.1) (least_missing_of uploads files) (sym (least_missing-cons uploads f files) ∙ none)

all_uploaded : (uploads : Contents) (files : Paths (Option Digest)) → least_missing_of uploads files ≡ None → AllByRecursion (λ f. if_lacking uploads f.1 ≡ None) files
all_uploaded uploads [] none = tt
all_uploaded uploads (f ∷ files) none =
    let parts = none_missing uploads f files none in
    (parts.0, all_uploaded uploads files parts.1)

-- where none is missing, none is at its place
pub uploaded_at : (uploads : Contents) (files : Paths (Option Digest)) (k : ℕ) (d : List ℕ × Option Digest) → least_missing_of uploads files ≡ None → k < length files → d ≡ get_or files k d
    → if_lacking uploads d.1 ≡ None
uploaded_at uploads files k d none lt is =
    ap (λ (f : List ℕ × Option Digest). if_lacking uploads f.1) is
    ∙ All-from_recursion (λ (f : List ℕ × Option Digest). if_lacking uploads f.1 ≡ None) files (all_uploaded uploads files none) k d lt

-- the listed file, as it is in a tree
abbrev pub in_tree : Contents → List ℕ × Option Digest → Option (List ℕ × List ℕ)
in_tree uploads f = option_map (λ bytes. (f.0, bytes)) (file_at uploads f.1)

behind : (uploads : Contents) (p : List ℕ) (files : Paths (Option Digest)) → AllByRecursion (λ q. slice_cmp nat_cmp p q ≡ Less) (map (λ f. f.0) files)
    → AllByRecursion (λ q. slice_cmp nat_cmp p q ≡ Less) (map (λ f. f.0) (tree_of uploads files))
behind uploads p [] h = tt
behind uploads p ((q, None) ∷ files) h = behind uploads p files h.1
behind uploads p ((q, Some digest) ∷ files) h = (h.0, behind uploads p files h.1)

-- a tree is by path, as its listing is
tree_sorted : (uploads : Contents) (files : Paths (Option Digest)) → IsByPath files → IsByPath (tree_of uploads files)
unfolding IsStrictlySortedBy
tree_sorted uploads [] h = tt
tree_sorted uploads ((p, None) ∷ files) h = tree_sorted uploads files h.1
tree_sorted uploads ((p, Some digest) ∷ files) h = (behind uploads p files h.0, tree_sorted uploads files h.1)

pub tree_by_path : (uploads : Contents) (files listed : Paths (Option Digest)) (entries : Paths (List ℕ)) (k : ℕ) → IsByPath files → listed ≡ files → length listed ≤ k
    → entries ≡ tree_of uploads (take k listed) → IsByPath entries
tree_by_path uploads files listed entries k by_path same end is =
    let whole : entries ≡ tree_of uploads files = is ∙ ap (tree_of uploads) (take_all k listed end ∙ same) in
    let P : Paths (List ℕ) → Type 0 = IsByPath in
    subst P (sym whole) (tree_sorted uploads files by_path)
