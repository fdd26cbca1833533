-- The files that the members of a body list, as the entries of a map.
use Rattle.std.proofs.Common.{◌≡◌, ℕ, Bool, true, false, cond, List, [], ◌∷◌, Option, Some, None, Result, Ok, Err, IsOk, String, Global, string_bytes, is_some, Ordering, refl, sym, ap, ◌∙◌, rules}
use Rattle.std.specs.BTreeMap.{is_at}
use Rattle.std.specs.Cmp.Lexicographic.{slice_cmp, nat_list_cmp_total}
use Rattle.std.specs.FinMap.{find, entries, get, insert, contains_key, get-from_entries, get-from_sorted, get-insert, entries-from_sorted, from_sorted, same_map, nat_cmp-IsAntisymmetric, slice_cmp-IsAntisymmetric, IsAntisymmetric}
use Rattle.std.specs.Map.{lookup}
use Rattle.std.specs.Ordering.{eq_by_cmp, nat_cmp}
use Rattle.std.specs.Result.{result_ok}
use Rattle.std.proofs.lemmas.Cmp.{eq_by_cmp_equiv}
use Rattle.hex.specs.Hex.{decode_sized}
use Rattle.hex.specs.declared.error.FromHexError.{FromHexError}
use Rattle.hex.proofs.HexLemmas.{IsOk-decode_sized}
use Rattle.serde_json.specs.Data.{Data, string}
use Rattle.serde_json.specs.View.{view}
use Rattle.serde_json.specs.declared.value.Value as Value
use Rattle.host_names.specs.Hex.{IsDigestText}
use Rattle.host_names.specs.Path.{is_path}
use Rattle.host_names.specs.declared.digests.Digest.{Digest}
use Rattle.site_state.specs.Files.{IsByPath}
use Rattle.persistent_maps.proofs.Entries.{is_sorted-from}
use Rattle.host_api.specs.Bodies.{digest_in, listed_in, files_in, with_one}
use Rattle.host_api.specs.declared.refusals.Refusal.{Refusal}
use Rattle.host_api.specs.declared.refusals.Refusal.TheVariants.{BadBody, BadDigest}

abbrev pub Entry : Type 0
Entry = List ℕ × Option Digest

abbrev pub path_cmp : List ℕ → List ℕ → Ordering
path_cmp = slice_cmp nat_cmp

-- the value at a path
abbrev pub at : List Entry → List ℕ → Option (Option Digest)
at files path = lookup (is_at (path_cmp path)) files

undecoded : (r : Result (List ℕ) FromHexError) → (IsOk r → ⊥) → result_ok r ≡ None
undecoded (Ok bytes) none = absurd (none refl)
undecoded (Err e) none = refl

view-String : (s : String Global) → view (Value.String s) ≡ string (string_bytes s)
view-String s = search (rules, Value.the_lemmas)

-- a text that spells no digest
pub no_digest : (value : Value.Value) (s : String Global) (text : List ℕ) → value ≡ Value.String s → text ≡ string_bytes s → (IsDigestText text → ⊥) → digest_in (view value) ≡ Err BadDigest
no_digest value s text is same none =
    let spelt : view value ≡ string text = ap view is ∙ view-String s ∙ ap string (sym same) in
    let unread : result_ok (decode_sized text 20) ≡ None = undecoded (decode_sized text 20) (λ ok. none ((IsOk-decode_sized text 20).0 ok)) in
    rw (spelt, unread) refl

find-lookup : (files : List Entry) (path : List ℕ) → find path_cmp path files ≡ at files path
find-lookup [] path = refl
find-lookup (file ∷ files) path = ap (cond (eq_by_cmp path_cmp path file.0) (Some file.1)) (find-lookup files path)

pub get-files_in : (files : List Entry) (path : List ℕ) → get (files_in files) path ≡ at files path
get-files_in files path = get-from_entries nat_list_cmp_total files path ∙ find-lookup files path

pub paths-IsAntisymmetric : IsAntisymmetric path_cmp
paths-IsAntisymmetric = slice_cmp-IsAntisymmetric nat_cmp-IsAntisymmetric

-- files that differ at one path
insert-files_in : (old new : List Entry) (path : List ℕ) (listed : Option Digest)
    → ((q : List ℕ) → at new q ≡ cond (is_at (path_cmp path) q) (Some listed) (at old q))
    → insert (files_in old) path listed ≡ files_in new
insert-files_in old new path listed updates = same_map nat_list_cmp_total paths-IsAntisymmetric _ _ (λ q.
    get-insert nat_list_cmp_total (files_in old) path listed q ∙ ap (cond (eq_by_cmp path_cmp q path) (Some listed)) (get-files_in old q)
    ∙ sym (get-files_in new q ∙ updates q ∙ ap (λ b. cond b (Some listed) (at old q)) ((eq_by_cmp_equiv nat_list_cmp_total).symm path q)))

-- files by path are the entries of their map
pub entries_files_in : (files : List Entry) → IsByPath files → entries (files_in files) ≡ files
entries_files_in files sorted =
    let test = is_sorted-from path_cmp files sorted in
    ap entries (same_map nat_list_cmp_total paths-IsAntisymmetric (files_in files) (from_sorted files) (λ q.
    get-from_entries nat_list_cmp_total files q ∙ sym (get-from_sorted path_cmp files q test)))
    ∙ entries-from_sorted path_cmp files test

-- a path that is listed already
pub listed_twice : (patch : Bool) (files : List Entry) (path text : List ℕ) (value : Data) → path ≡ text → is_path text ≡ true → is_some (at files path) ≡ true
    → with_one patch (files_in files) text value ≡ Err BadBody
listed_twice patch files path text value same lawful known =
    let found : contains_key (files_in files) text ≡ true = ap is_some (get-files_in files text) ∙ ap (λ p. is_some (at files p)) (sym same) ∙ known in
    rw (lawful, found) refl

-- a value that lists nothing
pub listed_badly : (patch : Bool) (files : List Entry) (path text : List ℕ) (value : Data) (refusal : Refusal) → path ≡ text → is_path text ≡ true → is_some (at files path) ≡ false
    → listed_in patch value ≡ Err refusal → with_one patch (files_in files) text value ≡ Err refusal
listed_badly patch files path text value refusal same lawful fresh bad =
    let none : contains_key (files_in files) text ≡ false = ap is_some (get-files_in files text) ∙ ap (λ p. is_some (at files p)) (sym same) ∙ fresh in
    rw (lawful, none, bad) refl

-- a path and what is listed for it
pub listed_once : (patch : Bool) (old new : List Entry) (path text : List ℕ) (value : Data) (listed : Option Digest) → path ≡ text → is_path text ≡ true → is_some (at old path) ≡ false
    → listed_in patch value ≡ Ok listed → ((q : List ℕ) → at new q ≡ cond (is_at (path_cmp path) q) (Some listed) (at old q))
    → with_one patch (files_in old) text value ≡ Ok (files_in new)
listed_once patch old new path text value listed same lawful fresh good updates =
    let none : contains_key (files_in old) text ≡ false = ap is_some (get-files_in old text) ∙ ap (λ p. is_some (at old p)) (sym same) ∙ fresh in
    let more : insert (files_in old) text listed ≡ files_in new = ap (λ p. insert (files_in old) p listed) (sym same) ∙ insert-files_in old new path listed updates in
    rw (lawful, none, good) (ap Ok more)
