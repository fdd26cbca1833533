-- What the entries of a map from digests to files mean.
use Rattle.std.proofs.Common.{◌≡◌, ◌⊎◌, inl, inr, ℕ, ◌+◌, Bool, true, false, cond, is_some, List, [], ◌∷◌, Contains, length, map, Option, Some, None, option_map, arith, refl, sym, ap, subst, ◌∙◌}
use Rattle.std.specs.BTreeMap.{is_at}
use Rattle.std.specs.FinMap.{get, find, insert, len, get-from_entries, get-insert, get-empty, len-empty, len-insert, same_map}
use Rattle.std.specs.List.{AllByRecursion}
use Rattle.std.specs.List.Sorted.{IsStrictlySortedBy}
use Rattle.std.specs.Map.{keys_of, lookup}
use Rattle.std.specs.Ordering.{eq_by_cmp, is_eq}
use Rattle.std.specs.declared.cmp.Ordering.{Ordering}
use Rattle.std.specs.declared.cmp.Ordering.TheVariants.{Less, Equal, Greater}
use Rattle.std.proofs.lemmas.Cmp.{eq_by_cmp_equiv}
use Rattle.std.proofs.lemmas.Map.Keys.{sorted_head, sorted_tail}
use Rattle.sha1.specs.Sha1 as sha
use Rattle.host_names.specs.declared.digests.Digest.{Digest}
use Rattle.host_names.specs.Digests.{digest_cmp, digest_cmp_total, digest_cmp-IsAntisymmetric, digest_of}
use Rattle.byte_view.specs.Contents.{Contents, AreDigested, with_file}
use Rattle.byte_view.specs.Cuts.{names_of}
use Rattle.blob_store.specs.Calls.{AreKnownNames}
use Rattle.blob_store.specs.Files.{stored}
use Rattle.blob_store.proofs.Once.{contains_none}

option_map-cond : {A B : Type 0} (f : A → B) (b : Bool) (x : A) (o : Option A) → cond b (Some (f x)) (option_map f o) ≡ option_map f (cond b (Some x) o)
option_map-cond f true x o = refl
option_map-cond f false x o = refl

is_eq-true : (o : Ordering) → is_eq o ≡ true → o ≡ Equal
is_eq-true Less e = cc e
is_eq-true Equal e = refl
is_eq-true Greater e = cc e

-- a map with a file more is digested, where the file is under its own digest
pub AreDigested-insert : (files : Contents) (bytes : List ℕ) → AreDigested files → AreDigested (insert files (digest_of bytes) bytes)
AreDigested-insert files bytes h digest found e =
    let here = sym (get-insert digest_cmp_total files (digest_of bytes) bytes digest) ∙ e in
    elim (eq_by_cmp digest_cmp digest (digest_of bytes)) as (λ b. eq_by_cmp digest_cmp digest (digest_of bytes) ≡ b → cond b (Some bytes) (get files digest) ≡ Some found → digest.0 ≡ sha.sha1 found) [
      | true ↦ λ tie same.
          let at : digest ≡ digest_of bytes = digest_cmp-IsAntisymmetric digest (digest_of bytes) (is_eq-true _ tie) in
          let it : bytes ≡ found = cc same in
          ap (λ (d : Digest). d.0) at ∙ ap sha.sha1 it
      | false ↦ λ tie same. h digest found same
    ] refl here

-- a map without files is digested
pub AreDigested-none : {File : Type 0} (bytes : File → List ℕ) (files : List _) → files ≡ [] → AreDigested (stored bytes files)
AreDigested-none bytes files none digest found e =
    let empty : get (stored bytes []) digest ≡ Some found = rw none at e in
    cc (sym (get-empty {X = List ℕ} digest_cmp digest) ∙ empty)

-- a file that is known stays so with one more
pub kept_file : (kept : Contents) (text : List ℕ) (digest : Digest) (file : List ℕ) → get kept digest ≡ Some file → get (with_file kept text) digest ≡ Some file
kept_file kept text digest file at =
    elim (get kept (digest_of text)) as (λ o. get kept (digest_of text) ≡ o → get (cond (is_some o) kept (insert kept (digest_of text) text)) digest ≡ Some file) [
      | Some other ↦ λ e. at
      | None ↦ λ e. get-insert digest_cmp_total kept (digest_of text) text digest
          ∙ elim (eq_by_cmp digest_cmp digest (digest_of text)) as (λ b. eq_by_cmp digest_cmp digest (digest_of text) ≡ b → cond b (Some text) (get kept digest) ≡ Some file) [
            | true ↦ λ tie.
                let is : digest ≡ digest_of text = digest_cmp-IsAntisymmetric digest (digest_of text) (is_eq-true _ tie) in
                let wrong : None ≡ Some file = sym e ∙ ap (get kept) (sym is) ∙ at in
                absurd (cc wrong)
            | false ↦ λ tie. at
          ] refl
    ] refl

-- ---- names of pieces of known files

pub no_names : (known : Contents) (names : List Digest) → names ≡ [] → AreKnownNames known names
no_names known names none name there = absurd (contains_none name (subst (λ l. Contains l name) none there))

pub names_with_file : (kept : Contents) (text : List ℕ) (names : List Digest) → AreKnownNames kept names → AreKnownNames (with_file kept text) names
names_with_file kept text names are name there =
    let (digest, file, at, among) = are name there in
    (digest, file, kept_file kept text digest file at, among)

-- those of one more of them
pub names_added : (known : Contents) (digest : Digest) (file : List ℕ) (old names new : List Digest) → get known digest ≡ Some file → names ≡ names_of file
    → ((name : Digest) → Contains new name → Contains old name ⊎ Contains names name) → AreKnownNames known old → AreKnownNames known new
names_added known digest file old names new at named added are name there = elim (added name there) [
  | inl was ↦ are name was
  | inr among ↦ (digest, file, at, subst (λ l. Contains l name) named among)
]

module _ {File : Type 0} (bytes : File → List ℕ) where
  find-stored : (files : List (Digest × File)) (q : Digest) → find digest_cmp q (map (λ e. (e.0, bytes e.1)) files) ≡ option_map bytes (lookup (is_at (digest_cmp q)) files)
  find-stored [] q = refl
  find-stored (e ∷ files) q =
      ap (cond (is_at (digest_cmp q) e.0) (Some (bytes e.1))) (find-stored files q) ∙ option_map-cond bytes (is_at (digest_cmp q) e.0) e.1 _

  pub get-stored : (files : List (Digest × File)) (q : Digest) → get (stored bytes files) q ≡ option_map bytes (lookup (is_at (digest_cmp q)) files)
  get-stored files q = get-from_entries digest_cmp_total _ q ∙ find-stored files q

  none_after : (q : Digest) (files : List (Digest × File)) → AllByRecursion (λ other. digest_cmp q other ≡ Less) (keys_of files)
      → lookup (is_at (digest_cmp q)) files ≡ None
  none_after q [] above = refl
  none_after q (e ∷ files) above = ap (λ (o : Ordering). cond (is_eq o) (Some e.1) (lookup (is_at (digest_cmp q)) files)) above.0 ∙ none_after q files above.1

  -- there are as many files as entries
  pub len-stored : (files : List (Digest × File)) → IsStrictlySortedBy digest_cmp (keys_of files) → len (stored bytes files) ≡ length files
  len-stored [] rise = len-empty digest_cmp (List ℕ)
  len-stored (e ∷ files) rise =
      let kept = stored bytes files in
      let none : get kept e.0 ≡ None = get-stored files e.0 ∙ ap (option_map bytes) (none_after e.0 files (sorted_head digest_cmp e.0 (keys_of files) rise)) in
      let more : len (stored bytes (e ∷ files)) ≡ len kept + 1 =
      len-insert digest_cmp_total kept e.0 (bytes e.1) ∙ ap (λ (o : Option (List ℕ)). cond (is_some o) (len kept) (len kept + 1)) none in
      omega (arith, more, len-stored files (sorted_tail digest_cmp e.0 (keys_of files) rise))

  -- files that differ at one digest
  pub stored-insert : (old new : List (Digest × File)) (digest : Digest) (file : File)
      → ((q : Digest) → lookup (is_at (digest_cmp q)) new ≡ cond (is_at (digest_cmp digest) q) (Some file) (lookup (is_at (digest_cmp q)) old))
      → stored bytes new ≡ insert (stored bytes old) digest (bytes file)
  stored-insert old new digest file h = same_map digest_cmp_total digest_cmp-IsAntisymmetric _ _ (λ q.
      get-stored new q ∙ ap (option_map bytes) (h q) ∙ sym (option_map-cond bytes _ file _)
      ∙ ap (λ b. cond b (Some (bytes file)) (option_map bytes (lookup (is_at (digest_cmp q)) old))) ((eq_by_cmp_equiv digest_cmp_total).symm digest q)
      ∙ sym (get-insert digest_cmp_total (stored bytes old) digest (bytes file) q ∙ ap (cond (eq_by_cmp digest_cmp q digest) (Some (bytes file))) (get-stored old q)))

  same_digest : (digest : Digest) (text : List ℕ) → digest.0 ≡ sha.sha1 text → digest ≡ digest_of text
  same_digest digest text e = ap (λ (d : List ℕ). record { 0 = d }) e

  -- the file of these bytes is new
  pub new_file : (old new : List (Digest × File)) (kept : Contents) (digest : Digest) (text : List ℕ) (file : File)
      → stored bytes old ≡ kept → AreDigested (stored bytes old) → digest.0 ≡ sha.sha1 text → bytes file ≡ text
      → get kept digest ≡ None
      → ((q : Digest) → lookup (is_at (digest_cmp q)) new ≡ cond (is_at (digest_cmp digest) q) (Some file) (lookup (is_at (digest_cmp q)) old))
      → (stored bytes new ≡ with_file kept text) × AreDigested (stored bytes new)
  new_file old new kept digest text file is digested named holds absent updates =
      let at = same_digest digest text named in
      let none : get kept (digest_of text) ≡ None = ap (get kept) (sym at) ∙ absent in
      let more : stored bytes new ≡ insert (stored bytes old) digest (bytes file) = stored-insert old new digest file updates in
      let added : stored bytes new ≡ insert kept (digest_of text) text =
      more ∙ ap (λ k. insert k digest (bytes file)) is ∙ ap (λ d. insert kept d (bytes file)) at ∙ ap (insert kept (digest_of text)) holds in
      let same : stored bytes new ≡ with_file kept text = rw none added in (
        same,
        let P : Contents → Type 0 = AreDigested in
            subst P (sym added) (AreDigested-insert kept text (subst P is digested)),
      )
