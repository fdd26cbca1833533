-- Whether names may be a base, and what they write.
use Rattle.std.proofs.Common.{◌≡◌, ℕ, ◌≤◌, nat_le, Bool, true, false, not, cond, ◌||◌, ◌&&◌, List, [], ◌∷◌, ◌++◌, length, map, take, option_to_list, Option, Some, None, is_some, option_map, unwrap_or, IsTrue, refl, sym, ap, subst, ◌∙◌}
use Rattle.std.specs.BTreeMap.{is_at}
use Rattle.std.specs.FinMap as finmap
use Rattle.std.specs.Cmp.Lexicographic.{slice_cmp}
use Rattle.std.specs.FinMap.{nat_cmp-IsAntisymmetric}
use Rattle.std.specs.List.{AllByRecursion, list_all}
use Rattle.std.specs.List.Sorted.{IsStrictlySortedBy}
use Rattle.std.specs.Map.{keys_of}
use Rattle.std.specs.Ordering.{is_eq, nat_cmp}
use Rattle.std.proofs.lemmas.Bool.{le-leb, leb-true}
use Rattle.std.proofs.lemmas.Cmp.{nat_cmp_total, tied_itself}
use Rattle.std.proofs.lemmas.List.{take_all}
use Rattle.std.proofs.lemmas.Map.Keys.{sorted_head, sorted_tail}
use Rattle.byte_view.specs.Contents.{Contents}
use Rattle.host_names.specs.Cells.{cell_cmp}
use Rattle.host_names.specs.CellOrder.{cell_cmp_total, cell_cmp-IsAntisymmetric}
use Rattle.host_names.specs.declared.cells.Cell.{Cell}
use Rattle.host_names.specs.declared.cells.Cell.TheVariants as cell
use Rattle.host_names.specs.declared.digests.Digest.{Digest}
use Rattle.host_names.specs.declared.names.AliasName.{AliasName}
use Rattle.host_names.specs.declared.names.SiteName.{SiteName}
use Rattle.persistent_maps.proofs.Edits.{at_key, equal}
use Rattle.persistent_maps.proofs.Entries.{sorted_from_test}
use Rattle.site_state.specs.Changes.{on_side, writes}
use Rattle.site_state.specs.Files.{IsByPath, Paths}
use Rattle.site_state.specs.Named.{AliasesNamed}
use Rattle.site_state.specs.States.{State, may_stand, with_cells}
use Rattle.site_state.specs.declared.changes.Change.{Change}
use Rattle.site_state.specs.declared.changes.Side.TheVariants.{After}
use Rattle.site_state.specs.declared.values.Value.{Value}
use Rattle.site_state.proofs.Written.{get-with_cells}
use Rattle.change_log.specs.Bases.{HasKnown, IsBase, IsKnown, Names, deploy_of, file_of, is_of_kind, resolved, value_of}
use Rattle.change_log.specs.Items.{IsLawful}
use Rattle.change_log.specs.declared.names.Name.{Name}
use Rattle.change_log.specs.declared.names.Name.TheVariants as name
use Rattle.change_log.proofs.Resolving.{base-named, find-mapped, get-resolved, kind_of_value}
use Rattle.change_log.specs.Founding.{all_once, fits, has_known, is_listed, is_named, is_numbered, numbers_in, writes_in}

abbrev pub Items : Type 0
Items = List (Cell × Name)

abbrev pub Rise : Items → Type 0
Rise es = IsStrictlySortedBy cell_cmp (keys_of es)

and_both : (a b : Bool) → (a && b) ≡ true → (a ≡ true) × (b ≡ true)
and_both true b e = (refl, e)
and_both false b e = cc e

or_none : (a b : Bool) → (a || b) ≡ false → (a ≡ false) × (b ≡ false)
or_none true b e = cc e
or_none false b e = (refl, e)

not_true : (b : Bool) → not b ≡ true → b ≡ false
not_true true e = cc e
not_true false e = refl

-- ---- what is found in a list by cell

-- the cell is that of the first pair, or is found behind it
at_first : (c : Cell) (e : Cell × Name) → is_eq (cell_cmp c e.0) ≡ true → c ≡ e.0
at_first c e tie = cell_cmp-IsAntisymmetric c e.0 (equal (cell_cmp c e.0) tie)

found_first : (e : Cell × Name) (es : Items) → finmap.find cell_cmp e.0 (e ∷ es) ≡ Some e.1
found_first e es = ap (λ b. cond b (Some e.1) (finmap.find cell_cmp e.0 es)) (ap is_eq (tied_itself cell_cmp_total e.0))

none_behind : (e : Cell × Name) (es : Items) (c : Cell) → Rise (e ∷ es) → is_eq (cell_cmp c e.0) ≡ true → finmap.find cell_cmp c es ≡ None
none_behind e es c rise tie = at_key cell_cmp_total cell_cmp-IsAntisymmetric c e.0 es (sorted_head cell_cmp e.0 (keys_of es) rise) tie

found_later : (e : Cell × Name) (es : Items) (c : Cell) (v : Name) → Rise (e ∷ es) → finmap.find cell_cmp c es ≡ Some v → finmap.find cell_cmp c (e ∷ es) ≡ Some v
found_later e es c v rise is =
    elim (is_eq (cell_cmp c e.0)) as (λ t. is_eq (cell_cmp c e.0) ≡ t → cond t (Some e.1) (finmap.find cell_cmp c es) ≡ Some v) [
      | true ↦ λ tie. cc (sym (none_behind e es c rise tie) ∙ is)
      | false ↦ λ other. is
    ] refl

-- ---- tests of each pair

pub fits_at : (test : Cell → Name → Bool) (es : Items) (c : Cell) (v : Name) → list_all (λ e. test e.0 e.1) es ≡ true → finmap.find cell_cmp c es ≡ Some v → test c v ≡ true
fits_at test [] c v all is = cc is
fits_at test (e ∷ es) c v all is =
    let both = and_both (test e.0 e.1) (list_all (λ e. test e.0 e.1) es) all in
    elim (is_eq (cell_cmp c e.0)) as (λ t. is_eq (cell_cmp c e.0) ≡ t → cond t (Some e.1) (finmap.find cell_cmp c es) ≡ Some v → test c v ≡ true) [
      | true ↦ λ tie h.
          let at = at_first c e tie in
          let same : v ≡ e.1 = cc h in
          (λ i. test (at i) (same i)) ∙ both.0
      | false ↦ λ other h. fits_at test es c v both.1 h
    ] refl is

pub all_fit-from : (test : Cell → Name → Bool) (es : Items) → Rise es → ((c : Cell) (v : Name) → finmap.find cell_cmp c es ≡ Some v → test c v ≡ true)
    → list_all (λ e. test e.0 e.1) es ≡ true
all_fit-from test [] rise each = refl
all_fit-from test (e ∷ es) rise each =
    ap (λ b. b && list_all (λ e. test e.0 e.1) es) (each e.0 e.1 (found_first e es))
    ∙ all_fit-from test es (sorted_tail cell_cmp e.0 (keys_of es) rise) (λ c v is. each c v (found_later e es c v rise is))

-- ---- what was uploaded

all_known : (uploads : Contents) (files : Paths Digest) → list_all (λ f. finmap.contains_key uploads f.1) files ≡ true → AllByRecursion (λ f. IsKnown uploads f.1) files
all_known uploads [] e = tt
all_known uploads (f ∷ files) e =
    let both = and_both (finmap.contains_key uploads f.1) (list_all (λ f. finmap.contains_key uploads f.1) files) e in
    (both.0, all_known uploads files both.1)

known_all : (uploads : Contents) (files : Paths Digest) → AllByRecursion (λ f. IsKnown uploads f.1) files → list_all (λ f. finmap.contains_key uploads f.1) files ≡ true
known_all uploads [] h = refl
known_all uploads (f ∷ files) h = ap (λ b. b && list_all (λ f. finmap.contains_key uploads f.1) files) h.0 ∙ known_all uploads files h.1

known_from : (uploads : Contents) (v : Name) → has_known uploads v ≡ true → HasKnown uploads v
known_from uploads (name.Live digest) e = e
known_from uploads (name.Kept files) e = all_known uploads files e
known_from uploads (name.Alias n) e = tt
known_from uploads (name.Draft draft) e = tt

pub known_to : (uploads : Contents) (v : Name) → HasKnown uploads v → has_known uploads v ≡ true
known_to uploads (name.Live digest) h = h
known_to uploads (name.Kept files) h = known_all uploads files h
known_to uploads (name.Alias n) h = refl
known_to uploads (name.Draft draft) h = refl

-- ---- numbers that stand once

-- the numbers that were seen after this one
abbrev after : Option ℕ → List ℕ → List ℕ
after o seen = option_to_list o ++ seen

-- the first number isn't listed before
first_unlisted : (seen : List ℕ) (o : Option ℕ) (ns : List ℕ) → all_once seen (option_to_list o ++ ns) ≡ true → (n : ℕ) → o ≡ Some n → is_listed seen n ≡ false
first_unlisted seen None ns all n e = cc e
first_unlisted seen (Some m) ns all n e =
    let same : m ≡ n = cc e in
    ap (is_listed seen) (sym same) ∙ not_true (is_listed seen m) (and_both (not (is_listed seen m)) (all_once (m ∷ seen) ns) all).0

-- it is listed afterwards
first_listed : (seen : List ℕ) (o : Option ℕ) (n : ℕ) → o ≡ Some n → is_listed (after o seen) n ≡ true
first_listed seen None n e = cc e
first_listed seen (Some m) n e =
    let same : m ≡ n = cc e in
    ap (λ (k : ℕ). is_at (nat_cmp m) k || is_listed seen k) (sym same) ∙ ap (λ b. b || is_listed seen m) (ap is_eq (tied_itself nat_cmp_total m))

rest_once : (seen : List ℕ) (o : Option ℕ) (ns : List ℕ) → all_once seen (option_to_list o ++ ns) ≡ true → all_once (after o seen) ns ≡ true
rest_once seen None ns all = all
rest_once seen (Some m) ns all = (and_both (not (is_listed seen m)) (all_once (m ∷ seen) ns) all).1

-- what isn't listed afterwards wasn't before
unlisted_before : (seen : List ℕ) (o : Option ℕ) (n : ℕ) → is_listed (after o seen) n ≡ false → is_listed seen n ≡ false
unlisted_before seen None n h = h
unlisted_before seen (Some m) n h = (or_none (is_at (nat_cmp m) n) (is_listed seen n) h).1

-- another number that isn't listed isn't afterwards
unlisted_after : (seen : List ℕ) (o : Option ℕ) (n : ℕ) → (o ≡ Some n → ⊥) → is_listed seen n ≡ false → is_listed (after o seen) n ≡ false
unlisted_after seen None n other h = h
unlisted_after seen (Some m) n other h =
    elim (is_at (nat_cmp m) n) as (λ t. is_at (nat_cmp m) n ≡ t → (t || is_listed seen n) ≡ false) [
      | true ↦ λ tie. absurd (other (ap Some (nat_cmp-IsAntisymmetric m n (equal (nat_cmp m n) tie))))
      | false ↦ λ differs. h
    ] refl

all_with_first : (seen : List ℕ) (o : Option ℕ) (ns : List ℕ) → ((n : ℕ) → o ≡ Some n → is_listed seen n ≡ false) → all_once (after o seen) ns ≡ true
    → all_once seen (option_to_list o ++ ns) ≡ true
all_with_first seen None ns new all = all
all_with_first seen (Some m) ns new all = ap (λ b. not b && all_once (m ∷ seen) ns) (new m refl) ∙ all

unseen : (seen : List ℕ) (es : Items) → all_once seen (numbers_in es) ≡ true → (c : Cell) (v : Name) (n : ℕ) → finmap.find cell_cmp c es ≡ Some v → deploy_of c ≡ Some n
    → is_listed seen n ≡ false
unseen seen [] all c v n is of = cc is
unseen seen (e ∷ es) all c v n is of =
    elim (is_eq (cell_cmp c e.0)) as (λ t. is_eq (cell_cmp c e.0) ≡ t → cond t (Some e.1) (finmap.find cell_cmp c es) ≡ Some v → is_listed seen n ≡ false) [
      | true ↦ λ tie h. first_unlisted seen (deploy_of e.0) (numbers_in es) all n (sym (ap deploy_of (at_first c e tie)) ∙ of)
      | false ↦ λ other h.
          unlisted_before seen (deploy_of e.0) n
          (unseen (after (deploy_of e.0) seen) es (rest_once seen (deploy_of e.0) (numbers_in es) all) c v n h of)
    ] refl is

once-sound : (seen : List ℕ) (es : Items) → all_once seen (numbers_in es) ≡ true → (c d : Cell) (v w : Name) (n : ℕ) → finmap.find cell_cmp c es ≡ Some v
    → finmap.find cell_cmp d es ≡ Some w → deploy_of c ≡ Some n → deploy_of d ≡ Some n → c ≡ d
once-sound seen [] all c d v w n is_c is_d of_c of_d = cc is_c
once-sound seen (e ∷ es) all c d v w n is_c is_d of_c of_d =
    let more = after (deploy_of e.0) seen in
    let rest = rest_once seen (deploy_of e.0) (numbers_in es) all in
    elim (is_eq (cell_cmp c e.0)) as (λ t. is_eq (cell_cmp c e.0) ≡ t → cond t (Some e.1) (finmap.find cell_cmp c es) ≡ Some v → c ≡ d) [
      | true ↦ λ tie_c h. elim (is_eq (cell_cmp d e.0)) as (λ t. is_eq (cell_cmp d e.0) ≡ t → cond t (Some e.1) (finmap.find cell_cmp d es) ≡ Some w → c ≡ d) [
        | true ↦ λ tie_d k. at_first c e tie_c ∙ sym (at_first d e tie_d)
        | false ↦ λ other k. cc (sym (first_listed seen (deploy_of e.0) n (sym (ap deploy_of (at_first c e tie_c)) ∙ of_c)) ∙ unseen more es rest d w n k of_d)
      ] refl is_d
      | false ↦ λ other_c h. elim (is_eq (cell_cmp d e.0)) as (λ t. is_eq (cell_cmp d e.0) ≡ t → cond t (Some e.1) (finmap.find cell_cmp d es) ≡ Some w → c ≡ d) [
        | true ↦ λ tie_d k. cc (sym (first_listed seen (deploy_of e.0) n (sym (ap deploy_of (at_first d e tie_d)) ∙ of_d)) ∙ unseen more es rest c v n h of_c)
        | false ↦ λ other k. once-sound more es rest c d v w n h k of_c of_d
      ] refl is_d
    ] refl is_c

abbrev Once : Items → Type 0
Once es = (c d : Cell) (v w : Name) (n : ℕ) → finmap.find cell_cmp c es ≡ Some v → finmap.find cell_cmp d es ≡ Some w → deploy_of c ≡ Some n → deploy_of d ≡ Some n → c ≡ d

abbrev Unseen : List ℕ → Items → Type 0
Unseen seen es = (c : Cell) (v : Name) (n : ℕ) → finmap.find cell_cmp c es ≡ Some v → deploy_of c ≡ Some n → is_listed seen n ≡ false

once-complete : (seen : List ℕ) (es : Items) → Rise es → Once es → Unseen seen es → all_once seen (numbers_in es) ≡ true
once-complete seen [] rise once new = refl
once-complete seen (e ∷ es) rise once new =
    let later : (c : Cell) (v : Name) → finmap.find cell_cmp c es ≡ Some v → finmap.find cell_cmp c (e ∷ es) ≡ Some v = λ c v is. found_later e es c v rise is in
    all_with_first seen (deploy_of e.0) (numbers_in es) (λ n of. new e.0 e.1 n (found_first e es) of)
    (once-complete (after (deploy_of e.0) seen) es (sorted_tail cell_cmp e.0 (keys_of es) rise)
    (λ c d v w n is_c is_d. once c d v w n (later c v is_c) (later d w is_d))
    (λ c v n is of. unlisted_after seen (deploy_of e.0) n (not_first c v n is of) (new c v n (later c v is) of)))
  where
    -- a number that comes again behind the first is another
    not_first : (c : Cell) (v : Name) (n : ℕ) → finmap.find cell_cmp c es ≡ Some v → deploy_of c ≡ Some n → deploy_of e.0 ≡ Some n → ⊥
    not_first c v n is of at =
        let here : c ≡ e.0 = once c e.0 v e.1 n (found_later e es c v rise is) (found_first e es) of at in
        cc (sym (none_behind e es c rise (ap (λ d. is_eq (cell_cmp d e.0)) here ∙ ap is_eq (tied_itself cell_cmp_total e.0))) ∙ is)

-- ---- the files of a deploy, by path

paths_kept : (uploads : Contents) (files : Paths Digest)
    → map {A = List ℕ × List ℕ} {B = List ℕ} (λ e. e.0) (map {A = List ℕ × Digest} {B = List ℕ × List ℕ} (λ f. (f.0, file_of uploads f.1)) files)
    ≡ map {A = List ℕ × Digest} {B = List ℕ} (λ e. e.0) files
paths_kept uploads [] = refl
paths_kept uploads (f ∷ files) = ap (λ paths. f.0 ∷ paths) (paths_kept uploads files)

-- after the last of the files, those that were put are by path as they are
pub all_by_path : (uploads : Contents) (files entries : Paths Digest) (tree : Paths (List ℕ)) (k : ℕ) → entries ≡ files → IsByPath files → length entries ≤ k
    → tree ≡ map (λ f. (f.0, file_of uploads f.1)) (take k entries) → IsByPath tree
all_by_path uploads files entries tree k same sorted all is =
    let put = λ (fs : Paths Digest). map {A = List ℕ × Digest} {B = List ℕ × List ℕ} (λ f. (f.0, file_of uploads f.1)) fs in
    let P : List (List ℕ) → Type 0 = IsStrictlySortedBy (slice_cmp nat_cmp) in
    let whole : tree ≡ put files = is ∙ ap put (take_all k entries all) ∙ ap put same in
    subst P (sym (ap (λ (t : Paths (List ℕ)). map (λ e. e.0) t) whole ∙ paths_kept uploads files)) sorted

-- ---- what may be a base

module _ (uploads : Contents) (base : ℕ) (names : Names) where
  es : Items
  es = finmap.entries names

  rises : Rise (finmap.entries names)
  rises = sorted_from_test cell_cmp (finmap.entries names) (finmap.entries_sorted names)

  find_of : (c : Cell) (v : Name) → finmap.get names c ≡ Some v → finmap.find cell_cmp c (finmap.entries names) ≡ Some v
  find_of c v is = sym (finmap.get-entries names c) ∙ is

  get_of : (c : Cell) (v : Name) → finmap.find cell_cmp c (finmap.entries names) ≡ Some v → finmap.get names c ≡ Some v
  get_of c v is = finmap.get-entries names c ∙ is

  parts : (c : Cell) (v : Name) → fits uploads base names c v ≡ true → (is_numbered base (deploy_of c) ≡ true) × ((has_known uploads v ≡ true) × (is_named names c v ≡ true))
  parts c v e =
      let first = and_both (is_numbered base (deploy_of c)) (has_known uploads v && is_named names c v) e in
      (first.0, and_both (has_known uploads v) (is_named names c v) first.1)

  pub base-from : ((c : Cell) (v : Name) → finmap.get names c ≡ Some v → IsLawful c v) → list_all (λ e. fits uploads base names e.0 e.1) (finmap.entries names) ≡ true
      → all_once [] (numbers_in (finmap.entries names)) ≡ true → IsBase uploads base names
  base-from lawful all once =
      let each : (c : Cell) (v : Name) → finmap.get names c ≡ Some v → (is_numbered base (deploy_of c) ≡ true) × ((has_known uploads v ≡ true) × (is_named names c v ≡ true)) =
      λ c v is. parts c v (fits_at (fits uploads base names) (finmap.entries names) c v all (find_of c v is)) in
      record {
        of_kind = λ c v is. (lawful c v is).0;
        named = λ site alias n is. (each (cell.Alias site alias) (name.Alias n) is).1.1;
        within = λ c v n is of. ((lawful c v is).1 n of, leb-true n base (ap (is_numbered base) (sym of) ∙ (each c v is).0));
        once = λ c d v w n is_c is_d of_c of_d. once-sound [] (finmap.entries names) once c d v w n (find_of c v is_c) (find_of d w is_d) of_c of_d;
        known = λ c v is. known_from uploads v (each c v is).1.0;
      }

  numbered_to : (o : Option ℕ) → ((n : ℕ) → o ≡ Some n → n ≤ base) → is_numbered base o ≡ true
  numbered_to None within = refl
  numbered_to (Some n) within = le-leb n base (within n refl)

  named_to : (c : Cell) (v : Name) → IsBase uploads base names → finmap.get names c ≡ Some v → is_named names c v ≡ true
  named_to (cell.Alias site alias) (name.Alias n) is there = is.named site alias n there
  named_to (cell.Alias site alias) (name.Live digest) is there = refl
  named_to (cell.Alias site alias) (name.Kept files) is there = refl
  named_to (cell.Alias site alias) (name.Draft draft) is there = refl
  named_to (cell.Live site path) v is there = refl
  named_to (cell.Kept site k) v is there = refl
  named_to (cell.Draft site k) v is there = refl

  pub fits-base : IsBase uploads base names → list_all (λ e. fits uploads base names e.0 e.1) (finmap.entries names) ≡ true
  fits-base is = all_fit-from (fits uploads base names) (finmap.entries names) rises (λ c v found.
      let there = get_of c v found in
      ap (λ b. b && (has_known uploads v && is_named names c v)) (numbered_to (deploy_of c) (λ n of. (is.within c v n there of).1))
      ∙ ap (λ b. b && is_named names c v) (known_to uploads v (is.known c v there)) ∙ named_to c v is there)

  pub once-base : IsBase uploads base names → all_once [] (numbers_in (finmap.entries names)) ≡ true
  once-base is = once-complete [] (finmap.entries names) rises
      (λ c d v w n is_c is_d of_c of_d. is.once c d v w n (get_of c v is_c) (get_of d w is_d) of_c of_d) (λ c v n found of. refl)

  pub known-base : IsBase uploads base names → list_all (λ e. has_known uploads e.1) (finmap.entries names) ≡ true
  known-base is = all_fit-from (λ c v. has_known uploads v) (finmap.entries names) rises (λ c v found. known_to uploads v (is.known c v (get_of c v found)))

  -- ---- what is written

  keys_written : (es : Items) → keys_of (writes_in uploads es) ≡ keys_of es
  keys_written [] = refl
  keys_written (e ∷ es) = ap (λ ks. e.0 ∷ ks) (keys_written es)

  unwrapped : (o : Option Name) → unwrap_or (option_map (λ v. Some (value_of uploads v)) o) None ≡ option_map (value_of uploads) o
  unwrapped None = refl
  unwrapped (Some v) = refl

  pub resolved-written : with_cells finmap.empty (writes_in uploads (finmap.entries names)) ≡ resolved uploads names
  resolved-written =
      let cells = writes_in uploads (finmap.entries names) in
      let P : List Cell → Type 0 = IsStrictlySortedBy cell_cmp in
      finmap.same_map cell_cmp_total cell_cmp-IsAntisymmetric _ _ (λ q.
      get-with_cells finmap.empty cells q (subst P (sym (keys_written (finmap.entries names))) rises)
      ∙ ap (unwrap_or (finmap.find cell_cmp q cells)) (finmap.get-empty cell_cmp q)
      ∙ ap (λ (o : Option (Option Value)). unwrap_or o None) (find-mapped (λ v. Some (value_of uploads v)) (finmap.entries names) q)
      ∙ unwrapped (finmap.find cell_cmp q (finmap.entries names))
      ∙ ap (option_map (value_of uploads)) (sym (finmap.get-entries names q)) ∙ sym (get-resolved uploads names q))

  kinds_in : (items : List Change) (es : Items) → writes After items ≡ writes_in uploads es → AllByRecursion (λ (e : Cell × Name). IsTrue (is_of_kind e.0 e.1)) es
      → AllByRecursion (λ (change : Change). IsTrue (may_stand change.cell (on_side After change))) items
  kinds_in [] es is kinds = tt
  kinds_in (x ∷ items) [] is kinds = cc is
  kinds_in (x ∷ items) (e ∷ es) is kinds =
      let head : (x.cell, on_side After x) ≡ (e.0, Some (value_of uploads e.1)) = cc is in
      let tail : writes After items ≡ writes_in uploads es = cc is in
      let P : Cell × Option Value → Type 0 = λ p. IsTrue (may_stand p.0 p.1) in
      (subst P (sym head) (kind_of_value uploads e.0 e.1 kinds.0), kinds_in items es tail kinds.1)

  all_kinds : (es : Items) → Rise es → ((c : Cell) (v : Name) → finmap.find cell_cmp c es ≡ Some v → IsTrue (is_of_kind c v))
      → AllByRecursion (λ (e : Cell × Name). IsTrue (is_of_kind e.0 e.1)) es
  all_kinds [] rise each = tt
  all_kinds (e ∷ es) rise each =
      (each e.0 e.1 (found_first e es), all_kinds es (sorted_tail cell_cmp e.0 (keys_of es) rise) (λ c v is. each c v (found_later e es c v rise is)))

  pub kinds-written : (items : List Change) → writes After items ≡ writes_in uploads (finmap.entries names) → IsBase uploads base names
      → AllByRecursion (λ (change : Change). IsTrue (may_stand change.cell (on_side After change))) items
  kinds-written items is base = kinds_in items (finmap.entries names) is (all_kinds (finmap.entries names) rises (λ c v found. base.of_kind c v (get_of c v found)))

  pub aliases-written : (items : List Change) → writes After items ≡ writes_in uploads (finmap.entries names) → IsBase uploads base names
      → AliasesNamed (with_cells finmap.empty (writes After items))
  aliases-written items is may =
      subst AliasesNamed (sym (ap (with_cells finmap.empty) is ∙ resolved-written)) (base-named uploads base names may)
