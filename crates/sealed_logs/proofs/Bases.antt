-- Bases and the states that they stand for.
use Rattle.std.proofs.Common.{◌≡◌, ℕ, ◌≤◌, true, is_some, List, [], ◌∷◌, map, Option, Some, None, option_map, IsTrue, refl, sym, ap, subst, ◌∙◌}
use Rattle.std.specs.FinMap as finmap
use Rattle.std.specs.List.{AllByRecursion}
use Rattle.byte_view.specs.Contents.{AreDigested, Contents}
use Rattle.host_names.specs.Digests.{digest_of}
use Rattle.host_names.specs.declared.cells.Cell.{Cell}
use Rattle.host_names.specs.declared.cells.Cell.TheVariants as cell
use Rattle.host_names.specs.declared.digests.Digest.{Digest}
use Rattle.site_state.specs.Files.{Paths}
use Rattle.site_state.specs.States.{State, as_number, as_tree, may_stand}
use Rattle.site_state.specs.declared.values.Value.{Value}
use Rattle.site_state.specs.declared.values.Value.TheVariants as value
use Rattle.site_change.specs.Uploaded.{HoldsUploaded, IsUploadedTree}
use Rattle.site_change.proofs.Deploys.{IsThere}
use Rattle.change_log.specs.Bases.{HasKnown, IsBase, IsKnown, Names, deploy_of, is_of_kind, name_of, names_of, resolved, value_of}
use Rattle.change_log.specs.declared.names.Name.{Name}
use Rattle.change_log.specs.declared.names.Name.TheVariants as name
use Rattle.change_log.proofs.Resolving.{base-named, get-mapped, get-resolved, resolved-of_kind, resolved-uploaded}
use Rattle.sealed_logs.proofs.States.{IsBaseState}

-- ---- what a base stands for

some_of : (uploads : Contents) (o : Option Name) → is_some (option_map (value_of uploads) o) ≡ true → (v : Name) × (o ≡ Some v)
some_of uploads None e = cc e
some_of uploads (Some v) e = (v, refl)

-- what is there was named
named_there : (uploads : Contents) (names : Names) (c : Cell) → IsThere (resolved uploads names) c → (v : Name) × (finmap.get names c ≡ Some v)
named_there uploads names c there = some_of uploads (finmap.get names c) (sym (ap is_some (get-resolved uploads names c)) ∙ there)

pub state-of-base : (uploads : Contents) (base : ℕ) (names : Names) → AreDigested uploads → IsBase uploads base names → IsBaseState uploads base (resolved uploads names)
state-of-base uploads base names digested is = record {
  of_kind = resolved-of_kind uploads names is.of_kind;
  named = base-named uploads base names is;
  within = λ c n of there. let v = named_there uploads names c there in is.within c v.0 n v.1 of;
  once = λ c d n of_c of_d there_c there_d.
      let v = named_there uploads names c there_c in
      let w = named_there uploads names d there_d in
      is.once c d v.0 w.0 n v.1 w.1 of_c of_d;
  uploaded = resolved-uploaded uploads digested names is.known;
}

-- ---- the names of a state that may be one

get-names : (state : State) (c : Cell) → finmap.get (names_of state) c ≡ option_map name_of (finmap.get state c)
get-names state c = get-mapped name_of state c

-- a name is that of a value
record IsNameOf (o : Option Value) (v : Name) : Type 0 where
  its : Value
  there : o ≡ Some its
  is : name_of its ≡ v

value_named : (o : Option Value) (v : Name) → option_map name_of o ≡ Some v → IsNameOf o v
value_named None v e = cc e
value_named (Some x) v e = record { its = x; there = refl; is = cc e }

named_value : (state : State) (c : Cell) (v : Name) → finmap.get (names_of state) c ≡ Some v → IsNameOf (finmap.get state c) v
named_value state c v is = value_named (finmap.get state c) v (sym (get-names state c) ∙ is)

kind_of_name : (c : Cell) (x : Value) → IsTrue (may_stand c (Some x)) → IsTrue (is_of_kind c (name_of x))
kind_of_name (cell.Live site path) (value.Live file) e = refl
kind_of_name (cell.Live site path) (value.Kept tree) e = cc e
kind_of_name (cell.Live site path) (value.Alias n) e = cc e
kind_of_name (cell.Live site path) (value.Draft draft) e = cc e
kind_of_name (cell.Kept site k) (value.Live file) e = cc e
kind_of_name (cell.Kept site k) (value.Kept tree) e = refl
kind_of_name (cell.Kept site k) (value.Alias n) e = cc e
kind_of_name (cell.Kept site k) (value.Draft draft) e = cc e
kind_of_name (cell.Alias site alias) (value.Live file) e = cc e
kind_of_name (cell.Alias site alias) (value.Kept tree) e = cc e
kind_of_name (cell.Alias site alias) (value.Alias n) e = refl
kind_of_name (cell.Alias site alias) (value.Draft draft) e = cc e
kind_of_name (cell.Draft site k) (value.Live file) e = cc e
kind_of_name (cell.Draft site k) (value.Kept tree) e = cc e
kind_of_name (cell.Draft site k) (value.Alias n) e = cc e
kind_of_name (cell.Draft site k) (value.Draft draft) e = refl

alias_value : (o : Option Value) (n : ℕ) → option_map name_of o ≡ Some (name.Alias n) → as_number o ≡ Some n
alias_value None n e = cc e
alias_value (Some (value.Live file)) n e = cc e
alias_value (Some (value.Kept tree)) n e = cc e
alias_value (Some (value.Alias m)) n e = let same : m ≡ n = cc e in ap Some same
alias_value (Some (value.Draft draft)) n e = cc e

some_tree : (o : Option Value) → is_some (as_tree o) ≡ true → is_some (option_map name_of o) ≡ true
some_tree None e = cc e
some_tree (Some x) e = refl

tree_known : (uploads : Contents) (tree : Paths (List ℕ)) → IsUploadedTree uploads tree
    → AllByRecursion (λ f. IsKnown uploads f.1) (map {A = List ℕ × List ℕ} {B = List ℕ × Digest} (λ f. (f.0, digest_of f.1)) tree)
tree_known uploads [] all = tt
tree_known uploads (f ∷ tree) all = (ap is_some all.0, tree_known uploads tree all.1)

value_known : (uploads : Contents) (x : Value) → HoldsUploaded uploads (Some x) → HasKnown uploads (name_of x)
value_known uploads (value.Live file) h = ap is_some h
value_known uploads (value.Kept tree) h = tree_known uploads tree h
value_known uploads (value.Alias n) h = tt
value_known uploads (value.Draft draft) h = tt

pub base-of-state : (uploads : Contents) (base : ℕ) (state : State) → IsBaseState uploads base state → IsBase uploads base (names_of state)
base-of-state uploads base state is = record {
  of_kind = λ c v named.
      let x = named_value state c v named in
      let P : Name → Type 0 = λ v. IsTrue (is_of_kind c v) in
      subst P x.is (kind_of_name c x.its (ap (may_stand c) (sym x.there) ∙ is.of_kind c));
  named = λ site alias n there.
      ap is_some (get-names state (cell.Kept site n))
      ∙ some_tree (finmap.get state (cell.Kept site n)) (is.named site alias n (alias_value (finmap.get state (cell.Alias site alias)) n (sym (get-names state (cell.Alias site alias)) ∙ there)));
  within = λ c v n named of. is.within c n of (ap is_some (named_value state c v named).there);
  once = λ c d v w n named_c named_d of_c of_d.
      is.once c d n of_c of_d (ap is_some (named_value state c v named_c).there) (ap is_some (named_value state d w named_d).there);
  known = λ c v named.
      let x = named_value state c v named in
      subst (HasKnown uploads) x.is (value_known uploads x.its (subst (HoldsUploaded uploads) x.there (is.uploaded c)));
}
