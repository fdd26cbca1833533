-- The first alias of a site that names a deploy is the least: its cells strictly rise.
use Rattle.std.proofs.Common.{◌≡◌, ◌⊎◌, inl, inr, ⊎_elim, ℕ, suc, Bool, true, false, cond, ◌&&◌, ◌==◌, T, List, ◌∷◌, [], get_or, Option, Some, None, Ordering, Less, Equal, Greater, is_eq, refl, sym, ap, subst, ◌∙◌, arith, eq-eqb}
use Rattle.std.specs.FinMap as map
use Rattle.std.specs.FinMap.{find, is_sorted}
use Rattle.std.specs.FinMap.Entries.{where_key, find-where_key, is_sorted-where_key}
use Rattle.std.specs.List.{find as first_item}
use Rattle.std.specs.List.Sorted.{IsStrictlySortedBy}
use Rattle.std.specs.Map.{keys_of}
use Rattle.std.specs.Option.{option_and_then}
use Rattle.std.specs.Ordering.{eq_by_cmp, ordering_then}
use Rattle.std.specs.Cmp.Lexicographic.{bytes_decides, nat_list_cmp_total}
use Rattle.std.proofs.lemmas.Bool.{false≢true, eqb-true}
use Rattle.std.proofs.lemmas.Cmp.{tied_itself}
use Rattle.host_names.specs.Cells.{cell_cmp}
use Rattle.host_names.specs.CellOrder.{cell_cmp_total, cell_cmp-IsAntisymmetric}
use Rattle.host_names.specs.declared.names.AliasName.{AliasName}
use Rattle.host_names.specs.declared.names.SiteName.{SiteName}
use Rattle.host_names.specs.declared.cells.Cell.{Cell}
use Rattle.host_names.specs.declared.cells.Cell.TheVariants as cell
use Rattle.site_state.specs.Aliases.{stands_for, name_in, alias_for, IsLeastAlias}
use Rattle.site_state.specs.States.{State, as_number, alias_at, alias_entries, is_alias_of}
use Rattle.site_state.specs.declared.values.Value.{Value}
use Rattle.site_state.specs.declared.values.Value.TheVariants as value
use Rattle.persistent_maps.proofs.Entries.{key_at-less, find-absent, sorted_from_test}
use Rattle.site_state.specs.SpanOfLive.{texts}

tail_passes : (a b : Bool) → T (a && b) → T b
tail_passes true b p = p
tail_passes false b p = absurd p

-- a cell that is not above the first of some that rise is in none of the others
absent : (e : Cell × Value) (es : List (Cell × Value)) (q : Cell) (r : Ordering) → IsStrictlySortedBy cell_cmp (keys_of (e ∷ es)) → cell_cmp q e.0 ≡ r → (r ≡ Less) ⊎ (r ≡ Equal) → find cell_cmp q es ≡ None
absent e es q r sorted at low = find-absent cell_cmp q es (λ k d lt.
    let above : cell_cmp e.0 (get_or es k d).0 ≡ Less = key_at-less cell_cmp (e ∷ es) 0 (suc k) d sorted (omega arith) (omega arith) in
    ⊎_elim
    (λ less. ap is_eq (cell_cmp_total.trans q e.0 (get_or es k d).0 (at ∙ less) above))
    (λ tie. ap is_eq (cell_cmp_total.congr q e.0 (get_or es k d).0 (at ∙ tie) ∙ above))
    low)

-- names of one site are compared as texts
names : (site : SiteName) (a b : AliasName) → cell_cmp (cell.Alias site a) (cell.Alias site b) ≡ ordering_then (texts a.0 b.0) Equal
names site a b = rw (tied_itself nat_list_cmp_total site.0) refl

-- what names the deploy is its number
is_number : (m : ℕ) (v : Value) → stands_for m v ≡ true → v ≡ value.Alias m
is_number m (value.Live file) e = cc e
is_number m (value.Kept tree) e = cc e
is_number m (value.Alias n) e = ap value.Alias (eqb-true n m e)
is_number m (value.Draft draft) e = cc e

itself : (m : ℕ) → (m == m) ≡ true
itself m = eq-eqb m m refl

-- the name of the first of these aliases that names the deploy
abbrev first_alias : ℕ → List (Cell × Value) → Option AliasName
first_alias m es = option_and_then (λ e. name_in e.0) (first_item (λ e. stands_for m e.1) es)

module _ (site : SiteName) (m : ℕ) where
  at : List (Cell × Value) → AliasName → Option Value
  at es name = find cell_cmp (cell.Alias site name) es

  -- the same of entries
  IsLeastIn : List (Cell × Value) → Option AliasName → Type 0
  IsLeastIn es None = (name : AliasName) → at es name ≡ Some (value.Alias m) → ⊥
  IsLeastIn es (Some name) = (at es name ≡ Some (value.Alias m)) × ((other : AliasName) → texts other.0 name.0 ≡ Less → at es other ≡ Some (value.Alias m) → ⊥)

  -- whether this names the deploy
  stands : Option Value → Bool
  stands (Some v) = stands_for m v
  stands None = false

  -- the first entry names the deploy
  by_first : (name : AliasName) (v : Value) (es : List (Cell × Value)) → IsStrictlySortedBy cell_cmp (keys_of ((cell.Alias site name, v) ∷ es)) → stands_for m v ≡ true
      → IsLeastIn ((cell.Alias site name, v) ∷ es) (Some name)
  unfolding at IsLeastIn
  by_first name v es sorted here = (
    ap (λ r. cond (is_eq r) (Some v) (find cell_cmp (cell.Alias site name) es)) (tied_itself cell_cmp_total (cell.Alias site name)) ∙ ap Some (is_number m v here),
    λ other less found.
        let below : cell_cmp (cell.Alias site other) (cell.Alias site name) ≡ Less = names site other name ∙ ap (λ r. ordering_then r Equal) less in
        cc (sym found ∙ ap (λ r. cond (is_eq r) (Some v) (find cell_cmp (cell.Alias site other) es)) below ∙ absent (cell.Alias site name, v) es (cell.Alias site other) Less sorted below (inl refl)),
  )

  -- an entry that does not name it is passed over
  from_rest : (e : Cell × Value) (es : List (Cell × Value)) (q : Cell) → stands_for m e.1 ≡ false → find cell_cmp q (e ∷ es) ≡ Some (value.Alias m) → find cell_cmp q es ≡ Some (value.Alias m)
  unfolding stands
  from_rest e es q other = elim (eq_by_cmp cell_cmp q e.0) as (λ t. cond t (Some e.1) (find cell_cmp q es) ≡ Some (value.Alias m) → find cell_cmp q es ≡ Some (value.Alias m)) [
    | true ↦ λ h. absurd (false≢true (sym other ∙ ap stands h ∙ itself m))
    | false ↦ λ h. h
  ]

  into_whole : (e : Cell × Value) (es : List (Cell × Value)) (q : Cell) → IsStrictlySortedBy cell_cmp (keys_of (e ∷ es)) → find cell_cmp q es ≡ Some (value.Alias m) → find cell_cmp q (e ∷ es) ≡ Some (value.Alias m)
  into_whole e es q sorted h = elim (cell_cmp q e.0) as (λ r. cell_cmp q e.0 ≡ r → cond (is_eq r) (Some e.1) (find cell_cmp q es) ≡ Some (value.Alias m)) [
    | Less ↦ λ _. h
    | Equal ↦ λ tie. cc (sym h ∙ absent e es q Equal sorted tie (inr refl))
    | Greater ↦ λ _. h
  ] refl

  by_rest : (e : Cell × Value) (es : List (Cell × Value)) (r : Option AliasName) → IsStrictlySortedBy cell_cmp (keys_of (e ∷ es)) → stands_for m e.1 ≡ false → IsLeastIn es r → IsLeastIn (e ∷ es) r
  unfolding at IsLeastIn
  by_rest e es None sorted other least = λ name found. least name (from_rest e es (cell.Alias site name) other found)
  by_rest e es (Some name) sorted other least = (
    into_whole e es (cell.Alias site name) sorted least.0,
    λ lower less found. least.1 lower less (from_rest e es (cell.Alias site lower) other found),
  )

  abbrev aliases : List (Cell × Value) → List (Cell × Value)
  aliases = where_key cell_cmp (is_alias_of site)

  step : (c : Cell) (v : Value) (es : List (Cell × Value)) → is_alias_of site c ≡ true → IsStrictlySortedBy cell_cmp (keys_of ((c, v) ∷ es)) → IsLeastIn es (first_alias m es)
      → IsLeastIn ((c, v) ∷ es) (first_alias m ((c, v) ∷ es))
  step (cell.Live own path) v es is sorted least = cc is
  step (cell.Kept own n) v es is sorted least = cc is
  step (cell.Draft own n) v es is sorted least = cc is
  step (cell.Alias own name) v es is sorted least =
      let same : cell.Alias own name ≡ cell.Alias site name = λ i. cell.Alias (record { 0 = sym ((bytes_decides site.0 own.0).0 is) i }) name in
      let here : IsStrictlySortedBy cell_cmp (keys_of ((cell.Alias site name, v) ∷ es)) = subst (λ c. IsStrictlySortedBy cell_cmp (keys_of ((c, v) ∷ es))) same sorted in
      subst (λ c. IsLeastIn ((c, v) ∷ es) (first_alias m ((c, v) ∷ es))) (sym same) (
      elim (stands_for m v) as (λ t. stands_for m v ≡ t → IsLeastIn ((cell.Alias site name, v) ∷ es) (option_and_then (λ (e : Cell × Value). name_in e.0) (cond t (Some (cell.Alias site name, v)) (first_item (λ (e : Cell × Value). stands_for m e.1) es)))) [
        | true ↦ λ e. by_first name v es here e
        | false ↦ λ e. by_rest (cell.Alias site name, v) es (first_alias m es) here e least
      ] refl
      )

  in_entries : (es : List (Cell × Value)) → T (is_sorted cell_cmp es) → IsLeastIn (aliases es) (first_alias m (aliases es))
  unfolding at IsLeastIn
  in_entries [] sorted = λ name found. cc found
  in_entries (e ∷ es) sorted =
      let rest = in_entries es (tail_passes _ _ sorted) in
      let rising : T (is_sorted cell_cmp (aliases (e ∷ es))) = is_sorted-where_key cell_cmp (is_alias_of site) (e ∷ es) sorted in
      elim (is_alias_of site e.0) as (λ t. is_alias_of site e.0 ≡ t → T (is_sorted cell_cmp (cond t (e ∷ aliases es) (aliases es)))
      → IsLeastIn (cond t (e ∷ aliases es) (aliases es)) (first_alias m (cond t (e ∷ aliases es) (aliases es)))) [
        | true ↦ λ is rising. step e.0 e.1 (aliases es) is (sorted_from_test cell_cmp (e ∷ aliases es) rising) rest
        | false ↦ λ _ _. rest
      ] refl rising

-- what is in the cell of an alias is found among the aliases
among : (state : State) (site : SiteName) (name : AliasName) → find cell_cmp (cell.Alias site name) (alias_entries state site) ≡ map.get state (cell.Alias site name)
among state site name =
    find-where_key cell_cmp (is_alias_of site) (cell.Alias site name) (λ c tie. ap (is_alias_of site) (sym (cell_cmp-IsAntisymmetric (cell.Alias site name) c tie))) (map.entries state)
    ∙ ap (λ t. cond t (find cell_cmp (cell.Alias site name) (map.entries state)) None) ((bytes_decides site.0 site.0).1 refl)
    ∙ sym (map.get-entries state (cell.Alias site name))

number_is : (v : Option Value) (m : ℕ) → as_number v ≡ Some m → v ≡ Some (value.Alias m)
number_is (Some (value.Alias n)) m e = cc e
number_is (Some (value.Live file)) m e = cc e
number_is (Some (value.Kept tree)) m e = cc e
number_is (Some (value.Draft draft)) m e = cc e
number_is None m e = cc e

pub least_alias : (state : State) (site : SiteName) (m : ℕ) → IsLeastAlias state site m (alias_for state site m)
unfolding at IsLeastIn
least_alias state site m = in_state (alias_for state site m) (in_entries site m (map.entries state) (map.entries_sorted state))
  where
    down : (name : AliasName) → alias_at state site name ≡ Some m → find cell_cmp (cell.Alias site name) (alias_entries state site) ≡ Some (value.Alias m)
    down name e = among state site name ∙ number_is (map.get state (cell.Alias site name)) m e

    in_state : (r : Option AliasName) → IsLeastIn site m (alias_entries state site) r → IsLeastAlias state site m r
    in_state None least = λ name e. least name (down name e)
    in_state (Some name) least = (
      ap as_number (sym (among state site name) ∙ least.0),
      λ other less e. least.1 other less (down other e),
    )
