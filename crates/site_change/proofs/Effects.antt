-- What is in each cell after a change.
use Rattle.std.proofs.Common.{◌≡◌, ℕ, true, false, not, cond, List, [], ◌∷◌, Option, Some, None, option_map, refl, sym, ap, ◌∙◌}
use Rattle.std.specs.FinMap as map
use Rattle.std.specs.Ordering.{is_eq, nat_cmp, ordering_then}
use Rattle.std.specs.Cmp.Lexicographic.{slice_cmp}
use Rattle.std.specs.Str.{bytes_eq}
use Rattle.std.specs.declared.cmp.Ordering.{Ordering}
use Rattle.std.specs.declared.cmp.Ordering.TheVariants.{Less, Equal, Greater}
use Rattle.std.proofs.lemmas.Cmp.{eq_by_cmp_equiv, tied_itself, nat_list_cmp_total}
use Rattle.std.proofs.lemmas.Slice.Eq.{bytes_eq-Decides}
use Rattle.host_names.specs.Cells.{text_of}
use Rattle.host_names.specs.CellOrder.{cell_cmp_total, cell_cmp-IsAntisymmetric}
use Rattle.host_names.specs.declared.names.SiteName.{SiteName}
use Rattle.host_names.specs.declared.cells.Cell.{Cell}
use Rattle.host_names.specs.declared.cells.Cell.TheVariants as cell
use Rattle.site_state.specs.Files.{Paths, at_path}
use Rattle.site_state.specs.States.{State, with_cell, is_live_of}
use Rattle.site_state.specs.declared.values.Value.{Value}
use Rattle.site_state.specs.declared.values.Value.TheVariants as value
use Rattle.site_change.specs.Changes.{same_cell, without_live, with_live, with_served, with_published}

is_eq-true : (o : Ordering) → is_eq o ≡ true → o ≡ Equal
is_eq-true Less e = cc e
is_eq-true Equal e = refl
is_eq-true Greater e = cc e

-- cells that test alike are one, and each tests like itself
pub one_cell : (a b : Cell) → same_cell a b ≡ true → a ≡ b
one_cell a b e = cell_cmp-IsAntisymmetric a b (is_eq-true _ e)

pub same_cell-itself : (c : Cell) → same_cell c c ≡ true
same_cell-itself c = (eq_by_cmp_equiv cell_cmp_total).refl c

-- ---- one cell written

pub get-with_cell : (state : State) (at : Cell) (v : Option Value) (c : Cell) → map.get (with_cell state at v) c ≡ cond (same_cell c at) v (map.get state c)
get-with_cell state at None c = map.get-remove cell_cmp_total state at c
get-with_cell state at (Some v) c = map.get-insert cell_cmp_total state at v c

pub get-with_two : (state : State) (a b : Cell) (v w : Option Value) (c : Cell)
    → map.get (with_cell (with_cell state a v) b w) c ≡ cond (same_cell c b) w (cond (same_cell c a) v (map.get state c))
get-with_two state a b v w c = get-with_cell (with_cell state a v) b w c ∙ ap (cond (same_cell c b) w) (get-with_cell state a v c)

-- ---- the live cells of a site

pub bytes_eq-itself : (bytes : List ℕ) → bytes_eq bytes bytes ≡ true
bytes_eq-itself bytes = (bytes_eq-Decides bytes bytes).1 refl

-- a live cell of the site is a path at that site
pub live_of : (site : SiteName) (c : Cell) → is_live_of site c ≡ true → c ≡ cell.Live site (text_of c)
live_of site (cell.Live other path) e = λ i. cell.Live (record { 0 = sym ((bytes_eq-Decides site.0 other.0).0 e) i }) path
live_of site (cell.Kept other n) e = cc e
live_of site (cell.Alias other name) e = cc e
live_of site (cell.Draft other n) e = cc e

-- cells at two paths of a site are compared by the paths
pub same_paths : (site : SiteName) (p q : List ℕ) → same_cell (cell.Live site p) (cell.Live site q) ≡ is_eq (slice_cmp nat_cmp p q)
same_paths site p q =
    rw (tied_itself nat_list_cmp_total site.0)
    (elim (slice_cmp nat_cmp p q) as (λ r. is_eq (ordering_then r Equal) ≡ is_eq r) [ Less ↦ refl | Equal ↦ refl | Greater ↦ refl ])

-- different paths of a site are different cells
pub apart_paths : (site : SiteName) (p q : List ℕ) → bytes_eq p q ≡ false → same_cell (cell.Live site p) (cell.Live site q) ≡ false
apart_paths site p q other = elim (same_cell (cell.Live site p) (cell.Live site q)) as (λ t. same_cell (cell.Live site p) (cell.Live site q) ≡ t → t ≡ false) [
  | true ↦ λ e. cc (sym other ∙ ap (bytes_eq p) (sym (ap text_of (one_cell (cell.Live site p) (cell.Live site q) e))) ∙ bytes_eq-itself p)
  | false ↦ λ e. refl
] refl

-- the first of two that is there
abbrev pub or_else : {A : Type 0} → Option A → Option A → Option A
or_else (Some x) o = Some x
or_else None o = o

pub get-with_live : (site : SiteName) (tree : Paths (List ℕ)) (state : State) (p : List ℕ)
    → map.get (with_live site tree state) (cell.Live site p) ≡ or_else (option_map value.Live (at_path tree p)) (map.get state (cell.Live site p))
get-with_live site [] state p = refl
get-with_live site (f ∷ tree) state p =
    map.get-insert cell_cmp_total (with_live site tree state) (cell.Live site f.0) (value.Live f.1) (cell.Live site p)
    ∙ ap (λ t. cond t (Some (value.Live f.1)) (map.get (with_live site tree state) (cell.Live site p))) (same_paths site p f.0)
    ∙ ap (cond (is_eq (slice_cmp nat_cmp p f.0)) (Some (value.Live f.1))) (get-with_live site tree state p)
    ∙ (elim (is_eq (slice_cmp nat_cmp p f.0)) as (λ t. cond t (Some (value.Live f.1)) (or_else (option_map value.Live (at_path tree p)) (map.get state (cell.Live site p)))
    ≡ or_else (option_map value.Live (cond t (Some f.1) (at_path tree p))) (map.get state (cell.Live site p))) [ true ↦ refl | false ↦ refl ])

-- what isn't a path of the site stays
pub get-with_live_other : (site : SiteName) (tree : Paths (List ℕ)) (state : State) (c : Cell) → is_live_of site c ≡ false
    → map.get (with_live site tree state) c ≡ map.get state c
get-with_live_other site [] state c h = refl
get-with_live_other site (f ∷ tree) state c h =
    map.get-insert cell_cmp_total (with_live site tree state) (cell.Live site f.0) (value.Live f.1) c
    ∙ elim (same_cell c (cell.Live site f.0)) as (λ t. same_cell c (cell.Live site f.0) ≡ t → cond t (Some (value.Live f.1)) (map.get (with_live site tree state) c) ≡ map.get state c) [
      | true ↦ λ e.
          let live : is_live_of site c ≡ true = rw (one_cell c (cell.Live site f.0) e) (bytes_eq-itself site.0) in
          cc (sym h ∙ live)
      | false ↦ λ e. get-with_live_other site tree state c h
    ] refl

pub get-without_live : (site : SiteName) (state : State) (c : Cell) → map.get (without_live site state) c ≡ cond (not (is_live_of site c)) (map.get state c) None
get-without_live site state c = map.get-retain_keys state (λ x. not (is_live_of site x)) c (λ x e. ap (λ y. not (is_live_of site y)) (sym (cell_cmp-IsAntisymmetric c x e)))

-- ---- the files that are served

or_else-None : {A : Type 0} (o : Option A) → or_else o None ≡ o
or_else-None (Some x) = refl
or_else-None None = refl

-- what is in a cell where the site comes to serve these files
pub get-served : (site : SiteName) (tree : Paths (List ℕ)) (state : State) (c : Cell)
    → map.get (with_served site tree state) c ≡ cond (is_live_of site c) (option_map value.Live (at_path tree (text_of c))) (map.get state c)
get-served site tree base c =
    elim (is_live_of site c) as (λ t. is_live_of site c ≡ t → map.get (with_live site tree (without_live site base)) c
    ≡ cond t (option_map value.Live (at_path tree (text_of c))) (map.get base c)) [
      | true ↦ λ e.
          let at : c ≡ cell.Live site (text_of c) = live_of site c e in
          let none : map.get (without_live site base) (cell.Live site (text_of c)) ≡ None =
          ap (map.get (without_live site base)) (sym at) ∙ get-without_live site base c ∙ ap (λ t. cond (not t) (map.get base c) None) e in
          ap (map.get (with_live site tree (without_live site base))) at ∙ get-with_live site tree (without_live site base) (text_of c)
          ∙ ap (or_else (option_map value.Live (at_path tree (text_of c)))) none ∙ or_else-None _
      | false ↦ λ e.
          get-with_live_other site tree (without_live site base) c e ∙ get-without_live site base c ∙ ap (λ t. cond (not t) (map.get base c) None) e
    ] refl

-- what is in a cell after a publish
abbrev pub published_value : SiteName → ℕ → Paths (List ℕ) → State → Cell → Option Value
published_value site m tree state c =
    cond (is_live_of site c) (option_map value.Live (at_path tree (text_of c)))
    (cond (same_cell c (cell.Draft site m)) None (cond (same_cell c (cell.Kept site m)) (Some (value.Kept tree)) (map.get state c)))

pub get-published : (site : SiteName) (m : ℕ) (tree : Paths (List ℕ)) (state : State) (c : Cell)
    → map.get (with_published site m tree state) c ≡ published_value site m tree state c
get-published site m tree state c =
    get-served site tree (with_cell (with_cell state (cell.Kept site m) (Some (value.Kept tree))) (cell.Draft site m) None) c
    ∙ ap (cond (is_live_of site c) (option_map value.Live (at_path tree (text_of c))))
    (get-with_two state (cell.Kept site m) (cell.Draft site m) (Some (value.Kept tree)) None c)
