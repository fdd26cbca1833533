-- What a command reads and writes, and that it touches it.
use Rattle.std.proofs.Common.{◌≡◌, ℕ, Bool, true, false, cond, ◌||◌, List, Option, Some, None, option_map, refl, sym, ap, ◌∙◌}
use Rattle.std.specs.FinMap as map
use Rattle.std.specs.FinMap.Entries.{find-where_key, is_sorted-where_key, same_entries}
use Rattle.byte_view.specs.Contents.{Contents}
use Rattle.host_names.specs.Cells.{cell_cmp, text_of}
use Rattle.host_names.specs.declared.names.SiteName.{SiteName}
use Rattle.host_names.specs.declared.cells.Cell.{Cell}
use Rattle.host_names.specs.declared.cells.Cell.TheVariants as cell
use Rattle.host_names.specs.CellOrder.{cell_cmp_total, cell_cmp-IsAntisymmetric}
use Rattle.site_state.specs.Files.{Paths, at_path}
use Rattle.site_state.specs.States.{State, with_cell, as_draft, draft_at, is_live_of, is_alias_of, alias_entries}
use Rattle.site_state.specs.declared.values.Draft.{Draft}
use Rattle.site_state.specs.declared.values.Value.{Value}
use Rattle.site_state.specs.declared.values.Value.TheVariants as value
use Rattle.site_change.specs.declared.commands.Command.TheVariants.{Publish}
use Rattle.site_change.specs.Changes.{same_cell, tree_of, with_patch, with_published, published, restored, is_listed, publish_touches, restore_touches, touches}
use Rattle.site_change.specs.Laws.{AgreeOn}
use Rattle.site_change.proofs.Patches.{listed_value, get-with_patch, unlisted}
use Rattle.site_change.proofs.Effects.{same_cell-itself, get-with_cell, get-served, get-published}

pub or_false : (a b : Bool) → (a || b) ≡ false → (a ≡ false) × (b ≡ false)
or_false true b e = cc e
or_false false b e = (refl, e)

-- ---- a publish, by the draft that it finds

-- what it leaves in a cell depends on what was there alone
pub publish_reads : (site : SiteName) (m : ℕ) (uploads : Contents) (state other : State) (draft : Option Draft) (c : Cell) → map.get other c ≡ map.get state c
    → map.get (published site m uploads other draft) c ≡ map.get (published site m uploads state draft) c
publish_reads site m uploads state other None c same = same
publish_reads site m uploads state other (Some draft) c same =
    let files = draft.files.1 in
    let tree = tree_of uploads files in
    elim (draft.files.0) as (λ b. map.get (cond b (with_patch site m uploads files other) (with_published site m tree other)) c
    ≡ map.get (cond b (with_patch site m uploads files state) (with_published site m tree state)) c) [
      | true ↦
          get-with_patch site uploads m files other c ∙ ap (λ v. cond (same_cell c (cell.Draft site m)) None (listed_value site uploads files c v)) same
          ∙ sym (get-with_patch site uploads m files state c)
      | false ↦
          get-published site m tree other c
          ∙ ap (λ v. cond (is_live_of site c) (option_map value.Live (at_path tree (text_of c)))
          (cond (same_cell c (cell.Draft site m)) None (cond (same_cell c (cell.Kept site m)) (Some (value.Kept tree)) v))) same
          ∙ sym (get-published site m tree state c)
    ]

pub publish_writes : (site : SiteName) (m : ℕ) (uploads : Contents) (state : State) (draft : Option Draft) (c : Cell) → same_cell c (cell.Draft site m) ≡ false
    → publish_touches site m draft c ≡ false → map.get (published site m uploads state draft) c ≡ map.get state c
publish_writes site m uploads state None c not_draft h = refl
publish_writes site m uploads state (Some draft) c not_draft h =
    let files = draft.files.1 in
    let tree = tree_of uploads files in
    elim (draft.files.0) as (λ b. cond b (is_listed site files c) (same_cell c (cell.Kept site m) || is_live_of site c) ≡ false
    → map.get (cond b (with_patch site m uploads files state) (with_published site m tree state)) c ≡ map.get state c) [
      | true ↦ λ none.
          get-with_patch site uploads m files state c ∙ ap (λ t. cond t None (listed_value site uploads files c (map.get state c))) not_draft
          ∙ unlisted site uploads files c (map.get state c) none
      | false ↦ λ others.
          let rest = or_false (same_cell c (cell.Kept site m)) (is_live_of site c) others in
          get-published site m tree state c ∙ rw (rest.1, not_draft, rest.0) refl
    ] h

-- ---- a restoring, by what it finds

pub restore_reads : (site : SiteName) (m : ℕ) (uploads : Contents) (state other : State) (kept : Option (Paths (List ℕ))) (draft : Option Draft) (c : Cell) → map.get other c ≡ map.get state c
    → map.get (restored site m uploads other kept draft) c ≡ map.get (restored site m uploads state kept draft) c
restore_reads site m uploads state other (Some tree) draft c same =
    get-served site tree other c ∙ ap (cond (is_live_of site c) (option_map value.Live (at_path tree (text_of c)))) same ∙ sym (get-served site tree state c)
restore_reads site m uploads state other None draft c same = publish_reads site m uploads state other draft c same

pub restore_writes : (site : SiteName) (m : ℕ) (uploads : Contents) (state : State) (kept : Option (Paths (List ℕ))) (draft : Option Draft) (c : Cell) → same_cell c (cell.Draft site m) ≡ false
    → restore_touches site m kept draft c ≡ false → map.get (restored site m uploads state kept draft) c ≡ map.get state c
restore_writes site m uploads state (Some tree) draft c not_draft h = get-served site tree state c ∙ rw h refl
restore_writes site m uploads state None draft c not_draft h = publish_writes site m uploads state draft c not_draft h

-- the draft is touched, so it is the same
pub same_draft : (site : SiteName) (m : ℕ) (state other : State) → AgreeOn (touches (Publish site m) 0 state) state other → draft_at other site m ≡ draft_at state site m
same_draft site m state other agree =
    let at = cell.Draft site m in
    let here : touches (Publish site m) 0 state at ≡ true = rw (same_cell-itself at) refl in
    ap as_draft (agree at here)

-- ---- one cell or two

-- what a write leaves in the cells of a test is the same where it was the same before
pub write_reads : (at : Cell) (v : Option Value) (test : Cell → Bool) (state other : State) → AgreeOn test state other → AgreeOn test (with_cell state at v) (with_cell other at v)
write_reads at v test state other agree c h =
    get-with_cell other at v c ∙ ap (cond (same_cell c at) v) (agree c h) ∙ sym (get-with_cell state at v c)

pub write_leaves : (at : Cell) (v : Option Value) (state : State) (c : Cell) → same_cell c at ≡ false → map.get (with_cell state at v) c ≡ map.get state c
write_leaves at v state c h = get-with_cell state at v c ∙ ap (λ t. cond t v (map.get state c)) h

pub or_here : (at : Cell) (b : Bool) → (same_cell at at || b) ≡ true
or_here at b = ap (λ t. t || b) (same_cell-itself at)

pub or_there : (a : Bool) (at : Cell) → (a || same_cell at at) ≡ true
or_there true at = refl
or_there false at = same_cell-itself at

pub or_front : (a b : Bool) → a ≡ true → (a || b) ≡ true
or_front a b e = ap (λ t. t || b) e

pub or_after : (a b : Bool) → b ≡ true → (a || b) ≡ true
or_after true b e = refl
or_after false b e = e

-- ---- the aliases of a site

-- they are the same where each of their cells has the same
pub same_alias_entries : (site : SiteName) (state other : State) → AgreeOn (is_alias_of site) state other → alias_entries other site ≡ alias_entries state site
same_alias_entries site state other agree =
    let in_filter : (s : State) (c : Cell) → map.find cell_cmp c (alias_entries s site) ≡ cond (is_alias_of site c) (map.get s c) None = λ s c.
    find-where_key cell_cmp (is_alias_of site) c (λ x e. ap (is_alias_of site) (sym (cell_cmp-IsAntisymmetric c x e))) (map.entries s)
    ∙ ap (λ v. cond (is_alias_of site c) v None) (sym (map.get-entries s c)) in
    let sorted = λ (s : State). is_sorted-where_key cell_cmp (is_alias_of site) (map.entries s) (map.entries_sorted s) in
    same_entries cell_cmp cell_cmp_total cell_cmp-IsAntisymmetric (alias_entries other site) (alias_entries state site) (sorted other) (sorted state) (λ c.
    in_filter other c
    ∙ (elim (is_alias_of site c) as (λ t. is_alias_of site c ≡ t → cond t (map.get other c) None ≡ cond t (map.get state c) None) [
      | true ↦ λ e. agree c e
      | false ↦ λ e. refl
    ] refl)
    ∙ sym (in_filter state c))

pub or_second : (a : Bool) (at : Cell) (b : Bool) → (a || (same_cell at at || b)) ≡ true
or_second true at b = refl
or_second false at b = or_here at b
