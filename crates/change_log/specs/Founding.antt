-- Whether names may be a base, and what they stand for, as private functions say it.
use Rattle.std.specs.Prelude.{ℕ, List, [], ◌∷◌, ◌++◌, map, Bool, true, false, not, ◌&&◌, nat_le, Option, Some, None, is_some, option_to_list}
use Rattle.std.specs.BTreeMap.{is_at}
use Rattle.std.specs.FinMap as finmap
use Rattle.std.specs.List.{list_all, list_any}
use Rattle.std.specs.Ordering.{nat_cmp}
use Rattle.byte_view.specs.Contents.{Contents}
use Rattle.host_names.specs.declared.cells.Cell.{Cell}
use Rattle.host_names.specs.declared.cells.Cell.TheVariants as cell
use Rattle.site_state.specs.declared.values.Value.{Value}
use Rattle.change_log.specs.Bases.{Names, deploy_of, value_of}
use Rattle.change_log.specs.declared.names.Name.{Name}
use Rattle.change_log.specs.declared.names.Name.TheVariants as name

-- ---- cell by cell

-- the number of a deploy, if it has one, isn't above the base's
abbrev pub is_numbered : ℕ → Option ℕ → Bool
is_numbered base None = true
is_numbered base (Some n) = nat_le n base

-- each file that is served or kept was uploaded
abbrev pub has_known : Contents → Name → Bool
has_known uploads (name.Live digest) = finmap.contains_key uploads digest
has_known uploads (name.Kept files) = list_all (λ f. finmap.contains_key uploads f.1) files
has_known uploads (name.Alias n) = true
has_known uploads (name.Draft draft) = true

-- an alias names a kept deploy of its site
abbrev pub is_named : Names → Cell → Name → Bool
is_named names (cell.Alias site alias) (name.Alias n) = is_some (finmap.get names (cell.Kept site n))
is_named names c v = true

abbrev pub fits : Contents → ℕ → Names → Cell → Name → Bool
fits uploads base names c v = is_numbered base (deploy_of c) && (has_known uploads v && is_named names c v)

-- ---- the numbers of the deploys

-- those that the cells have, in their order
abbrev pub numbers_in : List (Cell × Name) → List ℕ
numbers_in [] = []
numbers_in (e ∷ es) = option_to_list (deploy_of e.0) ++ numbers_in es

-- whether the number is among these
abbrev pub is_listed : List ℕ → ℕ → Bool
is_listed numbers m = list_any (λ n. is_at (nat_cmp n) m) numbers

-- none of them is among the others or those that were seen
abbrev pub all_once : (seen : List ℕ) → List ℕ → Bool
all_once seen [] = true
all_once seen (n ∷ ns) = not (is_listed seen n) && all_once (n ∷ seen) ns

-- ---- the state

-- what is written into each cell
abbrev pub writes_in : Contents → List (Cell × Name) → List (Cell × Option Value)
writes_in uploads es = map (λ e. (e.0, Some (value_of uploads e.1))) es
