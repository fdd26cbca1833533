use Rattle.std.proofs.Common.{sym, ap, ◌∙◌, rules}
use Rattle.std.proofs.lemmas.Fn.{always_returns_same}
use Rattle.std.specs.Cmp.Lexicographic.{slice_cmp, nat_list_cmp_total}
use Rattle.std.specs.Ordering.{nat_cmp}
use Rattle.site_state.specs.Files.{at_path}
use Rattle.persistent_maps.proofs.Entries.{find_at, gap_from_search, find_in_gap}
use Rattle.site_state.proofs.paths.PathMap.get.Goals as goal

-- the closure compares an entry's path with the one that is sought
pub returns-in-Ok : goal.returns-in-Ok
returns-in-Ok g c =
    let pairs = c.entries-entries.ensures.pairs in
    let tie = c.in-Ok.ensures.position (λ e. slice_cmp nat_cmp e.0 c.args.path.now) (always_returns_same _ _ _ (λ a r f' called. search rules)) in
    let sorted = rw (sym pairs) at c.entries-entries.ensures.sorted in
    sym (ap (λ files. at_path files c.args.path.now) (sym pairs)
    ∙ find_at (slice_cmp nat_cmp) nat_list_cmp_total c.args.path.now c.entries-entries.result.now c.in-Ok.place _ sorted c.in-Ok.ensures.bound (tie _))

pub returns-in-Err : goal.returns-in-Err
returns-in-Err g c =
    let pairs = c.entries-entries.ensures.pairs in
    let searched = c.in-Err.ensures.position (λ e. slice_cmp nat_cmp e.0 c.args.path.now) (always_returns_same _ _ _ (λ a r f' called. search rules)) in
    let sorted = rw (sym pairs) at c.entries-entries.ensures.sorted in
    let gap = gap_from_search (slice_cmp nat_cmp) nat_list_cmp_total c.args.path.now c.entries-entries.result.now _ sorted c.in-Err.ensures.bound searched in
    sym (ap (λ files. at_path files c.args.path.now) (sym pairs) ∙ find_in_gap (slice_cmp nat_cmp) nat_list_cmp_total c.args.path.now c.entries-entries.result.now _ gap)
