use Rattle.std.proofs.Common.{◌++◌, option_copied, ap, sym, ◌∙◌}
use Rattle.persistent_maps.specs.Edits.{listed}
use Rattle.persistent_maps.specs.Merge.{past_key, below}
use Rattle.persistent_maps.proofs.Below.{Rise-after, Rise-below, below-first, not_below-first}
use Rattle.persistent_maps.proofs.Edits.{merged_step}
use Rattle.persistent_maps.proofs.merge.merge_edits.Goals as goal

pub edits-preserved-in-Continue-branch-2 : goal.edits-preserved-in-Continue-branch-2
edits-preserved-in-Continue-branch-2 g c =
    let cmp = g.K.Ord.cmp in
    let before = c.edits.invariant in
    let limit = option_copied c.args.limit in
    let key = c.in-Some.key in
    let edits = c.edits.edits.items in
    let left = c.pop_front.new.self.items in
    let front = c.in-Some.ensures.items in
    let begins = sym c.edits-test.ensures in
    let step = merged_step g.met.K.Ord.total c.edits.merged.items c.edits.pairs.items c.drop_at.new.pairs.items c.push_listed.new.pairs.items (below cmp limit edits) (below cmp limit left) key c.in-Some.value
    before.pairs_rise (Rise-below cmp limit edits before.edits_rise) (below-first cmp limit edits _ left front begins)
    (c.drop_at.ensures ∙ ap (past_key cmp key) c.in_ok-move_before.ensures.rest)
    (c.in_ok-push_listed.ensures ∙ ap (λ l. l ++ listed key c.in-Some.value) c.in_ok-move_before.ensures.moved) in
    record {
      pairs_rise = step.items_rise;
      edits_rise = Rise-after cmp edits _ left front before.edits_rise;
      whole = step.whole ∙ before.whole;
      rest = not_below-first cmp limit edits _ left front begins ∙ before.rest;
    }
