use Rattle.std.proofs.Common.{◌≡◌, ◌++◌, deque_len, option_copied}
use Rattle.std.specs.List.Sorted.{IsStrictlySortedBy}
use Rattle.std.specs.Map.{keys_of}
use Rattle.persistent_maps.specs.Edits.{edited_by}
use Rattle.persistent_maps.specs.Merge.{below, not_below}
use Rattle.persistent_maps.proofs.merge.merge_edits.Given as goal

-- what is merged, with what a merge of the rest would give, is the whole
abbrev pub invariant-edits : goal.invariant-edits
invariant-edits g l = record {
  pairs_rise : IsStrictlySortedBy g.K.Ord.cmp (keys_of l.pairs.items);
  edits_rise : IsStrictlySortedBy g.K.Ord.cmp (keys_of l.edits.items);
  whole : l.merged.items ++ edited_by g.K.Ord.cmp l.pairs.items (below g.K.Ord.cmp (option_copied l.limit) l.edits.items)
      ≡ l.fn.merged.items ++ edited_by g.K.Ord.cmp l.fn.pairs.items (below g.K.Ord.cmp (option_copied l.limit) l.fn.edits.items);
  rest : not_below g.K.Ord.cmp (option_copied l.limit) l.edits.items ≡ not_below g.K.Ord.cmp (option_copied l.limit) l.fn.edits.items;
}

abbrev pub decreases-edits : goal.decreases-edits
decreases-edits g l = deque_len l.edits
