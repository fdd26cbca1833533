use Rattle.std.proofs.Common.{◌++◌, ap, option_map, option_to_list, ◌∙◌}
use Rattle.site_state.proofs.LackingDigests.{filter_map_more}
use Rattle.site_change.proofs.Listings.{uploaded_at, in_tree, tree_by_path}
use Rattle.site_change.proofs.trees.tree_of.Goals as goal

pub file_at-requires : goal.file_at-requires
file_at-requires g c =
    uploaded_at (g.U.Uploads.contents c.args.uploads.now) c.entries-entries.result.now c.loop-path.path-index c.loop-path-item.result (rw c.entries-entries.ensures.pairs c.requires) c.loop-path-test.true
    c.loop-path-item.is

pub loop-path-preserved : goal.loop-path-preserved
loop-path-preserved g c =
    c.in_ok-push_file.ensures ∙ ap (λ file. c.loop-path.tree.items ++ option_to_list (option_map (λ bytes. (c.loop-path-item.result.0, bytes)) file)) c.in_ok-file_at.ensures
    ∙ filter_map_more (in_tree (g.U.Uploads.contents c.args.uploads.now)) c.entries-entries.result.now c.loop-path.path-index c.loop-path-item.result c.loop-path.tree.items c.loop-path-test.true
    c.loop-path-item.is c.loop-path.invariant

pub from_sorted-requires : goal.from_sorted-requires
from_sorted-requires g c =
    tree_by_path (g.U.Uploads.contents c.args.uploads.now) c.args.files.now.1 c.entries-entries.result.now c.loop-path.tree.items c.loop-path.path-index
    c.entries-entries.ensures.sorted c.entries-entries.ensures.pairs c.loop-path-test.false c.loop-path.invariant
