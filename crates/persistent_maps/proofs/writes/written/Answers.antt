use Rattle.std.proofs.Common.{◌≡◌, ◌++◌, [], drop, append_assoc, subst, sym, ap, ◌∙◌}
use Rattle.shared_blocks.specs.Blocks.{joined}
use Rattle.persistent_maps.specs.Edits.{edited_by}
use Rattle.persistent_maps.specs.Maps.{AreBlocks}
use Rattle.persistent_maps.proofs.Lookups.{AreBlocks-none}
use Rattle.persistent_maps.proofs.writes.written.Goals as goal

pub push_written-requires-clause-sound : goal.push_written-requires-clause-sound
push_written-requires-clause-sound g c =
    subst (AreBlocks g.K.Ord.cmp) (sym (c.as_slice.ensures.value ∙ c.new-no_blocks.ensures.items)) (AreBlocks-none g.met.K.Ord.total)

pub returns-clause-pairs : goal.returns-clause-pairs
returns-clause-pairs g c =
    let cmp = g.K.Ord.cmp in
    let rest = joined (drop c.in_ok-count.count c.args.chunks.now) in
    let edits = c.write_chunks.new.edits.items in
    let rows = joined (joined c.write_chunks.new.rows.items) in
    let last : joined c.in_ok-chunks_of.field-0.items ≡ rows ++ edited_by cmp [] edits =
    c.in_ok-chunks_of.ensures.pairs ∙ c.in_ok-push_written.ensures.pairs ∙ ap (λ l. rows ++ edited_by cmp (joined l) edits) (c.as_slice.ensures.value ∙ c.new-no_blocks.ensures.items) in
    ap (λ l. l ++ rest) last ∙ append_assoc rows (edited_by cmp [] edits) rest ∙ c.in_ok-count.ensures.whole
    ∙ ap (λ l. joined (joined l) ++ edited_by cmp (joined c.args.chunks.now) c.from_vec-edits.result.items) c.new-rows.ensures.items
    ∙ ap (edited_by cmp (joined c.args.chunks.now)) c.from_vec-edits.ensures.items
