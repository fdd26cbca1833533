use Rattle.std.proofs.Common.{◌≡◌, ◌++◌, ap, sym, subst, ◌∙◌}
use Rattle.shared_blocks.specs.Blocks.{joined}
use Rattle.persistent_maps.specs.Edits.{edited_by}
use Rattle.persistent_maps.specs.Maps.{first_key}
use Rattle.persistent_maps.specs.Merge.{below, not_below}
use Rattle.persistent_maps.proofs.Below.{Rise-not_below}
use Rattle.persistent_maps.proofs.Parts.{Rise}
use Rattle.persistent_maps.proofs.WrittenBlocks.{parts_of, written_step}
use Rattle.persistent_maps.proofs.block_writes.write_blocks.Goals as goal

pub write_block-requires-clause-block_rises : goal.write_block-requires-clause-block_rises
write_block-requires-clause-block_rises g c =
    let parts = parts_of g.met.K.Ord.total c.written.left.now c.in-Some.block.now c.in-Some.rest.now c.in-Some.ensures.cases.0 c.written.invariant.left in
    parts.rises

pub written-preserved : goal.written-preserved
written-preserved g c =
    let cmp = g.K.Ord.cmp in
    let o = g.met.K.Ord.total in
    let before = c.written.invariant in
    let block = c.in-Some.block.now in
    let rest = c.in-Some.rest.now in
    let split = c.in-Some.ensures.cases.0 in
    let edits = c.written.edits.items in
    let key = c.first_key.ensures in
    let done = c.in_ok-write_block.ensures in
    let parts = parts_of o c.written.left.now block rest split before.left in
    let left : c.write_block.new.edits.items ≡ not_below cmp (first_key rest) edits = done.rest ∙ ap (λ k. not_below cmp k edits) key in
    record {
      left = parts.rest;
      edits_rise = subst (Rise cmp) (sym left) (Rise-not_below cmp (first_key rest) edits before.edits_rise);
      filled = done.filled;
      whole = written_step o (joined c.written.written.items) (joined c.write_block.new.written.items) block rest edits c.write_block.new.edits.items _ parts.rest.filled parts.whole before.edits_rise
          (done.joined ∙ ap (λ k. joined c.written.written.items ++ edited_by cmp block (below cmp k edits)) key) left
          (ap (λ l. joined c.written.written.items ++ edited_by cmp (joined l) edits) (sym split) ∙ before.whole);
    }
