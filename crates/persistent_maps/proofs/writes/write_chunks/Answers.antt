use Rattle.std.proofs.Common.{rules, ◌≡◌, ◌+◌, ◌≤◌, ◌++◌, ◌∷◌, drop, get_or, length, ap, sym, subst, ◌∙◌, arith}
use Rattle.std.proofs.lemmas.List.{drop_more, take_rest}
use Rattle.shared_blocks.specs.Blocks.{joined}
use Rattle.persistent_maps.specs.Edits.{edited_by}
use Rattle.persistent_maps.specs.Maps.{first_key}
use Rattle.persistent_maps.specs.Merge.{below, not_below}
use Rattle.persistent_maps.proofs.Below.{Rise-not_below}
use Rattle.persistent_maps.proofs.Filters.{AreBlocks-drop}
use Rattle.persistent_maps.proofs.Lookups.{Rise-block}
use Rattle.persistent_maps.proofs.Parts.{Rise}
use Rattle.persistent_maps.proofs.WrittenBlocks.{parts_of, written_step}
use Rattle.persistent_maps.proofs.writes.write_chunks.Goals as goal

pub write_chunk-requires-clause-chunk_rises : goal.write_chunk-requires-clause-chunk_rises
write_chunk-requires-clause-chunk_rises g c =
    let chunks = c.args.chunks.now in
    let chunk = c.index-chunks-count.result in
    let at : chunk ≡ get_or chunks c.written.count chunk = search rules in
    subst (Rise g.K.Ord.cmp) (sym at) (Rise-block g.met.K.Ord.total chunks c.written.count chunk c.written-test.true c.requires.sound.sorted)

pub written-preserved : goal.written-preserved
written-preserved g c =
    let cmp = g.K.Ord.cmp in
    let o = g.met.K.Ord.total in
    let before = c.written.invariant in
    let chunks = c.args.chunks.now in
    let count = c.written.count in
    let chunk = c.index-chunks-count.result in
    let rest = drop (count + 1) chunks in
    let at : chunk ≡ get_or chunks count chunk = search rules in
    let split : drop count chunks ≡ chunk ∷ rest = drop_more chunks count chunk c.written-test.true ∙ ap (λ b. b ∷ rest) (sym at) in
    let edits = c.written.edits.items in
    let done = c.in_ok-write_chunk.ensures in
    let key = c.first_chunk_key-limit.ensures ∙ ap first_key (take_rest chunks (count + 1)) in
    let parts = parts_of o (drop count chunks) chunk rest split (AreBlocks-drop count chunks c.requires.sound) in
    let rows = c.written.rows.items in
    let left : c.write_chunk.new.edits.items ≡ not_below cmp (first_key rest) edits = done.rest ∙ ap (λ k. not_below cmp k edits) key in
    record {
      within = omega (arith, c.written-test.true);
      edits_rise = subst (Rise cmp) (sym left) (Rise-not_below cmp (first_key rest) edits before.edits_rise);
      filled = done.filled;
      blocks_filled = done.blocks_filled;
      whole = written_step o (joined (joined rows)) (joined (joined c.write_chunk.new.rows.items)) chunk rest edits c.write_chunk.new.edits.items _ parts.rest.filled parts.whole before.edits_rise
          (done.pairs ∙ ap (λ k. joined (joined rows) ++ edited_by cmp chunk (below cmp k edits)) key) left
          (ap (λ l. joined (joined rows) ++ edited_by cmp (joined l) edits) (sym split) ∙ before.whole);
    }
