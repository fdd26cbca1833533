use Rattle.std.proofs.Common.{◌≡◌, ◌++◌, ap, subst, sym, ◌∙◌}
use Rattle.shared_blocks.specs.Blocks.{joined}
use Rattle.persistent_maps.specs.Edits.{edited_by}
use Rattle.persistent_maps.proofs.Parts.{Rise}
use Rattle.persistent_maps.proofs.WrittenBlocks.{Rise-edited_by}
use Rattle.persistent_maps.proofs.block_writes.written_blocks.Goals as goal

pub returns-clause-joined : goal.returns-clause-joined
returns-clause-joined g c =
    let cmp = g.K.Ord.cmp in
    let whole = c.in_ok-write_blocks.ensures.whole in
    c.in_ok-push_items.ensures.joined ∙ ap (λ l. joined c.write_blocks.new.written.items ++ l) c.in_ok-added.ensures ∙ whole
    ∙ ap (λ l. joined l ++ edited_by cmp (joined c.args.blocks.now) c.args.edits.items) c.in_ok-written.ensures.items

pub returns-clause-sound : goal.returns-clause-sound
returns-clause-sound g c =
    let cmp = g.K.Ord.cmp in
    let whole = c.in_ok-write_blocks.ensures.whole in
    let is : joined c.push_items.new.blocks.items ≡ edited_by cmp (joined c.args.blocks.now) c.args.edits.items =
    c.in_ok-push_items.ensures.joined ∙ ap (λ l. joined c.write_blocks.new.written.items ++ l) c.in_ok-added.ensures ∙ whole
    ∙ ap (λ l. joined l ++ edited_by cmp (joined c.args.blocks.now) c.args.edits.items) c.in_ok-written.ensures.items in
    record {
      filled = c.in_ok-push_items.ensures.filled;
      sorted = subst (Rise cmp) (sym is) (Rise-edited_by g.met.K.Ord.total (joined c.args.blocks.now) c.args.edits.items c.requires.sound.sorted);
    }
