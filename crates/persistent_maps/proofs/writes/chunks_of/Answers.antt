use Rattle.std.proofs.Common.{rules, ◌≡◌, ◌∷◌, ◌++◌, [], subst, ap, ◌∙◌}
use Rattle.std.specs.Vec.Iter.{into_iter_items}
use Rattle.shared_blocks.specs.Blocks.{joined}
use Rattle.persistent_maps.specs.Maps.{HaveItems}
use Rattle.persistent_maps.proofs.Rows.{HaveItems-left, row_step}
use Rattle.persistent_maps.proofs.writes.chunks_of.Goals as goal

pub new-requires : goal.new-requires
new-requires g c =
    let split : into_iter_items c.loop-row.row-iterator ≡ c.in-Some.row ∷ into_iter_items c.next.new.self = search rules in
    HaveItems-left c.in-Some.row (joined (into_iter_items c.next.new.self)) (subst (λ l. HaveItems (joined l)) split c.loop-row.invariant.blocks)

pub loop-row-preserved : goal.loop-row-preserved
loop-row-preserved g c =
    let split : into_iter_items c.loop-row.row-iterator ≡ c.in-Some.row ∷ into_iter_items c.next.new.self = search rules in
    let before = c.loop-row.invariant in
    row_step c.loop-row.chunks.items c.push.new.self.items c.in-Some.row (into_iter_items c.loop-row.row-iterator) (into_iter_items c.next.new.self) (joined (joined c.args.rows.items)) split
    (c.in_ok-push.ensures.items ∙ ap (λ chunk. c.loop-row.chunks.items ++ chunk ∷ []) c.new.ensures)
    before.filled before.rows before.blocks before.pairs
