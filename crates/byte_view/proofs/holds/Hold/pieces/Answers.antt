use Rattle.std.proofs.Common.{◌+◌, ◌-◌, ◌*◌, ◌/◌, ◌<◌, ap, ◌∙◌, arith, length, subst}
use Rattle.std.proofs.lemmas.List.{length-map}
use Rattle.std.proofs.lemmas.List.Elements.{All-same}
use Rattle.std.specs.List.{concat}
use Rattle.byte_view.specs.Holds.{Held, IsHeld, lent}
use Rattle.byte_view.proofs.Stretches.{length-held, lent-filled, lent-joined, lent-pure, parts-shown}
use Rattle.byte_view.proofs.holds.Hold.pieces.Goals as goal

pub slice_bounds-chunks-end : goal.slice_bounds-chunks-end
slice_bounds-chunks-end c =
    let lies = rw (← c.self.view_is) at c.requires in
    let count = length-held _ c.self.invariant in
    let same = length-map c.self.inside.chunks.items (λ chunk. chunk.value) in
    omega (arith, lies.from, lies.ordered, lies.to, count, same, ap length c.as_slice.ensures.value)

pub new-requires-clause-filled : goal.new-requires-clause-filled
new-requires-clause-filled c =
    let lies = rw (← c.self.view_is) at c.requires in
    let first = c.args.first in let last = c.args.last in let start = first / 65536 * 65536 in
    let before = c.self.inside.first / 65536 in
    All-same (λ piece. 0 < length piece) _ _
    (parts-shown (λ chunk. chunk.value) c.as_slice.result.now c.self.inside.chunks.items (first / 65536 - before) (last / 65536 + 1 - before) (first - start) (last + 1 - start) c.as_slice.ensures.value)
    (lent-filled _ c.self.invariant first last lies)

pub returns-clause-each : goal.returns-clause-each
returns-clause-each c =
    let first = c.args.first in let last = c.args.last in let start = first / 65536 * 65536 in
    let before = c.self.inside.first / 65536 in
    c.new.ensures
    ∙ parts-shown (λ chunk. chunk.value) c.as_slice.result.now c.self.inside.chunks.items (first / 65536 - before) (last / 65536 + 1 - before) (first - start) (last + 1 - start) c.as_slice.ensures.value
    ∙ ap (λ h. lent h first last) c.self.view_is

pub returns-clause-joined : goal.returns-clause-joined
returns-clause-joined c =
    let P : Held → Type 0 = IsHeld in
    ap concat (returns-clause-each c) ∙ lent-joined c.args.self.now (subst P c.self.view_is c.self.invariant) c.args.first c.args.last c.requires

pub returns-clause-pure : goal.returns-clause-pure
returns-clause-pure c =
    let P : Held → Type 0 = IsHeld in
    λ pure. ap concat (returns-clause-each c) ∙ lent-pure c.args.self.now (subst P c.self.view_is c.self.invariant) c.args.first c.args.last c.requires pure
