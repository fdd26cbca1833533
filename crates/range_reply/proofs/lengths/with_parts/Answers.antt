use Rattle.std.proofs.Common.{arith, ℕ, ◌≤◌, ◌+◌, ◌^◌, length}
use Rattle.std.specs.List.{flat_map}
use Rattle.byte_view.specs.Cuts.{slice}
use Rattle.std.proofs.lemmas.List.Folds.{length-flat_map-take}
use Rattle.range_reply.specs.Multipart.{part_text, text_of}
use Rattle.range_reply.proofs.lengths.with_parts.Goals as goal

pub returns-in_err-total : goal.returns-in_err-total
returns-in_err-total c =
    let file = c.args.info.now in
    let part = λ (i : ℕ × ℕ). part_text (text_of c.args.boundary.now) c.args.content_type.text.now (length file) (i, slice file i.0 i.1) in
    let before = length-flat_map-take part c.args.intervals.now c.loop-interval.interval-index (0, 0) c.loop-interval-test.true in
    let long : 2 ^ 64 ≤ c.args.total + length (flat_map part c.args.intervals.now) =
    omega (arith, before, c.loop-interval.invariant, c.in_err-total.ensures) in
    rw c.from_residual.ensures long
