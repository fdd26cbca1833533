use Rattle.std.proofs.Common.{arith, ◌≤◌, ◌+◌, ◌^◌, [], length}
use Rattle.std.specs.List.{flat_map}
use Rattle.std.proofs.lemmas.List.Folds.{length-flat_map-take}
use Rattle.range_reply.proofs.lengths.with_texts.Goals as goal

pub returns-in_err-total : goal.returns-in_err-total
returns-in_err-total c =
    let before = length-flat_map-take (λ text. text.now) c.args.texts.now c.loop-text.text-index (record { ref_ptr = (0, 0); now = [] }) c.loop-text-test.true in
    let long : 2 ^ 64 ≤ c.args.total + length (flat_map (λ text. text.now) c.args.texts.now) = omega (arith, before, c.loop-text.invariant, c.in_err-total.ensures) in
    rw c.from_residual.ensures long
