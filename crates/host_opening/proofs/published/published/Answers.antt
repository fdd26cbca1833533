use Rattle.std.proofs.Common.{◌+◌, ◌-◌, arith}
use Rattle.host_opening.proofs.Needed.{published_more}
use Rattle.host_opening.proofs.Taken.{taken_more}
use Rattle.host_opening.proofs.published.published.Goals as goal

pub loop-place-preserved : goal.loop-place-preserved
loop-place-preserved c =
    let log = c.args.log.now in
    let place = c.loop-place.place in (
      omega (arith, c.loop-place.invariant.0),
      λ cell. published_more log.entries (place - log.base) (place + 1 - log.base) c.entry_of.result.now cell _ _
          (taken_more log place c.entry_of.result.now c.loop-place.invariant.0 c.entry_of.ensures) (c.in_ok-add_published.ensures cell) (c.loop-place.invariant.1 cell),
    )
