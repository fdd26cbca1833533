use Rattle.std.proofs.Common.{ℕ, ◌+◌, ap, arith, subst, sym}
use Rattle.host_opening.specs.Replays.{IsReplayed}
use Rattle.host_opening.proofs.Replayed.{nothing_taken, replayed_more, stops_here}
use Rattle.host_opening.proofs.Taken.{up_to}
use Rattle.host_opening.proofs.replays.replay.Goals as goal

pub returns-in-Err-clause-fault : goal.returns-in-Err-clause-fault
returns-in-Err-clause-fault g c =
    stops_here (g.U.Uploads.contents c.args.uploads.now) c.args.limit c.loop-place.place (c.len-number.result + 1) c.args.log.now c.entry_of.result.now c.loop-place.history c.in-Err.error
    c.fault_at.result c.loop-place.invariant.0 c.entry_of.ensures c.loop-place.invariant.1 (ap (λ n. n + 1) c.len-number.ensures.number) c.len-number.ensures.room c.in-Err.ensures.fault c.fault_at.ensures

pub loop-place-preserved : goal.loop-place-preserved
loop-place-preserved g c = (
  omega (arith, c.loop-place.invariant.0),
  replayed_more (g.U.Uploads.contents c.args.uploads.now) c.args.limit c.loop-place.place c.args.log.now c.entry_of.result.now c.loop-place.history c.append.new.history
      c.loop-place.invariant.0 c.entry_of.ensures c.loop-place.invariant.1 c.in_default.ensures.entries c.in_default.ensures.over c.in_default.ensures.limit,
)

pub loop-place-init : goal.loop-place-init
loop-place-init g c =
    let at = c.base-place.ensures.base in
    let uploads = g.U.Uploads.contents c.args.uploads.now in (
      omega (arith, at),
      subst (λ (n : ℕ). IsReplayed uploads c.args.limit (up_to n c.args.log.now) c.in_ok-history.history) (sym at)
          (nothing_taken uploads c.args.limit c.args.log.now c.in_ok-history.history c.in_ok-history.ensures.begun),
    )
