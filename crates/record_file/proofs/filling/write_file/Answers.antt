use Rattle.std.proofs.Common.{◌⊎◌}
use Rattle.host_disk.proofs.Runs.{and_then}
use Rattle.record_file.specs.Slots.{IsClosed, IsStale, IsWriting}
use Rattle.record_file.proofs.Steps.{weaker}
use Rattle.record_file.proofs.SlotSteps.{from_closing}
use Rattle.record_file.proofs.filling.write_file.Goals as goal

pub returns-clause-written : goal.returns-clause-written
returns-clause-written g c modelled = c.fill_and_show.ensures.shown modelled (c.in_ok-close.ensures.emptied modelled)

pub returns-in_err-close-clause-any_moment : goal.returns-in_err-close-clause-any_moment
returns-in_err-close-clause-any_moment g c modelled generation stale =
    weaker g.D.Disk.moment g.D.Disk.left_since c.args.disk.now c.close.new.disk (λ f. IsStale generation f ⊎ IsClosed f) (IsWriting generation c.args.behind.now) (from_closing generation c.args.behind.now) (c.close.ensures.any_moment modelled generation stale)

pub returns-clause-any_moment : goal.returns-clause-any_moment
returns-clause-any_moment g c modelled generation stale =
    let old = c.args.disk.now in
    let mid = c.close.new.disk in
    let behind = c.args.behind.now in
    let first = weaker g.D.Disk.moment g.D.Disk.left_since old mid (λ f. IsStale generation f ⊎ IsClosed f) (IsWriting generation behind) (from_closing generation behind) (c.close.ensures.any_moment modelled generation stale) in
    and_then g.D.Disk.moment g.D.Disk.left_since old mid c.fill_and_show.new.disk (IsWriting generation behind) first
    (c.fill_and_show.ensures.any_moment modelled generation (c.in_ok-close.ensures.emptied modelled) (c.in_ok-close.ensures.closed modelled))
