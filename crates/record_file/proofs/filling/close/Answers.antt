use Rattle.std.proofs.Common.{◌⊎◌, take, inr, ◌∙◌, ap}
use Rattle.host_disk.proofs.Runs.{goes_on}
use Rattle.record_file.specs.Slots.{IsClosed, IsStale}
use Rattle.record_file.proofs.Steps.{weaker}
use Rattle.record_file.proofs.SlotSteps.{on_ok, always_ok, closing, closed_cut, zero_first}
use Rattle.record_file.proofs.filling.close.Goals as goal

pub returns-clause-emptied : goal.returns-clause-emptied
returns-clause-emptied g c modelled =
    let wrote = zero_first _ _ (c.in_ok-write_synced.ensures.written modelled) in
    on_ok c.cut.result _ _ (λ is. is ∙ ap (take 1) wrote) (c.cut.ensures.cut modelled)

pub returns-clause-closed : goal.returns-clause-closed
returns-clause-closed g c modelled =
    let wrote = zero_first _ _ (c.in_ok-write_synced.ensures.written modelled) in
    always_ok c.cut.result _ (λ f left.
    let from = c.cut.ensures.crash modelled f left in
    closed_cut _ from.0 f (c.in_ok-write_synced.ensures.durable modelled from.0 from.1 ∙ wrote) from.2)

pub returns-in_err-write_synced-clause-any_moment : goal.returns-in_err-write_synced-clause-any_moment
returns-in_err-write_synced-clause-any_moment g c modelled generation stale =
    weaker g.D.Disk.moment g.D.Disk.left_since c.args.disk.now c.write_synced.new.disk _ (λ f. IsStale generation f ⊎ IsClosed f) (closing generation (g.D.Disk.may_leave c.args.disk.now) stale) (c.write_synced.ensures.any_moment modelled)

pub returns-clause-any_moment : goal.returns-clause-any_moment
returns-clause-any_moment g c modelled generation stale =
    let old = c.args.disk.now in
    let mid = c.write_synced.new.disk in
    let new = c.cut.new.self in
    let wrote = zero_first _ _ (c.in_ok-write_synced.ensures.written modelled) in
    let first = weaker g.D.Disk.moment g.D.Disk.left_since old mid _ (λ f. IsStale generation f ⊎ IsClosed f) (closing generation (g.D.Disk.may_leave old) stale) (c.write_synced.ensures.any_moment modelled) in
    goes_on g.D.Disk.moment g.D.Disk.left_since old mid new (λ f. IsStale generation f ⊎ IsClosed f) (g.D.Disk.may_leave new) first (c.cut.ensures.time modelled) (λ f left.
    let from = c.cut.ensures.crash modelled f left in
    inr (closed_cut _ from.0 f (c.in_ok-write_synced.ensures.durable modelled from.0 from.1 ∙ wrote) from.2))
