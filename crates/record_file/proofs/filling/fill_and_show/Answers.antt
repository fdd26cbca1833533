use Rattle.host_disk.proofs.Runs.{and_then}
use Rattle.record_file.specs.Slots.{HasGate, IsClosed, IsWriting, closed, whole}
use Rattle.record_file.proofs.Steps.{weaker}
use Rattle.record_file.proofs.filling.fill_and_show.Goals as goal

pub returns-clause-shown : goal.returns-clause-shown
returns-clause-shown g c modelled is =
    c.show.ensures.shown modelled c.args.behind.now (c.in_ok-fill.ensures.filled modelled is).is

pub returns-in_err-fill-clause-any_moment : goal.returns-in_err-fill-clause-any_moment
returns-in_err-fill-clause-any_moment g c modelled generation is all =
    weaker g.D.Disk.moment g.D.Disk.left_since c.args.disk.now c.fill.new.disk IsClosed (IsWriting generation c.args.behind.now) (λ f shut. closed shut) (c.fill.ensures.any_moment modelled all)

pub returns-clause-any_moment : goal.returns-clause-any_moment
returns-clause-any_moment g c modelled generation is all =
    let old = c.args.disk.now in
    let mid = c.fill.new.disk in
    let new = c.show.new.disk in
    let behind = c.args.behind.now in
    let first = weaker g.D.Disk.moment g.D.Disk.left_since old mid IsClosed (IsWriting generation behind) (λ f shut. closed shut) (c.fill.ensures.any_moment modelled all) in
    let second = weaker g.D.Disk.moment g.D.Disk.left_since mid new (HasGate behind) (IsWriting generation behind) (λ f there. whole there) (c.show.ensures.any_moment modelled behind (c.in_ok-fill.ensures.filled modelled is).only) in
    and_then g.D.Disk.moment g.D.Disk.left_since old mid new (IsWriting generation behind) first second
