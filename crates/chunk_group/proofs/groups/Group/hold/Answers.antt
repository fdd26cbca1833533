use Rattle.chunk_group.proofs.SharedHolds.{may_not_hold}
use Rattle.chunk_group.proofs.groups.Group.hold.Goals as goal

pub returns-clause-fault : goal.returns-clause-fault
returns-clause-fault g c =
    may_not_hold g.S.Source.allows _ c.hold_stretch-held.new.reader c.args.info.value c.args.first c.args.last c.hold_stretch-held.result c.hold_stretch-held.ensures.fault
