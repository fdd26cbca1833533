use Rattle.world_desk.proofs.Changing.{change_written}
use Rattle.host_world.specs.Visits.{with_reading}
use Rattle.host_world.proofs.visits.go_on_at.Goals as goal

pub returns : goal.returns
returns c =
    change_written (with_reading c.args.reading) c.args.visitor c.args.visits.now.items c.index_mut-visits.result.now c.go_on.new.self c.requires c.index_mut-visits.ensures.value c.go_on.ensures
