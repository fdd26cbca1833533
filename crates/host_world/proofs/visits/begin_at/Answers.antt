use Rattle.std.proofs.Common.{List, [], ◌∷◌, ◌++◌}
use Rattle.world_desk.proofs.Changing.{change_written}
use Rattle.world_read.specs.Reads.{ReadState}
use Rattle.host_world.proofs.visits.begin_at.Goals as goal

pub returns-clause-reads : goal.returns-clause-reads
returns-clause-reads c =
    change_written (λ (reads : List ReadState). reads ++ c.args.read ∷ []) c.args.visitor c.args.visits.now.items c.index_mut-visits.result.now c.begin.new.self c.requires c.index_mut-visits.ensures.value
    c.in_ok-begin.ensures.reads
