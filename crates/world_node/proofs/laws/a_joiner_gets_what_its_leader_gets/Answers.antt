use Rattle.world_node.specs.Nodes.{after_all, start}
use Rattle.world_node.proofs.Lawful.{agree, runs_lawful}
use Rattle.world_node.proofs.laws.a_joiner_gets_what_its_leader_gets.Goals as goal

pub returns : goal.returns
returns c limit readers steps = agree (after_all steps (start limit readers)) (runs_lawful limit readers steps)
