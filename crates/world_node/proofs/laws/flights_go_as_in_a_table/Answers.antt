use Rattle.world_node.proofs.Lawful.{runs_lawful}
use Rattle.world_node.proofs.Tables.{finished, joined, led}
use Rattle.world_node.proofs.laws.flights_go_as_in_a_table.Goals as goal

pub returns : goal.returns
returns c = record {
  led = led;
  joined = joined;
  finished = finished;
  all = λ cells limit readers steps. (runs_lawful limit readers steps).table cells;
}
