use Rattle.host_server.proofs.Reached.{reached_none}
use Rattle.host_server.proofs.host.houses.SoloHouse.of.Goals as goal

pub invariant_of-result : goal.invariant_of-result
invariant_of-result c = record {
  over = c.requires.over;
  reached = reached_none c.args.history.entries c.args.uploads c.new.result.places c.new.ensures;
}
