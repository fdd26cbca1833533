use Rattle.std.proofs.Common.{◌≡◌, vec_len}
use Rattle.host_nodes.proofs.groups.peers_of.Given as goal

-- a peer for each node so far
abbrev pub invariant-loop-ports : goal.invariant-loop-ports
invariant-loop-ports l = vec_len l.peers ≡ l.ports-index
