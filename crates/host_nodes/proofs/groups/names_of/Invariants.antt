use Rattle.std.proofs.Common.{◌≡◌, vec_len}
use Rattle.host_nodes.proofs.groups.names_of.Given as goal

-- a name for each address so far
abbrev pub invariant-loop-peer : goal.invariant-loop-peer
invariant-loop-peer l = vec_len l.names ≡ l.peer-index
