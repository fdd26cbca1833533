use Rattle.std.proofs.Common.{◌≡◌, vec_len}
use Rattle.host_nodes.proofs.groups.ring_of.Given as goal

-- a reference to each name so far
abbrev pub invariant-loop-text : goal.invariant-loop-text
invariant-loop-text l = vec_len l.names ≡ l.text-index
