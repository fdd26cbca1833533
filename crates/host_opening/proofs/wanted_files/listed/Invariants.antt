use Rattle.std.proofs.Common.{◌≡◌, ◌++◌, map}
use Rattle.host_opening.specs.Needs.{one_wanted}
use Rattle.host_opening.proofs.wanted_files.listed.Given as goal

abbrev pub invariant-loop-digest : goal.invariant-loop-digest
invariant-loop-digest l = l.wanted.items ++ map one_wanted l.digest-iterator ≡ map one_wanted l.needs.entries
