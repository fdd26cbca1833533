use Rattle.std.proofs.Common.{◌≡◌, ◌++◌, map}
use Rattle.std.specs.Map.{keys_of}
use Rattle.core_tests.proofs.tests.stores.listed.Given as goal

abbrev pub invariant-loop-digest : goal.invariant-loop-digest
invariant-loop-digest l = map (λ one. one.digest) l.wanted.items ++ keys_of l.digest-iterator ≡ keys_of l.musts.entries
