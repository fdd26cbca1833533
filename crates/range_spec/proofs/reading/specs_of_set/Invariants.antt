use Rattle.std.proofs.Common.{◌-◌, length}
use Rattle.range_spec.specs.Reading.{BeginsNo, IsReadTo, IsSeparator}
use Rattle.range_spec.proofs.reading.specs_of_set.Given as goal

abbrev pub invariant-loop-rest : goal.invariant-loop-rest
invariant-loop-rest l = record {
  read : IsReadTo l.set l.specs.items l.rest;
  begins : BeginsNo IsSeparator l.rest;
}

abbrev pub decreases-loop-rest : goal.decreases-loop-rest
decreases-loop-rest l = 16 - length l.specs.items
