use Rattle.std.proofs.Common.{◌≡◌, ◌++◌}
use Rattle.percent_encoding.specs.Iter.{decoded_bytes}
use Rattle.percent_encoding.specs.Percent.{percent_decode}
use Rattle.host_api.proofs.target_paths.decode.Given as goal

abbrev pub invariant-loop-byte : goal.invariant-loop-byte
invariant-loop-byte l =
    (goal.iterator-loop-byte).can_next l.byte-iterator
    × (goal.iterator-loop-byte).is_finite l.byte-iterator
    × (l.bytes.items ++ decoded_bytes l.byte-iterator ≡ percent_decode l.text)
