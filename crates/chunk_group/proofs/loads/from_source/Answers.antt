use Rattle.std.proofs.Common.{◌≢◌, rules}
use Rattle.host_names.specs.Digests.{digest_of}
use Rattle.chunk_group.proofs.loads.from_source.Goals as goal

pub returns-then-ne-clause-allowed : goal.returns-then-ne-clause-allowed
returns-then-ne-clause-allowed g c =
    let other : digest_of c.in_ok-chunk.chunk ≢ c.args.key.now = search rules in
    ∣ c.in_ok-chunk.ensures.other other ∣₁
