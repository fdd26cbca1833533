use Rattle.std.proofs.Common.{◌≡◌, ◌≤◌, ◌⊎◌, ◌-◌, ◌++◌, []}
use Rattle.std.specs.Prelude.{vec_len}
use Rattle.http_wire.proofs.BodyReads.{BodySoFar}
use Rattle.http_wire.proofs.bodies.fill_body.Given as goal

abbrev pub invariant-reads : goal.invariant-reads
invariant-reads g l = record {
  so : BodySoFar g.D.Duplex.saw l.fn.duplex l.duplex l.size (l.fn.body.items ++ l.fn.buffer) l.body.items l.buffer;
  within : vec_len l.body ≤ l.size;
  all : (vec_len l.body ≡ l.size) ⊎ (l.buffer ≡ []);
}

abbrev pub decreases-reads : goal.decreases-reads
decreases-reads g l = l.size - vec_len l.body
