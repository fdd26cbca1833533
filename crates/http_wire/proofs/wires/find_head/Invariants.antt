use Rattle.std.proofs.Common.{◌-◌, length}
use Rattle.http_wire.proofs.HeadReads.{HeadSoFar}
use Rattle.http_wire.proofs.Searches.{HasScanned}
use Rattle.http_wire.proofs.wires.find_head.Given as goal

abbrev pub invariant-reads : goal.invariant-reads
invariant-reads g l = record {
  scan : HasScanned l.buffer l.search.state l.search.scanned;
  so : HeadSoFar g.D.Duplex.saw l.fn.duplex l.duplex l.fn.buffer l.buffer;
}

abbrev pub decreases-reads : goal.decreases-reads
decreases-reads g l = 16384 - length l.buffer
