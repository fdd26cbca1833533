use Rattle.http_wire.proofs.ReadCounts.{head_reads, body_reads}
use Rattle.http_wire.proofs.laws.few_reads.Goals as goal

pub returns : goal.returns
returns c = record { head = head_reads; body = body_reads }
