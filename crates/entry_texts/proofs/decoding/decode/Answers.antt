use Rattle.std.proofs.Common.{arith}
use Rattle.entry_texts.proofs.Entries.{read_spelled, read_found, read_badly}
use Rattle.entry_texts.proofs.BeforeMemory.{takes_memory}
use Rattle.entry_texts.proofs.decoding.decode.Goals as goal

pub returns-clause-spelled : goal.returns-clause-spelled
returns-clause-spelled c = read_spelled c.args.bytes.now c.entry_of.result (λ i. omega (arith, c.type_inv.bytes i)) c.entry_of.ensures.value

pub returns-clause-found : goal.returns-clause-found
returns-clause-found c = read_found c.args.bytes.now c.entry_of.result c.entry_of.ensures.value

pub returns-clause-bad : goal.returns-clause-bad
returns-clause-bad c = read_badly c.args.bytes.now c.entry_of.result c.entry_of.ensures.value

pub returns-clause-memory : goal.returns-clause-memory
returns-clause-memory c = λ out. takes_memory c.args.bytes.now (λ i. omega (arith, c.type_inv.bytes i)) (c.entry_of.ensures.memory out)
