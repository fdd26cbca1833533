use Rattle.std.proofs.Common.{rules, ◌≡◌, ◌+◌, [], Err, drop, get_or, map}
use Rattle.std.proofs.lemmas.List.{drop_more}
use Rattle.chunk_reads.proofs.ReadInTurn.{no_more, one_more}
use Rattle.chunk_reads.proofs.readers.read_chunks.Goals as goal

pub returns-in_err-push_chunk-clause-fault : goal.returns-in_err-push_chunk-clause-fault
returns-in_err-push_chunk-clause-fault g c =
    let reads = g.N.ChunkReader.reads in
    let why = c.in_err-push_chunk.field-0.0 in
    let names = c.args.names.now in
    let k = c.loop-name.name-index in
    let before = map (λ chunk. chunk.value) c.loop-name.chunks.items in
    let is : c.from_residual.result ≡ Err why = search rules in
    let fault = no_more reads c.args.reader.now c.loop-name.reader c.push_chunk.new.reader before (drop k names) (drop (k + 1) names) names (get_or names k (record { 0 = [] })) why
    (drop_more names k (record { 0 = [] }) c.loop-name-test.true) c.loop-name.invariant c.in_err-push_chunk.ensures.fault in
    search (rules, fault)

pub loop-name-preserved : goal.loop-name-preserved
loop-name-preserved g c =
    let names = c.args.names.now in
    let k = c.loop-name.name-index in
    let before = map (λ chunk. chunk.value) c.loop-name.chunks.items in
    let after = map (λ chunk. chunk.value) c.push_chunk.new.chunks.items in
    one_more g.N.ChunkReader.reads c.args.reader.now c.loop-name.reader c.push_chunk.new.reader before (drop k names) (drop (k + 1) names) names (get_or names k (record { 0 = [] })) after
    (drop_more names k (record { 0 = [] }) c.loop-name-test.true) c.loop-name.invariant c.in_ok-push_chunk.ensures.read
