use Rattle.chunk_lru.proofs.Fewest.{evicts_fewest}
use Rattle.chunk_lru.proofs.laws.the_fewest_chunks_are_evicted.Goals as goal

pub returns : goal.returns
returns c = evicts_fewest
