use Rattle.std.proofs.Common.{refl}
use Rattle.blob_store.proofs.Shelved.{table_put}
use Rattle.blob_store.proofs.mem_shelf.MemShelf.keep_table.Goals as goal

pub returns-clause-ok : goal.returns-clause-ok
returns-clause-ok c = table_put c.args.self.now _ c.args.digest c.args.bytes refl c.in_ok-insert.ensures.updates
