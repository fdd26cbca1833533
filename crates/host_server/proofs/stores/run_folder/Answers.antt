use Rattle.std.proofs.Common.{inl}
use Rattle.host_server.proofs.stores.run_folder.Goals as goal

pub returns-in-Ok : goal.returns-in-Ok
returns-in-Ok g c = inl (c.in-Ok.ensures.named, (c.in-Ok.store.first, c.in-Ok.store.second, c.in-Ok.store.shelf, c.run_store.ensures))
