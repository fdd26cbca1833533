use Rattle.std.proofs.Common.{inl}
use Rattle.host_server.proofs.stores.run_store.Goals as goal

pub returns-in-Ok : goal.returns-in-Ok
returns-in-Ok g c = inl (c.in-Ok.server, c.in-Ok.ensures.opened, c.serve_server.ensures)
