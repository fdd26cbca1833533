use Rattle.std.proofs.Common.{◌≡◌, None, inl, subst, sym}
use Rattle.blob_store.specs.Shelves.{found_in}
use Rattle.host_server.proofs.solo.run_in_memory.Goals as goal

pub returns-in-Ok : goal.returns-in-Ok
returns-in-Ok g c =
    let start = c.in-Ok.ensures in inl (
      c.in-Ok.server,
      record { host = start.house; journal = start.journal; shelf = λ name. subst (λ shelf. found_in shelf name ≡ None) (sym start.shelf) (c.new.ensures name); cache = start.cache },
      c.serve_server.ensures,
    )
