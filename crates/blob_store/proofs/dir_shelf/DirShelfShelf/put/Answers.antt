use Rattle.std.proofs.Common.{◌∙◌}
use Rattle.blob_store.proofs.FilePuts.{from_ok, of_ok}
use Rattle.blob_store.proofs.dir_shelf.DirShelfShelf.put.Goals as goal

pub returns-in-Ok-clause-put : goal.returns-in-Ok-clause-put
returns-in-Ok-clause-put g c =
    let is = c.logged_put.ensures.same in
    let says = c.in-Ok.ensures.put in
    of_ok c.logged_put.result _ _ _ is (from_ok c.logged_put.result _ _ _ is c.logged_put.ensures.put, (c.in-Ok._receipt, (says.0 ∙ c.as_str-folder.ensures, says.1, says.2)))
