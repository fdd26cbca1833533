use Rattle.std.proofs.Common.{◌∙◌}
use Rattle.blob_store.proofs.FilePuts.{from_ok, of_ok, says_absent}
use Rattle.blob_store.proofs.dir_shelf.DirShelfShelf.get.Goals as goal

pub returns-in-Ok-Nothing-clause-got : goal.returns-in-Ok-Nothing-clause-got
returns-in-Ok-Nothing-clause-got g c =
    let is = c.logged_get.ensures.same in
    let nothing = c.in-Ok-Nothing.field-0-is in
    let folder = says_absent _ _ _ _ nothing c.in-Ok-Nothing.ensures.folder ∙ c.as_str.ensures in
    let name = says_absent _ _ _ _ nothing c.in-Ok-Nothing.ensures.name in
    of_ok c.logged_get.result _ _ _ is (from_ok c.logged_get.result _ _ _ is c.logged_get.ensures.got, (c.in-Ok-Nothing._receipt, (folder, name)))
