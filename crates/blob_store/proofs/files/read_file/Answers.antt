use Rattle.std.proofs.Common.{rules, ◌≡◌, Err, length, subst, ◌∙◌}
use Rattle.host_names.specs.Digests.{digest_of}
use Rattle.blob_store.specs.Reads.{ArePiecesFault}
use Rattle.blob_store.proofs.FileReads.{other_file, pieces_fail, table_fails}
use Rattle.blob_store.proofs.files.read_file.Goals as goal
use Rattle.blob_store.proofs.files.read_file.Goals.{then-len-table-via-then-len-table, then-len-table-via-else-len-table+then-ne}

pub returns-in_err-table-clause-fault : goal.returns-in_err-table-clause-fault
returns-in_err-table-clause-fault g c =
    let why = c.in_err-table.field-0.0 in
    let is : c.from_residual.result ≡ Err why = search rules in
    let fault = table_fails g.S.Shelf.did c.args.shelf.now c.read_table.new.shelf c.args.digest.now why c.in_err-table.ensures.fault in
    search (rules, fault)

pub returns-in_err-read_pieces-clause-fault : goal.returns-in_err-read_pieces-clause-fault
returns-in_err-read_pieces-clause-fault g c =
    let why = c.in_err-read_pieces.field-0.0 in
    let table = c.in_ok-table.ensures.read in
    let is : c.from_residual-in_err-read_pieces.result ≡ Err why = search rules in
    let pieces = subst (λ names. ArePiecesFault g.S.Shelf.did c.read_table.new.shelf names why c.read_pieces.new.shelf) c.as_slice.ensures.value c.in_err-read_pieces.ensures.fault in
    let fault = pieces_fail g.S.Shelf.did c.args.shelf.now c.read_table.new.shelf c.read_pieces.new.shelf c.args.digest.now table.0 c.in_ok-table.table.size
    c.in_ok-table.table.names.items why table.1 table.2 pieces in
    search (rules, fault)

pub returns-then-len-table-clause-fault : goal.returns-then-len-table-clause-fault
returns-then-len-table-clause-fault g c =
    let table = c.in_ok-table.ensures.read in
    let read = c.in_ok-read_pieces.ensures.read in
    let joined = c.in_ok-read_pieces.field-0 in
    let differs : length joined ≡ c.in_ok-table.table.size → digest_of joined ≡ c.args.digest.now → ⊥ = elim c.then-len-table.branch [
      | then-len-table-via-then-len-table w ↦ λ sized is. search (rules, sized)
      | then-len-table-via-else-len-table+then-ne w ↦ λ sized is. search (rules, is)
    ] in
    other_file g.S.Shelf.did c.args.shelf.now c.read_table.new.shelf c.read_pieces.new.shelf c.args.digest.now joined table.0 c.in_ok-table.table.size c.in_ok-table.table.names.items
    table.1 table.2 (read.0 ∙ c.as_slice.ensures.value) read.1 differs
