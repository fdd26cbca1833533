use Rattle.std.proofs.Common.{rules, ◌≡◌, ◌+◌, [], Err, drop, get_or, arith}
use Rattle.std.proofs.lemmas.List.{drop_more}
use Rattle.blob_store.proofs.FileReads.{no_more, one_more}
use Rattle.blob_store.proofs.files.read_pieces.Goals as goal

pub returns-in_err-read_next-clause-fault : goal.returns-in_err-read_next-clause-fault
returns-in_err-read_next-clause-fault g c =
    let did = g.S.Shelf.did in
    let why = c.in_err-read_next.field-0.0 in
    let names = c.args.names.now in
    let k = c.loop-name.name-index in
    let is : c.from_residual.result ≡ Err why = search rules in
    let fault = no_more did c.args.shelf.now c.loop-name.shelf c.read_next.new.shelf c.loop-name.joined (drop k names) names (get_or names k (record { 0 = [] })) why
    (drop (k + 1) names) (drop_more names k (record { 0 = [] }) c.loop-name-test.true) c.loop-name.invariant.0 c.in_err-read_next.ensures.fault in
    search (rules, fault)

pub loop-name-preserved : goal.loop-name-preserved
loop-name-preserved g c =
    let names = c.args.names.now in
    let k = c.loop-name.name-index in (
      one_more g.S.Shelf.did c.args.shelf.now c.loop-name.shelf c.read_next.new.shelf c.loop-name.joined (drop k names) names (get_or names k (record { 0 = [] }))
          c.read_next.new.joined (drop (k + 1) names) (drop_more names k (record { 0 = [] }) c.loop-name-test.true) c.loop-name.invariant.0 c.in_ok-read_next.ensures.read,
      omega (arith, c.loop-name.invariant.1, c.in_ok-read_next.ensures.count),
    )
