use Rattle.std.proofs.Common.{◌+◌, [], false, drop, get_or, arith}
use Rattle.std.proofs.lemmas.List.{drop_all, drop_more}
use Rattle.blob_store.specs.declared.openings.Wanted.{Wanted}
use Rattle.blob_store.proofs.TakenFiles.{all_taken, taken_more}
use Rattle.blob_store.proofs.openings.open_files.Goals as goal

pub loop-one-preserved : goal.loop-one-preserved
loop-one-preserved g c =
    let k = c.loop-one.one-index in
    let wanted = c.args.wanted.now in
    let nothing : Wanted = record { digest = record { 0 = [] }; must = false } in
    let taken = c.in_ok-take_file.ensures.taken in (
      taken_more g.S.Shelf.did c.args.shelf.now c.loop-one.shelf c.take_file.new.shelf wanted (drop k wanted) (drop (k + 1) wanted) (get_or wanted k nothing)
          c.loop-one.known c.take_file.new.known taken.0 (drop_more wanted k nothing c.loop-one-test.true) c.loop-one.invariant.0 taken.1 taken.2,
      omega (arith, c.loop-one.invariant.1, c.in_ok-take_file.ensures.count),
    )

pub returns-clause-opened : goal.returns-clause-opened
returns-clause-opened g c =
    let k = c.loop-one.one-index in
    let wanted = c.args.wanted.now in
    all_taken g.S.Shelf.did c.args.shelf.now c.loop-one.shelf wanted (drop k wanted) c.loop-one.known (drop_all k wanted (omega (arith, c.loop-one-test.false)))
    c.loop-one.invariant.0
