use Rattle.std.specs.Prelude.{MatchResult}
use Rattle.std.proofs.Common.{rules, ◌≡◌, ◌∷◌, [], Err, Some, None, sym, ap, subst, ◌∙◌, arith}
use Rattle.std.proofs.lemmas.List.{drop_all}
use Rattle.host_names.specs.Digests.{digest_of}
use Rattle.host_names.specs.declared.digests.Digest.{Digest}
use Rattle.blob_store.specs.Calls.{PutsOthers, table_of}
use Rattle.blob_store.specs.declared.shelves.ShelfName.TheVariants.{Table}
use Rattle.blob_store.proofs.Turns.{front_of, is_put, last_put, piece_fails, piece_put, puts_of, rest_of}
use Rattle.blob_store.proofs.puts.put_file.Goals as goal

pub returns-in_err-put_new-clause-put : goal.returns-in_err-put_new-clause-put
returns-in_err-put_new-clause-put g c =
    let file = c.args.bytes.now in
    let stored = c.args.stored.now.names.keys in
    let bytes = c.loop-index.rest.now in
    let why = c.in_err-put_new.field-0.0 in
    let front = front_of bytes c.split_at.result.0.now c.min.result c.split_at.ensures.front c.min.ensures in
    let puts = piece_fails g.S.Shelf.did c.args.shelf.now (puts_of stored file) stored c.loop-index.shelf c.put_new.new.shelf (table_of file ∷ []) c.names-names.result.now c.loop-index.index
    (record { 0 = [] }) bytes c.split_at.result.0.now why c.loop-index.invariant.0 c.loop-index-test.true front c.in_err-put_new.ensures.put in
    let result : c.from_residual.result ≡ Err why = search rules in
    subst (λ r. MatchResult r (λ done. PutsOthers g.S.Shelf.did stored c.args.shelf.now file None c.put_new.new.shelf) (λ fault. PutsOthers g.S.Shelf.did stored c.args.shelf.now file (Some fault) c.put_new.new.shelf))
    (sym result) (is_put g.S.Shelf.did stored c.args.shelf.now c.put_new.new.shelf file (Some why) puts)

pub loop-index-preserved : goal.loop-index-preserved
loop-index-preserved g c =
    let file = c.args.bytes.now in
    let stored = c.args.stored.now.names.keys in
    let bytes = c.loop-index.rest.now in
    let least = c.min.ensures in
    let front = front_of bytes c.split_at.result.0.now c.min.result c.split_at.ensures.front least in
    let after = rest_of bytes c.split_at.result.1.now c.min.result c.split_at.ensures.back least in (
      piece_put g.S.Shelf.did c.args.shelf.now (puts_of stored file) stored c.loop-index.shelf c.put_new.new.shelf (table_of file ∷ []) c.names-names.result.now c.loop-index.index
          (record { 0 = [] }) bytes c.split_at.result.0.now c.split_at.result.1.now c.loop-index.invariant.0 c.loop-index-test.true front after c.in_ok-put_new.ensures.put,
      omega (arith, c.loop-index.invariant.1, c.in_ok-put_new.ensures.count),
    )

pub returns-clause-put : goal.returns-clause-put
returns-clause-put g c =
    let file = c.args.bytes.now in
    let stored = c.args.stored.now.names.keys in
    let names = c.names-names.result.now in
    let table = c.args.table.now in
    let none = drop_all c.loop-index.index names (omega (arith, c.loop-index-test.false)) in
    let is : (Table c.digest.result, table) ≡ table_of file =
    ap (λ (d : Digest). (Table d, table)) (c.digest.ensures ∙ ap digest_of c.requires.info) ∙ ap (λ t. (Table (digest_of file), t)) c.requires.table in
    last_put g.S.Shelf.did stored c.args.shelf.now c.loop-index.shelf c.put.new.self file _ _ c.loop-index.rest.now c.loop-index.invariant.0 none (Table c.digest.result, table) c.put.result is c.put.ensures.put
