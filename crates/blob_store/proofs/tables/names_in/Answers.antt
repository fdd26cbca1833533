use Rattle.std.proofs.Common.{◌≡◌, ℕ, ◌/◌, ◌≤◌, List, ◌++◌, length, map, drop, sym, ap, ◌∙◌, arith}
use Rattle.std.proofs.lemmas.List.{append-nil, drop_all}
use Rattle.std.specs.List.{concat}
use Rattle.blob_store.proofs.TableTexts.{all_sized, concat-first_chunks}
use Rattle.blob_store.proofs.tables.names_in.Goals as goal

all_done : (done arrays : List (List ℕ)) (k : ℕ) → length arrays ≤ k → done ++ drop k arrays ≡ arrays → done ≡ arrays
all_done done arrays k end so = sym (append-nil done) ∙ ap (λ l. done ++ l) (sym (drop_all k arrays end)) ∙ so

pub returns-clause-names : goal.returns-clause-names
returns-clause-names c =
    let all = all_done (map (λ name. name.0) c.loop-array.names.items) c.as_chunks.result.0.now c.loop-array.array-index (omega (arith, c.loop-array-test.false)) c.loop-array.invariant in
    ap concat all ∙ ap concat c.as_chunks.ensures.front ∙ concat-first_chunks (length c.args.bytes.now / 20) c.args.bytes.now (omega (arith, c.requires))

pub returns-clause-sized : goal.returns-clause-sized
returns-clause-sized c =
    let all = all_done (map (λ name. name.0) c.loop-array.names.items) c.as_chunks.result.0.now c.loop-array.array-index (omega (arith, c.loop-array-test.false)) c.loop-array.invariant in
    all_sized (length c.args.bytes.now / 20) c.args.bytes.now c.loop-array.names.items (omega (arith, c.requires)) (all ∙ c.as_chunks.ensures.front)
