use Rattle.std.proofs.Common.{rules, ◌≡◌, ◌≢◌, ◌-◌, ◌*◌, All, Err, ℕ, IfErr, IfSome, IsSome, List, Some, length, map, take, drop, refl, subst, sym, ap, ◌∙◌, arith}
use Rattle.std.proofs.lemmas.List.{length-drop, take_all}
use Rattle.std.specs.Int.{to_be_bytes, w64}
use Rattle.std.specs.List.{concat}
use Rattle.host_names.specs.declared.digests.Digest.{Digest}
use Rattle.blob_store.specs.declared.tables.TableFault.TheVariants.{OutOfMemory}
use Rattle.blob_store.specs.Tables.{IsTable, Spells, pieces_of, size_of}
use Rattle.blob_store.proofs.TableTexts.{names_behind, text_with}
use Rattle.blob_store.proofs.tables.Table.read.Goals as goal

pub returns-in_err-names-clause-memory : goal.returns-in_err-names-clause-memory
returns-in_err-names-clause-memory c =
    let text = c.args.text.now in
    let size = c.in_ok-size.size in
    let is : c.size_in.result ≡ Some size = search rules in
    let table : IsTable text = c.size_in.ensures.table.0 (subst IsSome (sym is) refl) in
    let told : size ≡ size_of text = subst (λ o. IfSome o (λ s. s ≡ size_of text)) is c.size_in.ensures.size in
    let front : to_be_bytes w64 size ≡ take 8 text = subst (λ o. IfSome o (λ s. to_be_bytes w64 s ≡ take 8 text)) is c.size_in.ensures.spelled in
    let behind = names_behind text size table told front in
    let some : size ≢ 0 = search rules in
    let fails : c.from_residual-in_err-names.result ≡ Err OutOfMemory = search rules in
    subst (λ r. IfErr r (λ fault. fault ≡ OutOfMemory → (size : ℕ) × (names : List Digest) × Spells text size names × (size ≢ 0))) (sym fails)
    (λ memory. (size, behind.0, behind.1, some))

pub returns-clause-read : goal.returns-clause-read
returns-clause-read c =
    let text = c.args.text.now in
    let size = c.in_ok-size.size in
    let names = c.in_ok-names.names.items in
    let is : c.size_in.result ≡ Some size = search rules in
    let table : IsTable text = c.size_in.ensures.table.0 (subst IsSome (sym is) refl) in
    let told : size ≡ size_of text = subst (λ o. IfSome o (λ s. s ≡ size_of text)) is c.size_in.ensures.size in
    let front : to_be_bytes w64 size ≡ take 8 text = subst (λ o. IfSome o (λ s. to_be_bytes w64 s ≡ take 8 text)) is c.size_in.ensures.spelled in
    let left = length-drop 8 text in
    let bytes = take (length text - 8) (drop 8 text) in
    let whole : bytes ≡ drop 8 text = take_all (length text - 8) (drop 8 text) (omega (arith, left)) in
    let back : concat (map (λ (name : Digest). name.0) names) ≡ bytes = search rules in
    let counted : length names * 20 ≡ length bytes = search rules in
    let sized : All (λ (name : Digest). length name.0 ≡ 20) names = search rules in
    record {
      small = omega (arith, told, table.small);
      count = omega (arith, counted, ap length whole, left, table.room, table.long, ap pieces_of told);
      named = sized;
      spelled = text_with text size names front (back ∙ whole);
    }
