-- Chunks in the place of those over which edits are written.
use Rattle.std.proofs.Common.{◌≡◌, ℕ, ◌+◌, List, ◌++◌, take, drop, Option, Ordering, sym, ap, subst, ◌∙◌}
use Rattle.std.specs.Cmp.{IsTotalOrder}
use Rattle.std.proofs.lemmas.List.{take-append-drop}
use Rattle.shared_blocks.specs.Blocks.{joined}
use Rattle.persistent_maps.specs.Edits.{edited_by}
use Rattle.persistent_maps.specs.Maps.{AreBlocks, HaveItems}
use Rattle.persistent_maps.proofs.Filters.{AreBlocks-drop}
use Rattle.persistent_maps.proofs.Parts.{Rise}
use Rattle.persistent_maps.proofs.Rows.{HaveItems-append, HaveItems-left, joined-append}
use Rattle.persistent_maps.proofs.WrittenBlocks.{Rise-edited_by}

module _ {K X : Type 0} {R : K → K → Ordering} (o : IsTotalOrder R) where
  pub joined-replaced : (chunks written new : List (List (K × X))) (start end : ℕ) (edits : List (K × Option X)) → new ≡ take start chunks ++ (written ++ drop end chunks)
      → joined written ++ joined (drop end chunks) ≡ edited_by R (joined (drop start chunks)) edits
      → edited_by R (joined chunks) edits ≡ joined (take start chunks) ++ edited_by R (joined (drop start chunks)) edits
      → joined new ≡ edited_by R (joined chunks) edits
  joined-replaced chunks written new start end edits is run past =
      ap joined is ∙ joined-append (take start chunks) (written ++ drop end chunks)
      ∙ ap (λ l. joined (take start chunks) ++ l) (joined-append written (drop end chunks) ∙ run) ∙ sym past

  pub AreBlocks-replaced : (chunks written new : List (List (K × X))) (start end : ℕ) (edits : List (K × Option X)) → new ≡ take start chunks ++ (written ++ drop end chunks)
      → joined new ≡ edited_by R (joined chunks) edits → AreBlocks R chunks → HaveItems written → AreBlocks R new
  AreBlocks-replaced chunks written new start end edits is pairs are filled = record {
    filled = subst HaveItems (sym is) (HaveItems-append (take start chunks) (written ++ drop end chunks)
        (HaveItems-left (take start chunks) (drop start chunks) (subst HaveItems (sym (take-append-drop start chunks)) are.filled))
        (HaveItems-append written (drop end chunks) filled (AreBlocks-drop end chunks are).filled));
    sorted = subst (Rise R) (sym pairs) (Rise-edited_by o (joined chunks) edits are.sorted);
  }
