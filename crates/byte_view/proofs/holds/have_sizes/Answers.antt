use Rattle.std.proofs.Common.{◌≡◌, ◌-◌, ◌*◌, length, min, [], ap, sym, ◌∙◌, arith, below_more}
use Rattle.std.proofs.lemmas.List.{get_or-map}
use Rattle.byte_view.proofs.holds.have_sizes.Goals as goal

pub loop-chunk-preserved : goal.loop-chunk-preserved
loop-chunk-preserved c =
    let left : min c.loop-chunk.left 65536 ≡ min 65536 (c.args.left - c.loop-chunk.chunk-index * 65536) = omega (arith, c.loop-chunk.invariant.0) in (
      omega (arith, c.loop-chunk.invariant.0),
      below_more _ _ c.loop-chunk.invariant.1
          (ap length (get_or-map (λ chunk. chunk.value) c.args.chunks.now c.loop-chunk.chunk-index c.chunk-item.result [] c.loop-chunk-test.true) ∙ ap (λ chunk. length chunk.value) (sym c.chunk-item.is)
          ∙ ap length (sym c.deref.ensures) ∙ ap length (sym c.view.ensures) ∙ sym c.len.ensures ∙ c.if-len-min.false ∙ c.min.ensures ∙ left),
    )
