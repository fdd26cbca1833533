use Rattle.std.proofs.Common.{◌≡◌, ◌∙◌, true, ap, arith, length, map, refl}
use Rattle.byte_view.proofs.Stretches.{long_from_sizes, sizes_from_long}
use Rattle.byte_view.proofs.holds.Hold.new.Goals as goal

pub returns-then-not-have_sizes-clause-long : goal.returns-then-not-have_sizes-clause-long
returns-then-not-have_sizes-clause-long c =
    let size : c.len.result ≡ length c.args.info.value = c.len.ensures ∙ ap length c.deref.ensures in (
      λ e. absurd (cc),
      λ long.
          let sizes = sizes_from_long c.args.info.value c.args.first c.args.last (map (λ chunk. chunk.value) c.args.chunks.items) c.requires.ordered c.requires.within c.requires.named long in
          let fits : c.have_sizes.result ≡ true = c.have_sizes.ensures.1 (rw (c.as_slice.ensures.value, size) sizes) in
          cc,
    )

pub invariant_of-result : goal.invariant_of-result
invariant_of-result c =
    let size : c.len.result ≡ length c.args.info.value = c.len.ensures ∙ ap length c.deref.ensures in
    record {
      ordered = c.requires.ordered;
      within = c.requires.within;
      fits = omega (arith, size);
      named = c.requires.named;
      long =
          long_from_sizes c.args.info.value c.args.first c.args.last (map (λ chunk. chunk.value) c.args.chunks.items) c.requires.ordered c.requires.within c.requires.named
          (rw (← c.as_slice.ensures.value, ← size) (c.have_sizes.ensures.0 c.if-not-have_sizes.false));
    }

pub returns-clause-long : goal.returns-clause-long
returns-clause-long c = (λ e. (invariant_of-result c).long, λ long. refl)
