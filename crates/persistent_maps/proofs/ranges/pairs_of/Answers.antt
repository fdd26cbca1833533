use Rattle.std.proofs.Common.{filter, subst, sym, ap, ◌∙◌}
use Rattle.persistent_maps.proofs.Parts.{Rise}
use Rattle.persistent_maps.proofs.ranges.pairs_of.Goals as goal

pub pairs_in-requires : goal.pairs_in-requires
pairs_in-requires g c = record {
  filled = c.as_slice.ensures.filled;
  sorted = subst (Rise g.K.Ord.cmp) (sym c.as_slice.ensures.pairs) c.requires;
}

pub returns : goal.returns
returns g c = c.pairs_in.ensures ∙ ap (filter (λ e. g.S.Span.within c.args.span.now e.0)) c.as_slice.ensures.pairs
