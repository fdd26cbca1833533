use Rattle.std.proofs.Common.{rules, refl, nat_lt, inl, inr}
use Rattle.std.proofs.lemmas.Fn.{always_returns_same}
use Rattle.peer_ring.proofs.Owned.{sorted_parts, found_next, all_below, first_next, no_point}
use Rattle.peer_ring.proofs.rings.owner_among.Goals as goal

pub returns-then-place-points : goal.returns-then-place-points
returns-then-place-points c =
    let points = c.args.points.now in
    let parts = c.partition_point-place.ensures.partitioned (λ p. nat_lt p.hash c.args.hash) (always_returns_same _ _ _ (λ a r f called. search rules)) (sorted_parts points c.requires.sorted c.args.hash) in
    (_, refl, inl (found_next points c.requires.sorted c.args.hash c.partition_point-place.result no_point c.if-place-points.true parts))

pub returns-else-place-points : goal.returns-else-place-points
returns-else-place-points c =
    let points = c.args.points.now in
    let parts = c.partition_point-place.ensures.partitioned (λ p. nat_lt p.hash c.args.hash) (always_returns_same _ _ _ (λ a r f called. search rules)) (sorted_parts points c.requires.sorted c.args.hash) in (
      _,
      refl,
      inr (
        all_below points c.args.hash c.partition_point-place.result c.if-place-points.false parts,
        first_next points c.requires.sorted no_point c.requires.some,
      ),
    )
