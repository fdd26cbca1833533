use Rattle.std.proofs.Common.{sym, ap, ◌∙◌, ◌++◌, ◌∷◌, [], length, arith}
use Rattle.std.proofs.lemmas.List.{append-nil, append_assoc, length-append}
use Rattle.peer_ring.specs.Points.{points_of_peer}
use Rattle.peer_ring.proofs.Numbered.{points_more}
use Rattle.peer_ring.proofs.points.push_points.Goals as goal

-- none yet
pub loop-number-init : goal.loop-number-init
unfolding points_of_peer
loop-number-init g c = record { count = omega arith; points = sym (append-nil c.args.points.now.items) }

-- one more at the end
pub loop-number-preserved : goal.loop-number-preserved
loop-number-preserved g c =
    let hashed = g.H.RingHash.hashed c.args.hash.now in
    let old = c.args.points.now.items in
    let so_far = points_of_peer hashed c.args.name.now c.args.peer c.loop-number.number in
    record {
      count = omega (arith, ap length c.in_ok-push.ensures.items, length-append c.loop-number.points.items (c.in_ok-numbered_point.field-0 ∷ []), c.loop-number.invariant.count);
      points = c.in_ok-push.ensures.items
          ∙ (ap (λ points. points ++ c.in_ok-numbered_point.field-0 ∷ []) c.loop-number.invariant.points
          ∙ (append_assoc old so_far _
          ∙ (ap (λ point. old ++ (so_far ++ point ∷ [])) c.in_ok-numbered_point.ensures
          ∙ ap (λ points. old ++ points) (sym (points_more hashed c.args.name.now c.args.peer c.loop-number.number)))));
    }
