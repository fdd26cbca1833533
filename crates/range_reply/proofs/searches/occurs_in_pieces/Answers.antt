use Rattle.std.proofs.Common.{◌≡◌, ◌++◌, ◌∙◌, ap, refl, subst, sym, take}
use Rattle.std.proofs.lemmas.Bool.{false≢true}
use Rattle.std.specs.List.{concat}
use Rattle.byte_view.specs.Marks.{HasMark, mark}
use Rattle.byte_view.proofs.Occurrences.{OccursIn, occurs_through}
use Rattle.range_reply.proofs.Occurrences.{edge_of_seen, found_at_edge, found_in_piece, searched_more, searched_nothing}
use Rattle.range_reply.proofs.searches.occurs_in_pieces.Goals.{then-occurs-via-then-occurs, then-occurs-via-else-occurs+then-occurs-2, then-may_have_bytes, else-may_have_bytes, then-not-has_mark, else-not-has_mark}
use Rattle.range_reply.proofs.searches.occurs_in_pieces.Goals as goal

pub pieces-init : goal.pieces-init
pieces-init c = searched_nothing _ _ _ _ c.requires.some c.new-last.ensures refl

pub returns-then-occurs : goal.returns-then-occurs
returns-then-occurs c =
    let bytes = c.args.bytes.now in let piece = c.in-Some.piece.now in let edge = c.as_slice-in-pieces.result.now in
    let edge_is : edge ≡ c.pieces.last.items ++ take 64 piece =
    c.as_slice-in-pieces.ensures.value ∙ c.around_edge-edge.ensures ∙ ap (λ l. l ++ take 64 piece) c.as_slice.ensures.value in
    let left_is = ap concat c.in-Some.ensures.steps in
    let found : OccursIn bytes (concat c.args.pieces) =
    elim c.then-occurs.branch [
      | then-occurs-via-then-occurs w ↦ found_at_edge bytes _ _ edge piece _ _ c.pieces.invariant left_is edge_is (c.occurs.ensures.0 w.if-occurs.true)
      | then-occurs-via-else-occurs+then-occurs-2 w ↦ found_in_piece bytes _ _ edge piece _ _ c.pieces.invariant left_is edge_is
          (elim w.if-may_have_bytes.branch [
            | then-may_have_bytes v ↦ v.occurs-then-may_have_bytes.ensures.0 (cc (v.value-is, w.if-occurs-2.true))
            | else-may_have_bytes v ↦ absurd (cc (v.value-is, w.if-occurs-2.true))
          ])
    ] in
    (λ yes. found, λ o. refl)

pub pieces-preserved : goal.pieces-preserved
pieces-preserved c =
    let bytes = c.args.bytes.now in let piece = c.in-Some.piece.now in let edge = c.as_slice-in-pieces.result.now in
    let edge_is : edge ≡ c.pieces.last.items ++ take 64 piece =
    c.as_slice-in-pieces.ensures.value ∙ c.around_edge-edge.ensures ∙ ap (λ l. l ++ take 64 piece) c.as_slice.ensures.value in
    let edge_too : c.as_slice-in-pieces-2.result.now ≡ c.pieces.last.items ++ take 64 piece =
    c.as_slice-in-pieces-2.ensures.value ∙ c.around_edge-edge.ensures ∙ ap (λ l. l ++ take 64 piece) c.as_slice.ensures.value in
    let left_is = ap concat c.in-Some.ensures.steps in
    -- bytes that have the mark are in no piece that isn't told to have it
    let not_in_piece : ¬ (OccursIn bytes piece) = λ o.
    elim c.if-may_have_bytes.branch [
      | then-may_have_bytes w ↦ absurd (cc (w.value-is, c.if-occurs-2.false, w.occurs-then-may_have_bytes.ensures.1 o))
      | else-may_have_bytes w ↦ elim c.if-not-has_mark.branch [
        | then-not-has_mark v ↦ absurd (cc (v.may_have_bytes-is, w.if-may_have_bytes.false))
        | else-not-has_mark v ↦ (
            let in_bytes : OccursIn mark bytes =
            subst (λ m. OccursIn m bytes) c.mark.ensures (c.occurs-has_mark.ensures.0 (cc v.if-not-has_mark.false)) in
            let marked : HasMark piece = occurs_through mark bytes piece in_bytes o in
            absurd (cc (v.may_have_bytes-is, w.if-may_have_bytes.false, v.next_may_have_mark-may_have_bytes.ensures piece _ c.in-Some.ensures.steps marked)))
      ]
    ] in
    searched_more bytes _ _ edge piece _ _ c.pieces.invariant left_is edge_is _ c.requires.few
    (λ o. false≢true (sym c.if-occurs.false ∙ c.occurs.ensures.1 o)) not_in_piece
    (c.last_bytes_after-last.ensures c.pieces.invariant.seen (edge_of_seen bytes _ _ c.as_slice-in-pieces-2.result.now piece _ _ c.pieces.invariant left_is edge_too))
