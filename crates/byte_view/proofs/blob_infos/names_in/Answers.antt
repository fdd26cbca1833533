use Rattle.std.proofs.Common.{◌≡◌, ◌∷◌, ◌++◌, [], sym, ap, ◌∙◌, length, min}
use Rattle.std.proofs.lemmas.List.{append_assoc}
use Rattle.byte_view.specs.Cuts.{names_of}
use Rattle.byte_view.proofs.CutPieces.{names_of-piece}
use Rattle.byte_view.proofs.blob_infos.names_in.Goals as goal

pub loop-piece-preserved : goal.loop-piece-preserved
loop-piece-preserved c =
    let step = c.in-Some.ensures.steps in
    let size : length c.in-Some.piece.now ≡ min 65536 (length c.loop-piece.piece-iterator.rest.now) =
    step.1.1 ∙ ap (λ n. min n (length c.loop-piece.piece-iterator.rest.now)) c.loop-piece.invariant.0 in
    let names = names_of-piece c.loop-piece.piece-iterator.rest.now c.in-Some.piece.now c.next.new.self.rest.now step.1.0 size step.1.2 in
    let rest = names_of c.next.new.self.rest.now in (
      step.0 ∙ c.loop-piece.invariant.0,
      ap (λ l. l ++ rest) c.in_ok-push.ensures.items ∙ append_assoc c.loop-piece.names.items (c.of_bytes.result ∷ []) rest
          ∙ ap (λ bytes. c.loop-piece.names.items ++ record { 0 = bytes } ∷ rest) c.of_bytes.ensures
          ∙ ap (λ l. c.loop-piece.names.items ++ l) (sym names) ∙ c.loop-piece.invariant.1,
    )
