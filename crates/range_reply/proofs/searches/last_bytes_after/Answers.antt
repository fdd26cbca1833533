use Rattle.std.proofs.Common.{◌∙◌, ap, sym}
use Rattle.range_reply.specs.Searches.{ending}
use Rattle.range_reply.proofs.Occurrences.{ending_long, ending_short}
use Rattle.range_reply.proofs.searches.last_bytes_after.Goals.{then-piece-lt-SIDE, else-piece-lt-SIDE}
use Rattle.range_reply.proofs.searches.last_bytes_after.Goals as goal

pub returns : goal.returns
returns c = λ seen edge.
    c.last_bytes.ensures
    ∙ elim c.if-piece-lt-SIDE.branch [
      | then-piece-lt-SIDE w ↦ ap (λ text. ending text.now) w.last_bytes-is ∙ ap ending edge ∙ ending_short seen c.args.piece.now w.if-piece-lt-SIDE.true
      | else-piece-lt-SIDE w ↦ ap (λ text. ending text.now) w.last_bytes-is ∙ sym (ending_long seen c.args.piece.now w.if-piece-lt-SIDE.false)
    ]
