use Rattle.std.proofs.Common.{◌≡◌, ◌+◌, take, length}
use Rattle.std.specs.List.{flat_map}
use Rattle.byte_view.specs.Cuts.{slice}
use Rattle.range_reply.specs.Multipart.{part_text, text_of}
use Rattle.range_reply.proofs.lengths.with_parts.Given as goal

abbrev pub invariant-loop-interval : goal.invariant-loop-interval
invariant-loop-interval l =
    l.total ≡ l.fn.total
    + length (flat_map (λ i. part_text (text_of l.boundary) l.content_type.text.now (length l.info) (i, slice l.info i.0 i.1)) (take l.interval-index l.intervals))
