use Rattle.std.proofs.Common.{◌++◌, [], ◌∷◌, ◌∙◌, ap, List, ℕ}
use Rattle.record_file.proofs.PutSteps.{framed_parts}
use Rattle.record_file.proofs.frames.framed_body.Goals as goal

pub returns : goal.returns
returns c =
    c.in_ok-push.ensures.items ∙ ap (λ (l : List ℕ). l ++ 0 ∷ [])
    (framed_parts c.in_ok-bytes.bytes.items c.to_be_bytes.result c.extend_from_slice.new.self.items c.extend_from_slice-2.new.self.items c.args.body.now
    c.in_ok-bytes.ensures.items c.to_be_bytes.ensures c.in_ok-extend_from_slice.ensures.items c.in_ok-extend_from_slice-2.ensures.items)
