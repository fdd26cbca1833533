use Rattle.std.proofs.Common.{◌≡◌, ◌++◌, ◌∙◌, ap, take}
use Rattle.std.proofs.lemmas.List.{take_min}
use Rattle.range_reply.proofs.searches.around_edge.Goals as goal

pub returns : goal.returns
returns c =
    let before : c.try_extend_from_slice.new.self.items ≡ c.new-bytes.result.items ++ c.args.before.now = rw c.unwrap.ensures at c.try_extend_from_slice.ensures.ok in
    let after : c.try_extend_from_slice-2.new.self.items ≡ c.try_extend_from_slice.new.self.items ++ take c.min.result c.args.after.now =
    rw c.unwrap-2.ensures at c.try_extend_from_slice-2.ensures.ok in
    after ∙ ap (λ l. l ++ take c.min.result c.args.after.now) (before ∙ ap (λ l. l ++ c.args.before.now) c.new-bytes.ensures)
    ∙ ap (λ l. c.args.before.now ++ l) (ap (λ n. take n c.args.after.now) c.min.ensures ∙ take_min 64 c.args.after.now)
