use Rattle.std.proofs.Common.{rules, ◌≡◌, length, vec_len, ap, ◌∙◌}
use Rattle.persistent_lists.specs.Lists.{Shared}
use Rattle.persistent_lists.proofs.Joined.{length-all}
use Rattle.persistent_lists.proofs.block_lists.BlockList.len.Goals as goal

pub returns : goal.returns
returns g c =
    let full = c.self.inside.full in
    let last = c.self.inside.last in
    let blocks : vec_len full ≡ length full.items = search rules in
    let rest : vec_len last ≡ length last.items = search rules in
    length-all full.items last.items c.len.result c.len-2.result c.self.invariant.0 (c.len.ensures ∙ blocks) (c.len-2.ensures ∙ rest) ∙ ap (λ (s : Shared _). length s.items) c.self.view_is
