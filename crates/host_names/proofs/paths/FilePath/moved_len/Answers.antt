use Rattle.std.proofs.Common.{◌≡◌, ◌+◌, ◌-◌, ℕ, List, length, sym, ap, ◌∙◌}
use Rattle.host_names.proofs.Folders.{moved-length}
use Rattle.host_names.proofs.paths.FilePath.moved_len.Goals as goal

pub returns : goal.returns
returns c =
    (λ i. length (c.as_str-3.ensures.value i) + (c.saturating_sub-rest.ensures ∙ (λ j. length (c.as_str.ensures.value j) - length (c.as_str-2.ensures.value j))) i)
    ∙ sym (moved-length c.args.source.now c.args.target.now c.args.self.now)
