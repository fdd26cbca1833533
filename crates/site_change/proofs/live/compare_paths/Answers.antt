use Rattle.std.proofs.Common.{sym, ◌∙◌}
use Rattle.site_change.proofs.live.compare_paths.Goals as goal
use Rattle.site_change.proofs.Differences.{compare_live}

pub returns : goal.returns
returns c = c.cmp.ensures ∙ sym (compare_live c.args.site.now c.in-Live.field-0 c.in-Live.path _ c.args.entry.now.0 c.in-Live.is c.requires)
