use Rattle.std.proofs.Common.{sym, ap, ◌∙◌}
use Rattle.std.specs.FinMap as finmap
use Rattle.change_log.proofs.Items.{entries-names_in, filter_all}
use Rattle.change_log.proofs.names.Names.cells.Goals as goal

pub returns : goal.returns
returns c = c.range.ensures ∙ filter_all c.self.inside.cells ∙ sym (entries-names_in c.self.inside.cells c.self.invariant) ∙ ap finmap.entries c.self.view_is
