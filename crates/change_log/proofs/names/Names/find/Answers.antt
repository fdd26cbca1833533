use Rattle.std.proofs.Common.{sym, ap, ◌∙◌}
use Rattle.std.specs.FinMap as finmap
use Rattle.host_names.specs.Cells.{cell_of}
use Rattle.change_log.proofs.Items.{get-names_in}
use Rattle.change_log.proofs.names.Names.find.Goals as goal

pub returns : goal.returns
returns c =
    let cell = cell_of c.args.sought in
    c.find.ensures ∙ sym (get-names_in c.self.inside.cells cell c.self.invariant) ∙ ap (λ names. finmap.get names cell) c.self.view_is
