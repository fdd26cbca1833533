use Rattle.std.proofs.Common.{sym, ap, ◌∙◌}
use Rattle.std.specs.FinMap as finmap
use Rattle.change_log.proofs.Items.{found_lawful, get-names_in}
use Rattle.change_log.proofs.names.Names.are_lawful.Goals as goal

pub returns : goal.returns
returns c = λ cell name there.
    found_lawful _ cell name c.self.invariant.lawful
    (sym (get-names_in _ cell c.self.invariant) ∙ ap (λ names. finmap.get names cell) c.self.view_is ∙ there)
