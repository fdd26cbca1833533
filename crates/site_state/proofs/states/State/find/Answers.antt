use Rattle.std.proofs.Common.{sym, ap, ◌∙◌}
use Rattle.std.specs.FinMap as map
use Rattle.host_names.specs.Cells.{cell_of}
use Rattle.site_state.proofs.Items.{found_of_kind, get-state_of, kind_shown}
use Rattle.site_state.proofs.states.State.find.Goals as goal

pub returns-clause-found : goal.returns-clause-found
returns-clause-found c =
    let cell = cell_of c.args.sought in
    c.find.ensures ∙ sym (get-state_of c.self.inside.cells cell c.self.invariant.are_items) ∙ ap (λ s. map.get s cell) c.self.view_is

pub returns-clause-of_kind : goal.returns-clause-of_kind
returns-clause-of_kind c =
    let cell = cell_of c.args.sought in
    kind_shown cell c.find.result _ c.find.ensures (found_of_kind c.self.inside.cells cell c.self.invariant.are_items.of_kind)
