use Rattle.std.proofs.Common.{◌≡◌, ap, subst, sym, ◌∙◌}
use Rattle.std.specs.FinMap as map
use Rattle.std.proofs.lemmas.List.Elements.{All-from_recursion}
use Rattle.site_state.specs.Changes.{writes}
use Rattle.site_state.specs.Named.{AliasesNamed}
use Rattle.site_state.specs.States.{State, with_cells}
use Rattle.site_state.specs.declared.changes.Side.TheVariants.{After}
use Rattle.change_log.proofs.BaseNames.{aliases-written, kinds-written, known-base, resolved-written}
use Rattle.change_log.proofs.founding.state_of.Goals as goal

pub changes_of-requires : goal.changes_of-requires
changes_of-requires g c = known-base (g.U.Uploads.contents c.args.uploads.now) c.requires.0 c.args.names.now c.requires.1

pub set_cells-requires-clause-of_kind : goal.set_cells-requires-clause-of_kind
set_cells-requires-clause-of_kind g c =
    let written = ap (writes After) c.as_slice.ensures.value ∙ c.in_ok-changes.ensures in
    All-from_recursion _ c.as_slice.result.now
    (kinds-written (g.U.Uploads.contents c.args.uploads.now) c.requires.0 c.args.names.now c.as_slice.result.now written c.requires.1)

pub set_cells-requires-clause-named : goal.set_cells-requires-clause-named
set_cells-requires-clause-named g c =
    let written = ap (writes After) c.as_slice.ensures.value ∙ c.in_ok-changes.ensures in
    subst (λ (s : State). AliasesNamed (with_cells s (writes After c.as_slice.result.now))) (sym c.new-state.ensures)
    (aliases-written (g.U.Uploads.contents c.args.uploads.now) c.requires.0 c.args.names.now c.as_slice.result.now written c.requires.1)

pub returns : goal.returns
returns g c =
    let uploads = g.U.Uploads.contents c.args.uploads.now in
    c.in_ok-set_cells.ensures.ok ∙ ap (λ (s : State). with_cells s (writes After c.as_slice.result.now)) c.new-state.ensures
    ∙ ap (with_cells map.empty) (ap (writes After) c.as_slice.ensures.value ∙ c.in_ok-changes.ensures)
    ∙ resolved-written uploads c.requires.0 c.args.names.now
