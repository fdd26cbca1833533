use Rattle.std.proofs.Common.{◌≡◌, List, Option, OnOk, subst}
use Rattle.host_names.specs.Cells.{cell_cmp}
use Rattle.host_names.specs.declared.cells.Cell.{Cell}
use Rattle.persistent_maps.specs.Edits.{edited_by}
use Rattle.site_state.specs.Changes.{writes}
use Rattle.site_state.specs.States.{with_cells}
use Rattle.site_state.specs.declared.values.Value.{Value}
use Rattle.site_state.proofs.Items.{named_as, of_state, of_state_or_kept, wrote_all, wrote_all_or_kept}
use Rattle.site_state.proofs.Sides.{writes_of_kind}
use Rattle.site_state.proofs.states.State.set_cells.Goals as goal

pub invariant_of-self : goal.invariant_of-self
invariant_of-self c =
    let all = writes c.args.side c.args.changes.now in
    let W : List (Cell × Option Value) → Type 0 = λ ws. OnOk c.write_all.result (c.write_all.new.self ≡ edited_by cell_cmp c.self.inside.cells ws) in
    let done = wrote_all_or_kept c.write_all.result c.self.inside.cells c.write_all.new.self c.args.self.now all c.self.invariant.are_items c.self.view_is
    (writes_of_kind c.args.side c.args.changes.now c.requires.of_kind) (subst W c.in_ok-all.ensures c.write_all.ensures.ok) c.write_all.ensures.err in
    of_state_or_kept c.write_all.result _ c.args.self.now (with_cells c.args.self.now all) done.items done.ok done.err (named_as _ _ c.self.invariant c.self.view_is) c.requires.named

pub returns-then-are_rising-clause-ok : goal.returns-then-are_rising-clause-ok
returns-then-are_rising-clause-ok c =
    let all = writes c.args.side c.args.changes.now in
    let W : List (Cell × Option Value) → Type 0 = λ ws. OnOk c.write_all.result (c.write_all.new.self ≡ edited_by cell_cmp c.self.inside.cells ws) in
    let done = wrote_all_or_kept c.write_all.result c.self.inside.cells c.write_all.new.self c.args.self.now all c.self.invariant.are_items c.self.view_is
    (writes_of_kind c.args.side c.args.changes.now c.requires.of_kind) (subst W c.in_ok-all.ensures c.write_all.ensures.ok) c.write_all.ensures.err in
    done.ok

pub invariant_of-self-2 : goal.invariant_of-self-2
invariant_of-self-2 c =
    let all = writes c.args.side c.args.changes.now in
    let done = wrote_all c.self.inside.cells c.in_ok-self-inside.field-0 c.args.self.now all c.self.invariant.are_items c.self.view_is
    (writes_of_kind c.args.side c.args.changes.now c.requires.of_kind) c.in_ok-self-inside.ensures in
    of_state _ (with_cells c.args.self.now all) done.items done.map c.requires.named

pub returns-clause-ok : goal.returns-clause-ok
returns-clause-ok c =
    let all = writes c.args.side c.args.changes.now in
    let done = wrote_all c.self.inside.cells c.in_ok-self-inside.field-0 c.args.self.now all c.self.invariant.are_items c.self.view_is
    (writes_of_kind c.args.side c.args.changes.now c.requires.of_kind) c.in_ok-self-inside.ensures in
    done.map
