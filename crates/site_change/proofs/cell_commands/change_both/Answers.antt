use Rattle.std.proofs.Common.{◌≡◌, inl, inr, IfOk, sym, ap, subst, ◌∙◌}
use Rattle.std.specs.Ordering.{is_eq}
use Rattle.std.specs.declared.cmp.Ordering.TheVariants.{Less}
use Rattle.host_names.specs.Cells.{cell_cmp}
use Rattle.host_names.specs.CellOrder.{cell_cmp_total}
use Rattle.site_state.specs.States.{State}
use Rattle.persistent_maps.proofs.Entries.{less_back}
use Rattle.site_change.specs.Plans.{IsDifference}
use Rattle.site_change.proofs.Deciding.{swapped}
use Rattle.site_change.proofs.cell_commands.change_both.Goals as goal

pub change_two-requires-in-Equal : goal.change_two-requires-in-Equal
change_two-requires-in-Equal c =
    let after : cell_cmp c.args.other.0 c.args.one.0 ≡ Less = elim c.in-Equal.is [
      | inl tie ↦ cc (sym c.requires.apart ∙ ap is_eq (sym c.cmp.ensures ∙ tie))
      | inr greater ↦ less_back cell_cmp_total c.args.one.0 c.args.other.0 (sym c.cmp.ensures ∙ greater)
    ] in
    record { apart = after; first = c.requires.other; second = c.requires.one }

pub returns-in-Equal : goal.returns-in-Equal
returns-in-Equal c =
    let P : State → Type 0 = λ s. IfOk c.change_two-in-Equal.result (λ changes. IsDifference c.args.state.now s changes.items) in
    subst P (swapped c.args.state.now c.args.one.0 c.args.other.0 c.args.one.1 c.args.other.1 c.requires.apart) c.change_two-in-Equal.ensures
