use Rattle.std.proofs.Common.{ap, option_copied, sym, ◌∙◌}
use Rattle.site_state.specs.States.{with_cell}
use Rattle.site_state.proofs.Items.{kept_by_nothing, none_from, named_as, of_state_or_kept, wrote_or_kept}
use Rattle.site_state.proofs.states.State.set_cell.Goals as goal

pub returns-then-is_none-2-clause-ok : goal.returns-then-is_none-2-clause-ok
returns-then-is_none-2-clause-ok c = kept_by_nothing c.args.self.now c.args.cell c.args.value (none_from c.args.value c.if-is_none.ensures) (sym c.value.ensures.found ∙ ap option_copied (none_from c.value.result c.if-is_none-2.ensures))

pub invariant_of-self : goal.invariant_of-self
invariant_of-self c =
    let done = wrote_or_kept c.write.result _ _ c.args.self.now c.args.cell c.args.value c.self-2.invariant.are_items c.self-2.view_is c.requires.of_kind c.write.ensures.ok c.write.ensures.err in
    of_state_or_kept c.write.result _ c.args.self.now (with_cell c.args.self.now c.args.cell c.args.value) done.items done.ok done.err (named_as _ _ c.self-2.invariant c.self-2.view_is) c.requires.named

pub returns-clause-ok : goal.returns-clause-ok
returns-clause-ok c =
    let done = wrote_or_kept c.write.result _ _ c.args.self.now c.args.cell c.args.value c.self-2.invariant.are_items c.self-2.view_is c.requires.of_kind c.write.ensures.ok c.write.ensures.err in
    done.ok
