use Rattle.std.proofs.Common.{inl, inr, [], is_some, arith, ap, sym, ◌∙◌, ℕ, refl}
use Rattle.std.specs.FinMap as map
use Rattle.host_names.specs.Cells.{cell_cmp}
use Rattle.host_names.specs.declared.cells.Cell.TheVariants as cell
use Rattle.site_change.specs.Changes.{site_of_command}
use Rattle.site_change.specs.declared.commands.Command.{Command}
use Rattle.change_undo.proofs.Places.{first_or_more, is_first}
use Rattle.change_undo.proofs.laws.wrong_answers_are_refused.Goals as goal

pub returns-clause-of_base : goal.returns-clause-of_base
returns-clause-of_base c site (inl there) = cc (sym (ap is_some (map.get-empty cell_cmp (cell.Draft site 1))) ∙ there)
returns-clause-of_base c site (inr there) = cc (sym (ap is_some (map.get-empty cell_cmp (cell.Kept site 1))) ∙ there)

pub returns-clause-draft_of_base : goal.returns-clause-draft_of_base
returns-clause-draft_of_base c site draft there = cc (sym (map.get-empty cell_cmp (cell.Draft site 1)) ∙ there)

pub returns-clause-record : goal.returns-clause-record
returns-clause-record c uploads plan is = omega (arith, is.lives.1)

pub returns-clause-record_of_another : goal.returns-clause-record_of_another
returns-clause-record_of_another c uploads command plan other is =
    other (is.planned.touched.0 ∙ elim (first_or_more (1, command) [] (1, is.command) is.lives) [
      | inl here ↦ sym (ap (λ (x : ℕ × Command). site_of_command x.1) here)
      | inr more ↦ absurd (omega (arith, more.1))
    ])

pub returns-clause-no_record : goal.returns-clause-no_record
returns-clause-no_record c uploads command none = none command (is_first (1, command) [] (1, command) refl)
