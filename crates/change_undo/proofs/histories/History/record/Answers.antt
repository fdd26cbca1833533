use Rattle.std.proofs.Common.{Option, sym, ap, subst, ◌∙◌}
use Rattle.site_change.specs.declared.plans.Plan.{Plan}
use Rattle.change_undo.specs.Histories.{Past, recorded}
use Rattle.change_undo.specs.Plans.{IsRecorded}
use Rattle.change_undo.proofs.Recorded.{record-over, recorded-kept}
use Rattle.change_undo.proofs.histories.History.«record».Goals as goal

pub returns-clause-value : goal.returns-clause-value
returns-clause-value c =
    let inside = c.self.inside in
    c.plan.ensures ∙ recorded-kept inside.limit inside.records inside.state c.args.number ∙ ap (λ (p : Past). recorded p c.args.number) c.self.view_is

pub returns-clause-over : goal.returns-clause-over
returns-clause-over c = λ uploads over.
    let P : Option Plan → Type 0 = IsRecorded uploads c.args.self.now.entries c.args.number in
    subst P (sym (returns-clause-value c)) (record-over c.args.self.now c.args.number uploads over)
