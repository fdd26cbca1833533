use Rattle.std.proofs.Common.{true, false, Option, ◌≡◌, sym, ap, ◌∙◌}
use Rattle.std.specs.FinMap as finmap
use Rattle.site_state.specs.Values.{are_alike}
use Rattle.site_state.specs.declared.values.Value.{Value}
use Rattle.site_change.proofs.Comparing.{changed_at, unchanged_at}
use Rattle.site_change.proofs.plans.change_in.Goals as goal

pub returns-then-is_same : goal.returns-then-is_same
returns-then-is_same c =
    let alike = ap (λ (v : Option Value). are_alike v c.args.after) (sym c.value-before.ensures.found) ∙ sym c.is_same.ensures ∙ c.if-is_same.true in
    unchanged_at c.args.cell (finmap.get c.args.state.now c.args.cell) c.args.after c.requires alike

pub returns : goal.returns
returns c =
    let differs = ap (λ (v : Option Value). are_alike v c.args.after) (sym c.value-before.ensures.found) ∙ sym c.is_same.ensures ∙ c.if-is_same.false in
    changed_at c.args.cell (finmap.get c.args.state.now c.args.cell) c.args.after _ c.requires differs
    (λ i. record { cell = c.args.cell; before = (c.in_ok-before.ensures ∙ c.value-before.ensures.found) i; after = c.args.after })
