use Rattle.std.proofs.Common.{◌+◌, ◌-◌, List, drop, Option, Some, None, arith, sym, ap, subst, ◌∙◌}
use Rattle.host_names.specs.declared.cells.Cell.{Cell}
use Rattle.site_state.specs.declared.changes.Change.{Change as CellChange}
use Rattle.touch_index.specs.Next.{IsNext}
use Rattle.touch_index.specs.Postings.{may_touch_any}
use Rattle.change_undo.specs.Kept.{kept_touch}
use Rattle.change_undo.proofs.NextTouch.{next_one, no_next, within}
use Rattle.change_undo.proofs.WithoutClash.{in_cell}
use Rattle.change_undo.proofs.records.Records.kept_touch.Goals as goal

pub returns-in-Some-touched_by : goal.returns-in-Some-touched_by
returns-in-Some-touched_by c =
    let base = c.args.self.now.base in
    let logged = c.args.self.now.logged in
    let n = c.in-Some.number in
    let rest = kept_touch c.args.plan.now (n + 1) (drop (n - base) logged) in
    let P : List CellChange → Type 0 = λ cs. IsNext (may_touch_any c.index.result.now cs) c.entries.after (Some n) in
    let next = subst P c.as_slice-changes.ensures.value c.in-Some.ensures in
    ap (λ (o : Option Cell). in_cell n o rest) c.in-Some-touched_by.ensures
    ∙ sym (next_one c.index.result.now base logged c.args.plan.now c.entries.after n c.entries.invariant.0 c.index.ensures next)
    ∙ c.entries.invariant.1

pub entries-preserved : goal.entries-preserved
entries-preserved c =
    let base = c.args.self.now.base in
    let logged = c.args.self.now.logged in
    let n = c.in-Some.number in
    let rest = kept_touch c.args.plan.now (n + 1) (drop (n - base) logged) in
    let P : List CellChange → Type 0 = λ cs. IsNext (may_touch_any c.index.result.now cs) c.entries.after (Some n) in
    let next = subst P c.as_slice-changes.ensures.value c.in-Some.ensures in (
      omega (arith, c.entries.invariant.0, next.0),
      ap (λ (o : Option Cell). in_cell n o rest) c.in_default-touched_by.ensures
          ∙ sym (next_one c.index.result.now base logged c.args.plan.now c.entries.after n c.entries.invariant.0 c.index.ensures next)
          ∙ c.entries.invariant.1,
    )

pub entries-smaller : goal.entries-smaller
entries-smaller c =
    let n = c.in-Some.number in
    let P : List CellChange → Type 0 = λ cs. IsNext (may_touch_any c.index.result.now cs) c.entries.after (Some n) in
    let next = subst P c.as_slice-changes.ensures.value c.in-Some.ensures in
    let last = within c.index.result.now c.args.self.now.base c.args.self.now.logged c.args.plan.now.changes.items n (omega (arith, c.entries.invariant.0, next.0)) c.index.ensures next.1 in
    omega (arith, next.0, last)

pub returns : goal.returns
returns c =
    let base = c.args.self.now.base in
    let logged = c.args.self.now.logged in
    let P : List CellChange → Type 0 = λ cs. IsNext (may_touch_any c.index.result.now cs) c.entries.after None in
    let none = subst P c.as_slice-changes.ensures.value c.in_default.ensures in
    sym (no_next c.index.result.now base logged c.args.plan.now c.entries.after c.entries.invariant.0 c.index.ensures none) ∙ c.entries.invariant.1
