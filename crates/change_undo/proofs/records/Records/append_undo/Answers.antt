use Rattle.std.proofs.Common.{◌≡◌, ℕ, List, [], ◌∷◌, ◌++◌, ◌+◌, ◌-◌, length, slice_get, false, None, arith, refl, sym, ap, subst, ◌∙◌}
use Rattle.site_state.specs.Changes.{writes}
use Rattle.site_state.specs.States.{with_cells}
use Rattle.site_state.specs.declared.changes.Change.{Change as CellChange}
use Rattle.site_state.specs.declared.changes.Side.TheVariants.{Before}
use Rattle.site_change.specs.declared.entries.Entry.TheVariants as entry
use Rattle.change_undo.specs.declared.marks.Mark.{Mark}
use Rattle.change_undo.specs.Indexed.{IsIndexOf}
use Rattle.change_log.specs.Appending.{AreWritable}
use Rattle.change_log.specs.Logs.{Log, next_number, with_entry}
use Rattle.change_undo.specs.Kept.{changes_of, plan_at}
use Rattle.change_undo.specs.PlannedEntries.{PlannedEntry, PlannedLog, log_of, marked_log, marks_of, plan_in, with_logged, with_undo, with_undone}
use Rattle.change_undo.proofs.Chains.{chained-after}
use Rattle.change_undo.proofs.Indexed.{indexed-other}
use Rattle.change_undo.proofs.WithMarks.{length-with_marks, lengths-undone, log_of-marked, marks_of-with_marks, plan_at-mark, with_marks-undone}
use Rattle.change_undo.proofs.records.Records.append_undo.Goals as goal

-- what the change changes, as it is found next to the marks
found : (log : Log) (marks : List Mark) (planned : PlannedLog) (k base : ℕ) → length log.entries ≡ length marks → marked_log log marks ≡ planned → base ≡ log.base
    → changes_of (plan_in (slice_get marks (k - base - 1))) ≡ changes_of (plan_at planned.logged (k - planned.base - 1))
found log marks planned k base lengths is at =
    ap (λ (b : ℕ). changes_of (plan_in (slice_get marks (k - b - 1)))) (at ∙ ap (λ (p : PlannedLog). p.base) is)
    ∙ ap (λ (ms : List Mark). changes_of (plan_in (slice_get ms (k - planned.base - 1)))) (sym (marks_of-with_marks log.entries marks lengths) ∙ ap (λ (p : PlannedLog). marks_of p.logged) is)
    ∙ ap changes_of (sym (plan_at-mark planned.logged (k - planned.base - 1)))

pub append-requires : goal.append-requires
append-requires c =
    let changes = c.changes_in-changes.ensures
    ∙ found c.self.inside.log c.self.inside.marks.items c.args.self.now c.args.change c.base.result c.self.invariant.lengths c.self.view_is c.base.ensures.base in
    let P : List CellChange → Type 0 = AreWritable c.args.state.now Before in
    record { writable = subst P (sym changes) c.requires.writable }

pub returns-clause-state : goal.returns-clause-state
returns-clause-state c =
    let changes = c.changes_in-changes.ensures
    ∙ found c.self.inside.log c.self.inside.marks.items c.args.self.now c.args.change c.base.result c.self.invariant.lengths c.self.view_is c.base.ensures.base in
    c.in_ok-append.ensures.state ∙ ap (λ (cs : List CellChange). with_cells c.args.state.now (writes Before cs)) changes

pub invariant_of-self-2 : goal.invariant_of-self-2
invariant_of-self-2 c =
    let log = c.self.inside.log in
    let planned = c.args.self.now in
    let k = c.args.change in
    let i = k - planned.base - 1 in
    let mark : Mark = record { is_undone = false; plan = None } in
    let l : PlannedEntry = record { entry = entry.Undo c.args.site.now k; is_undone = false; plan = None } in
    let whole = ap (λ (p : PlannedLog). p.base + length p.logged) c.self.view_is in
    let size = ap (λ (p : PlannedLog). length p.logged) c.self.view_is in
    let same = sym (log_of-marked log c.self.inside.marks.items c.self.invariant.lengths) ∙ ap log_of c.self.view_is in
    let pushed = c.in_ok-append.ensures.entries ∙ (λ j. with_entry (same j) (entry.Undo (c.copied.ensures j) k)) in
    let kept = (λ j. marked_log (pushed j) (c.in_ok-marks.ensures j)) ∙ ap (with_logged planned) (with_marks-undone i planned.logged (entry.Undo c.args.site.now k) mark) in
    let P : PlannedLog → Type 0 = λ p. IsIndexOf p.base p.logged c.in_ok-index.index in
    let sites = c.self.inside.sites in
    let count = length-with_marks log.entries c.self.inside.marks.items c.self.invariant.lengths in
    let next : c.args.number ≡ next_number log = omega (arith, c.requires.next, whole, count) in
    record {
      lengths =
          ap (λ (l : Log). length l.entries) c.in_ok-append.ensures.entries
          ∙ lengths-undone log.entries i planned.logged (entry.Undo c.copied.result k) mark (omega (arith, size, count))
          ∙ sym (ap (λ (ms : List Mark). length ms) c.in_ok-marks.ensures);
      indexed = subst P (sym kept) (indexed-other c.in_ok-index.index planned.base (with_undone i planned.logged) l refl c.in_ok-index.ensures);
      chained = chained-after log _ (entry.Undo c.copied.result k) sites.earlier.items _ sites.last _ c.in_ok-addition.addition.before c.args.number c.args.site.now
          next c.self.invariant.chained c.in_ok-append.ensures.entries (sym c.copied.ensures)
          c.in_ok-addition.ensures.before (c.add.ensures.earlier ∙ ap (λ (ks : List ℕ). ks ++ c.in_ok-addition.addition.before ∷ []) c.in_ok-addition.ensures.earlier)
          (c.add.ensures.last ∙ c.in_ok-addition.ensures.added);
    }

pub returns-clause-entries : goal.returns-clause-entries
returns-clause-entries c =
    let planned = c.args.self.now in
    let k = c.args.change in
    let mark : Mark = record { is_undone = false; plan = None } in
    let same = sym (log_of-marked c.self.inside.log c.self.inside.marks.items c.self.invariant.lengths) ∙ ap log_of c.self.view_is in
    let pushed = c.in_ok-append.ensures.entries ∙ (λ j. with_entry (same j) (entry.Undo (c.copied.ensures j) k)) in
    (λ j. marked_log (pushed j) (c.in_ok-marks.ensures j))
    ∙ ap (with_logged planned) (with_marks-undone (k - planned.base - 1) planned.logged (entry.Undo c.args.site.now k) mark)
