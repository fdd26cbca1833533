use Rattle.std.proofs.Common.{◌≡◌, ℕ, ◌+◌, List, [], ◌∷◌, ◌++◌, length, false, Some, arith, refl, sym, ap, subst, ◌∙◌}
use Rattle.std.proofs.lemmas.List.{length-append}
use Rattle.site_change.specs.declared.plans.Plan.{Plan}
use Rattle.site_change.specs.declared.entries.Entry.TheVariants as entry
use Rattle.change_log.specs.Logs.{Log, next_number}
use Rattle.change_undo.specs.declared.marks.Mark.{Mark}
use Rattle.change_undo.specs.Indexed.{IsIndexOf}
use Rattle.change_undo.specs.PlannedEntries.{PlannedEntry, PlannedLog, marked_log, with_logged, with_marks}
use Rattle.change_undo.proofs.Indexed.{indexed-change}
use Rattle.change_undo.proofs.Chains.{chained-after}
use Rattle.change_undo.proofs.WithMarks.{length-with_marks, with_marks-push}
use Rattle.change_undo.proofs.records.Records.append_change.Goals as goal

-- the mark of a change with this plan
abbrev kept : Plan → Mark
kept plan = record { is_undone = false; plan = Some plan }

pub invariant_of-self-2 : goal.invariant_of-self-2
invariant_of-self-2 c =
    let log = c.self.inside.log in
    let marks = c.self.inside.marks.items in
    let plan = c.args.plan in
    let mark : Mark = record { is_undone = false; plan = Some plan } in
    let l : PlannedEntry = record { entry = entry.Change c.args.command; is_undone = false; plan = Some plan } in
    let pushed = c.push_reserved.ensures ∙ ap (λ (ms : List Mark). ms ++ c.of_change.result ∷ []) c.in_ok-reserve.ensures.items
    ∙ ap (λ (m : Mark). marks ++ m ∷ []) (c.of_change.ensures ∙ ap kept c.in_ok-plan.ensures) in
    let whole = (λ i. marked_log (c.in_ok-append.ensures.entries i) (pushed i))
    ∙ ap (with_logged (marked_log log marks)) (with_marks-push log.entries marks (entry.Change c.args.command) mark c.self.invariant.lengths) in
    let P : PlannedLog → Type 0 = λ p. IsIndexOf p.base p.logged c.in_ok-index.index in
    let sites = c.self.inside.sites in
    let count = length-with_marks log.entries marks c.self.invariant.lengths in
    let size = ap (λ (p : PlannedLog). p.base + length p.logged) c.self.view_is in
    let next : c.args.number ≡ log.base + length (with_marks log.entries marks) + 1 = omega (arith, c.requires.next, size) in
    let number : c.args.number ≡ next_number log = omega (arith, next, count) in
    record {
      lengths =
          ap (λ (l : Log). length l.entries) c.in_ok-append.ensures.entries
          ∙ omega (arith, c.self.invariant.lengths, length-append log.entries (entry.Change c.args.command ∷ []), length-append marks (mark ∷ []))
          ∙ sym (ap (λ (ms : List Mark). length ms) pushed);
      indexed = subst P (sym whole) (indexed-change c.in_ok-index.index c.self.inside.index log.base (with_marks log.entries marks) l plan c.args.number
          next refl c.self.invariant.indexed c.in_ok-index.ensures);
      chained = chained-after log _ (entry.Change c.args.command) sites.earlier.items _ sites.last _ c.in_ok-addition.addition.before c.args.number c.site.result.now
          number c.self.invariant.chained c.in_ok-append.ensures.entries c.site.ensures
          c.in_ok-addition.ensures.before (c.add.ensures.earlier ∙ ap (λ (ks : List ℕ). ks ++ c.in_ok-addition.addition.before ∷ []) c.in_ok-addition.ensures.earlier)
          (c.add.ensures.last ∙ c.in_ok-addition.ensures.added);
    }

pub returns-clause-entries : goal.returns-clause-entries
returns-clause-entries c =
    let log = c.self.inside.log in
    let marks = c.self.inside.marks.items in
    let mark = kept c.args.plan in
    let pushed = c.push_reserved.ensures ∙ ap (λ (ms : List Mark). ms ++ c.of_change.result ∷ []) c.in_ok-reserve.ensures.items
    ∙ ap (λ (m : Mark). marks ++ m ∷ []) (c.of_change.ensures ∙ ap kept c.in_ok-plan.ensures) in
    (λ i. marked_log (c.in_ok-append.ensures.entries i) (pushed i))
    ∙ ap (with_logged (marked_log log marks)) (with_marks-push log.entries marks (entry.Change c.args.command) mark c.self.invariant.lengths)
    ∙ ap (λ (p : PlannedLog). with_logged p (p.logged ++ record { entry = entry.Change c.args.command; is_undone = false; plan = Some c.args.plan } ∷ [])) c.self.view_is
