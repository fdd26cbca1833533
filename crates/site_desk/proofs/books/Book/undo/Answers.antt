use Rattle.std.proofs.Common.{◌≡◌, ◌∙◌, IfOk, ap, subst}
use Rattle.change_log.specs.Logs.{Log, with_entry}
use Rattle.site_change.specs.declared.entries.Entry.TheVariants as entry
use Rattle.site_desk.proofs.books.Book.undo.Goals as goal

pub returns-in-Ok-clause-entered : goal.returns-in-Ok-clause-entered
returns-in-Ok-clause-entered g c =
    let last = entry.Undo c.args.site.now c.args.change in
    let follows : c.in-Ok.undone.entries ≡ with_entry c.args.self.now.journal.entries last =
    c.in-Ok.ensures.entries ∙ ap (λ (log : Log). with_entry log last) c.history.ensures.entries in
    c.enter.ensures.entered last follows

pub returns-in-Ok-clause-receipt : goal.returns-in-Ok-clause-receipt
returns-in-Ok-clause-receipt g c =
    let last = entry.Undo c.args.site.now c.args.change in
    let follows : c.in-Ok.undone.entries ≡ with_entry c.args.self.now.journal.entries last =
    c.in-Ok.ensures.entries ∙ ap (λ (log : Log). with_entry log last) c.history.ensures.entries in
    subst (λ (log : Log). IfOk c.enter.result (λ receipt. receipt ≡ log)) follows c.enter.ensures.receipt
