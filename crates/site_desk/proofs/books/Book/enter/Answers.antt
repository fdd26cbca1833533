use Rattle.std.proofs.Common.{rules, ⊎_elim, ◌≡◌, ◌∙◌, ap, subst, sym}
use Rattle.byte_view.specs.Contents.{AreDigested, Contents}
use Rattle.change_log.specs.Logs.{with_entry}
use Rattle.change_undo.specs.Histories.{Past}
use Rattle.site_desk.proofs.books.Book.enter.Goals as goal

pub shared-requires : goal.shared-requires
shared-requires g c =
    let known = c.args.self.now.known in
    (known, subst (λ (files : Contents). AreDigested files) (ap (λ kept. kept.known) c.self.view_is) c.are_digested.ensures, c.requires.over)

pub show-receipt-requires-clause-follows : goal.show-receipt-requires-clause-follows
show-receipt-requires-clause-follows g c = (c.requires.follows.0, search rules)

-- a put that fails leaves the entries of the journal
pub invariant_of-self : goal.invariant_of-self
invariant_of-self g c =
    let old = c.self.invariant in
    let last = c.requires.follows.0 in
    let next : c.history-2.result.now ≡ c.args.next = search rules in
    let follows : c.history-2.result.now.entries ≡ with_entry c.self.inside.journal.entries last =
    ap (λ (past : Past). past.entries) next ∙ c.requires.follows.2 ∙ ap (λ kept. with_entry kept.journal.entries last) (sym c.self.view_is) in
    let same : c.put_last.new.journal.entries ≡ c.self.inside.journal.entries =
    ⊎_elim (λ full. ap (λ journal. journal.entries) full.1) (λ device. (device.1 last follows).entries) c.in_err-put_last.ensures.fault in
    record { limited = old.limited; journaled = same ∙ old.journaled; shown = old.shown; over = old.over }
