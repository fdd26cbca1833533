use Rattle.std.proofs.Common.{ℕ, sym, ap, subst, ◌∙◌}
use Rattle.change_log.specs.Logs.{Log, with_entry}
use Rattle.site_change.specs.declared.entries.Entry.TheVariants.{Change}
use Rattle.host_server.specs.Hosts.{Host}
use Rattle.host_server.specs.Readiness.{AreReached}
use Rattle.host_server.proofs.Committing.{handed_on, put_missed, put_whole}
use Rattle.host_server.proofs.Reached.{reached_by_entry}
use Rattle.host_server.proofs.host.houses.SoloHouse.commit_into.Goals as goal

pub put_last-requires-clause-follows : goal.put_last-requires-clause-follows
put_last-requires-clause-follows g c =
    let longer = c.in_ok-next.ensures.entries ∙ ap (λ (l : Log). with_entry l (Change c.args.command)) (ap (λ (h : Host). h.entries) c.self.view_is ∙ sym c.requires.agrees) in
    ((Change c.args.command), c.in_ok-next.ensures.in_range, longer)

pub returns-in_err-put_last-clause-journal : goal.returns-in_err-put_last-clause-journal
returns-in_err-put_last-clause-journal g c =
    let longer = c.in_ok-next.ensures.entries ∙ ap (λ (l : Log). with_entry l (Change c.args.command)) (ap (λ (h : Host). h.entries) c.self.view_is ∙ sym c.requires.agrees) in
    put_missed g.D.Disk c.in_err-put_last.field-0.0 c.from_residual-in_err-put_last.result (Change c.args.command) c.in_ok-next.next.entries c.args.journal.now c.put_last.new.journal
    longer c.in_err-put_last.ensures.fault
    (handed_on c.from_residual-in_err-put_last.result c.in_err-put_last.field-0.0 c.from_residual-in_err-put_last.ensures.1)

pub returns-clause-journal : goal.returns-clause-journal
returns-clause-journal g c =
    let longer = c.in_ok-next.ensures.entries ∙ ap (λ (l : Log). with_entry l (Change c.args.command)) (ap (λ (h : Host). h.entries) c.self.view_is ∙ sym c.requires.agrees) in
    put_whole g.D.Disk ℕ 0 (Change c.args.command) c.in_ok-next.next.entries c.args.journal.now c.put_last.new.journal longer c.in_ok-put_last.ensures.put

pub invariant_of-self : goal.invariant_of-self
invariant_of-self g c = record {
  over = c.in_ok-next.ensures.over;
  reached = subst (λ (l : Log). AreReached l c.self.inside.uploads c.self.inside.readiness.places) (sym c.in_ok-next.ensures.entries)
      (reached_by_entry c.self.inside.history.entries (Change c.args.command) c.self.inside.uploads c.self.inside.readiness.places c.self.invariant.reached);
}
