use Rattle.std.proofs.Common.{rules, ◌∙◌, ℕ, Option, subst}
use Rattle.host_names.specs.declared.names.SiteName.{SiteName}
use Rattle.site_change.specs.declared.commands.Command.TheVariants.{Publish}
use Rattle.site_change.specs.declared.entries.Entry.TheVariants.{Change}
use Rattle.host_server.specs.Journals.{IsJournaled}
use Rattle.host_server.proofs.Journaling.{entered_err}
use Rattle.host_server.proofs.host.houses.SoloHouse.publish_if_ready.Goals as goal

pub returns-in_err-entry-clause-journal : goal.returns-in_err-entry-clause-journal
returns-in_err-entry-clause-journal g c =
    let old = c.args.self.now in
    let journal = c.args.journal.now in
    let site = c.copied-site.result in
    subst (λ (s : SiteName). IsJournaled {A = Option ℕ} g.D.Disk (Change (Publish s c.args.number)) c.from_residual.result old journal c.commit.new.self c.commit.new.journal)
    c.copied-site.ensures
    (entered_err g.D.Disk c.commit.result c.from_residual.result c.in_err-entry.field-0.0 (Change (Publish site c.args.number)) old c.commit.new.self journal c.commit.new.journal
    c.commit.ensures.journal c.in_err-entry.was (search rules) (c.in_err-entry.ensures.err ∙ c.is_ready.ensures.same))
