use Rattle.std.proofs.Common.{ap, ◌∙◌}
use Rattle.change_log.proofs.Longer.{entry_at-with_entry}
use Rattle.change_log.specs.Logs.{entry_at}
use Rattle.site_change.specs.declared.entries.Entry.TheVariants.{Change}
use Rattle.host_server.specs.Hosts.{Host}
use Rattle.host_server.proofs.serving.ServerHouse.commit.Goals as goal

pub returns-clause-shown : goal.returns-clause-shown
returns-clause-shown g c =
    ap (λ (h : Host). entry_at h.entries c.in_ok-commit.field-0) c.in_ok-commit.ensures.entries
    ∙ entry_at-with_entry c.args.self.now.house.entries (Change c.args.command) c.in_ok-commit.field-0 c.in_ok-commit.ensures.number
