use Rattle.site_change.proofs.OfKind.{decided_of_kind, decided_of_kind_before, decided_named}
use Rattle.site_change.proofs.decisions.decide.Goals as goal

pub returns-clause-of_kind : goal.returns-clause-of_kind
returns-clause-of_kind g c = decided_of_kind c.args.command.now c.args.number c.args.state.now (g.U.Uploads.contents c.args.uploads.now) c.decision.result c.decision.ensures

pub returns-clause-of_kind_before : goal.returns-clause-of_kind_before
returns-clause-of_kind_before g c =
    decided_of_kind_before c.args.command.now c.args.number c.args.state.now (g.U.Uploads.contents c.args.uploads.now) c.values_are_of_kind.ensures c.decision.result c.decision.ensures

pub returns-clause-named : goal.returns-clause-named
returns-clause-named g c =
    decided_named c.args.command.now c.args.number c.args.state.now (g.U.Uploads.contents c.args.uploads.now) c.aliases_are_named.ensures c.decision.result c.decision.ensures
