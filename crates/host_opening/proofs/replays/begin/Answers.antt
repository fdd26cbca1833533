use Rattle.std.proofs.Common.{rules, ◌≡◌, ◌∙◌, sym}
use Rattle.host_opening.proofs.Replayed.{new_replayed}
use Rattle.host_opening.proofs.replays.begin.Goals as goal

pub returns-then-base-eq0-clause-begun : goal.returns-then-base-eq0-clause-begun
returns-then-base-eq0-clause-begun g c =
    let zero : c.base.result ≡ 0 = search rules in
    new_replayed (g.U.Uploads.contents c.args.uploads.now) c.args.limit c.args.log.now c.new.result (sym c.base.ensures.base ∙ zero) (c.base.ensures.none zero) c.new.ensures
