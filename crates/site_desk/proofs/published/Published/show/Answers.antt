use Rattle.std.proofs.Common.{rules, ◌≡◌, subst, sym}
use Rattle.growing.specs.Orders.{IsNewer}
use Rattle.change_log.specs.Logs.{BeginsWith, Log}
use Rattle.site_desk.proofs.NextEntry.{one_entry_more}
use Rattle.site_desk.proofs.published.Published.show.Goals as goal

pub push-requires-clause-newer : goal.push-requires-clause-newer
push-requires-clause-newer g c =
    let follows = c.requires.follows in
    let now : c.deref_mut.result.now.now ≡ c.args.self.now = search rules in
    subst (λ (old : Log). IsNewer (λ (a b : Log). BeginsWith b a) old c.args.log.now) (sym now)
    (subst (λ (new : Log). IsNewer (λ (a b : Log). BeginsWith b a) c.args.self.now new) (sym follows.1) (one_entry_more c.args.self.now follows.0))
