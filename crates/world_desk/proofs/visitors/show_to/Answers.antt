use Rattle.std.proofs.Common.{◌<◌, ◌≤◌, sym, ap, ◌∙◌, length, arith}
use Rattle.change_log.specs.Logs.{Log}
use Rattle.world_desk.specs.Sights.{seen}
use Rattle.world_desk.proofs.Changing.{change_past, change_written}
use Rattle.world_desk.proofs.visitors.show_to.Goals as goal

pub returns-in_ok-see-clause-ok : goal.returns-in_ok-see-clause-ok
returns-in_ok-see-clause-ok c =
    let within : c.args.visitor < length c.args.visitors.now.items = omega arith in
    let old = c.index_mut-visitor.result.now in
    change_written (seen c.args.sight c.args.shown.now) c.args.visitor c.args.visitors.now.items old c.see.new.self within c.index_mut-visitor.ensures.value
    (c.in_ok-see.ensures.ok ∙ ap (λ (log : Log). seen c.args.sight log old) c.in_ok-log.ensures)

pub returns-else-visitor-len-clause-ok : goal.returns-else-visitor-len-clause-ok
returns-else-visitor-len-clause-ok c =
    let past : length c.args.visitors.now.items ≤ c.args.visitor = omega arith in
    sym (change_past (seen c.args.sight c.args.shown.now) c.args.visitor c.args.visitors.now.items past)
