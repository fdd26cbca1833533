use Rattle.std.proofs.Common.{ℕ, Ok, Err, ap, rules}
use Rattle.change_log.specs.Logs.{BeginsWith}
use Rattle.host_answers.specs.declared.stops.Stop.{Stop}
use Rattle.shared_house.proofs.answering.SharedHouseHouse.undo.Goals as goal

pub returns-in-Ok : goal.returns-in-Ok
returns-in-Ok g c =
    let later : BeginsWith c.undo.new.seen c.args.self.now.known.log = search rules in
    let made = c.in-Ok.ensures in
    (c.undo.new.seen, Ok c.in-Ok.receipt, later, made.asked, made.answer, ap (λ (n : ℕ). Ok n) c.learn.ensures.number, c.learn.ensures.learnt)

pub returns : goal.returns
returns g c =
    let later : BeginsWith c.undo.new.seen c.args.self.now.known.log = search rules in
    let made = c.in-Err.ensures in
    (c.undo.new.seen, Err c.in-Err.why, later, made.asked, made.answer, ap (λ (why : Stop). Err why) c.stop.ensures.told, c.stop.ensures.learnt)
