use Rattle.std.proofs.Common.{Err, ap, inl, rules}
use Rattle.change_log.specs.Logs.{BeginsWith}
use Rattle.site_change.specs.declared.entries.Entry.TheVariants.{Change}
use Rattle.host_answers.specs.declared.stops.Stop.{Stop}
use Rattle.shared_house.specs.Desks.{shows}
use Rattle.shared_house.proofs.Entering.{committed, shown_taken}
use Rattle.shared_house.proofs.answering.SharedHouseHouse.commit.Goals as goal

pub returns-in-Ok-clause-did : goal.returns-in-Ok-clause-did
returns-in-Ok-clause-did g c =
    let later : BeginsWith c.commit.new.seen c.args.self.now.known.log = search rules in
    let made = c.in-Ok.ensures in
    committed (shows g.D.DeskAccess.did g.G.FileAccess.fails) c.args.command c.args.self.now.known c.commit.new.seen c.in-Ok.receipt c.take.result c.take.new.self.known later made.asked made.answer
    c.take.ensures.number c.take.ensures.memory c.take.ensures.learnt

pub returns-in-Ok-clause-shown : goal.returns-in-Ok-clause-shown
returns-in-Ok-clause-shown g c =
    shown_taken (Change c.args.command) c.commit.new.seen c.take.new.self.past.entries c.in-Ok.receipt c.take.result c.in-Ok.ensures.answer.1 c.take.ensures.number
    c.take.ensures.shown

pub returns-clause-did : goal.returns-clause-did
returns-clause-did g c =
    let later : BeginsWith c.commit.new.seen c.args.self.now.known.log = search rules in
    let made = c.in-Err.ensures in
    inl (c.commit.new.seen, Err c.in-Err.why, later, made.asked, made.answer, ap (λ (why : Stop). Err why) c.stop.ensures.told, c.stop.ensures.learnt)
