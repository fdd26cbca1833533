use Rattle.std.proofs.Common.{Option, subst, sym}
use Rattle.change_log.specs.Logs.{Log}
use Rattle.shared_house.specs.Entering.{published_log}
use Rattle.shared_house.specs.Seeing.{by_front}
use Rattle.shared_house.proofs.houses.SharedHouse.learn_taken.Goals as goal

pub returns-in-Some-clause-learnt : goal.returns-in-Some-clause-learnt
returns-in-Some-clause-learnt g c = (
  c.find.new.self.known,
  c.find.ensures,
  subst (λ (published : Option Log). by_front.learns c.find.new.self.known (published_log c.args.seen.now published) c.learn.new.self.known) (sym c.in-Some.is) c.learn.ensures.learnt,
)

pub returns-in-None-clause-learnt : goal.returns-in-None-clause-learnt
returns-in-None-clause-learnt g c = (
  c.find.new.self.known,
  c.find.ensures,
  subst (λ (published : Option Log). by_front.learns c.find.new.self.known (published_log c.args.seen.now published) c.learn_log.new.self.known) (sym c.in-None.is) c.learn_log.ensures,
)
