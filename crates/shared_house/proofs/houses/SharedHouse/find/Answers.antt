use Rattle.std.proofs.Common.{ap}
use Rattle.growing.specs.Logs.{stays}
use Rattle.shared_house.specs.Sights.{Sight}
use Rattle.shared_house.proofs.Fronts.{has_parts}
use Rattle.shared_house.proofs.houses.SharedHouse.find.Goals as goal

pub returns : goal.returns
returns g c = (
  has_parts c.args.self.now.known _ c.self.inside.visitor.known c.self.inside.seen_files (ap (λ (s : Sight). s.known) c.self.view_is)
      (stays c.self.inside.visitor.known) c.learn.ensures.kept,
  c.learn.ensures.learnt,
)
