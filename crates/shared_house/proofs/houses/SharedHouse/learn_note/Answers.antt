use Rattle.std.proofs.Common.{ap}
use Rattle.shared_house.specs.Sights.{Sight}
use Rattle.shared_house.proofs.Fronts.{has_parts}
use Rattle.shared_house.proofs.houses.SharedHouse.learn_note.Goals as goal

pub returns-clause-kept : goal.returns-clause-kept
returns-clause-kept g c =
    has_parts c.args.self.now.known _ c.self.inside.visitor.known c.self.inside.seen_files (ap (λ (s : Sight). s.known) c.self.view_is)
    c.learn_front.ensures.kept c.learn.ensures.kept

pub returns-clause-learnt : goal.returns-clause-learnt
returns-clause-learnt g c =
    has_parts c.args.note.now _ c.note.inside.log c.note.inside.files c.note.view_is c.learn_front.ensures.learnt c.learn.ensures.learnt
