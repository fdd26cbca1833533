use Rattle.std.proofs.Common.{rules, ◌≡◌, ◌∙◌, ap, subst}
use Rattle.change_log.specs.Logs.{BeginsWith, Log}
use Rattle.shared_house.specs.Sights.{Sight}
use Rattle.shared_house.proofs.Fronts.{learnt_whole}
use Rattle.shared_house.proofs.houses.SharedHouse.catch_up.Goals as goal

pub returns-clause-seen : goal.returns-clause-seen
returns-clause-seen g c =
    let later : BeginsWith c.in_ok-last.last c.self.inside.visitor.known = search rules in
    let same : c.in_ok-last.last ≡ c.in_ok-snap.snap.value.entries = search rules in
    learnt_whole c.self.inside.visitor.known c.in_ok-last.last c.learn.new.self.known later c.learn.ensures.later ∙ same

pub returns-clause-kept : goal.returns-clause-kept
returns-clause-kept g c =
    subst (λ (l : Log). BeginsWith c.learn.new.self.known l) (ap (λ (s : Sight). s.known.log) c.self.view_is)
    c.learn.ensures.kept
