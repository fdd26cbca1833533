use Rattle.std.proofs.Common.{◌∙◌, ap, subst}
use Rattle.change_undo.specs.Histories.{Past}
use Rattle.change_log.specs.Logs.{BeginsWith, Log}
use Rattle.shared_house.specs.Shared.{IsLegalRun}
use Rattle.shared_house.specs.Sights.{Sight}
use Rattle.shared_house.proofs.Fronts.{known_is}
use Rattle.shared_house.proofs.answering.SharedHouseHouse.look.Goals as goal

pub returns : goal.returns
returns g c =
    let over = c.state.ensures.over in (
      (
        subst (λ (l : Log). BeginsWith l c.args.self.now.known.log) c.in_ok-snap.ensures.seen c.see.ensures.kept,
        known_is c.args.self.now.known.files _ c.in_ok-snap.snap.value.entries (ap (λ (s : Sight). s.known.log) c.self.view_is ∙ c.in_ok-snap.ensures.seen)
            (ap (λ (s : Sight). s.known.files) c.self.view_is ∙ c.see.ensures.files),
      ),
      subst (λ (p : Past). IsLegalRun (record { entries = p.entries; state = p.state })) c.deref.ensures
          (over.0, record { digested = over.1; legal = over.2.legal; ran = over.2.ran }),
    )
