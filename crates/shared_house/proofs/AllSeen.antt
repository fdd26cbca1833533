-- A note stands for all that its connection saw.
use Rattle.std.proofs.Common.{refl, sym, subst}
use Rattle.byte_view.specs.Contents.{Contents}
use Rattle.site_change.specs.Changes.{IsWithin}
use Rattle.change_log.specs.Logs.{BeginsWith, Log}
use Rattle.host_connection.specs.StandingIn.{StandsIn}
use Rattle.shared_house.specs.Desks.{HouseCall}
use Rattle.shared_house.specs.Guests.{IsGuestAnswer}
use Rattle.growing.specs.Logs.{stays}
use Rattle.shared_house.specs.Seeing.{AreAll, HasAll, HasSeen, IsLater, Known, Visit, by_front, by_visit, finds, learns, looked}
use Rattle.shared_house.specs.Shared.{IsSharedAnswer}
use Rattle.shared_house.proofs.Fronts.{all_still, and_one, later_still}
use Rattle.shared_house.proofs.Standing.{StandsFor, answers}

later_looked : (visit : Visit) (log : Log) → IsLater visit log → IsLater (looked visit log) log
later_looked visit log later = record { looks = and_one (λ early. BeginsWith log early) visit.looks log later.looks (stays log); learnt = later.learnt }

later_learnt : (visit : Visit) (log longer : Log) → IsLater visit longer → BeginsWith longer log → IsLater (learns visit log) longer
later_learnt visit log longer later more = record { looks = later.looks; learnt = and_one (λ early. BeginsWith longer early) visit.learnt log later.learnt more }

-- what has all of something that has all that was seen
seen_still : (visit : Visit) (old new : Known) → HasSeen visit old → HasAll old new → HasSeen visit new
seen_still visit old new seen more =
    record { log = later_still visit old.log new.log seen.log more.log; files = all_still visit old.files new.files seen.files more.files }

-- the most that was seen stands for all that was
pub fronts_stand : StandsFor by_front by_visit (λ (known : Known) (visit : Visit). HasSeen visit known)
fronts_stand = record {
  is_later = λ old all log seen more. later_still all old.log log seen.log more;
  are_all = λ old all files seen more. all_still all old.files files seen.files more;
  looks = λ old all log new seen looks.
      let more = later_still all old.log log seen.log looks.0 in
      let after : HasSeen (looked all log) (record { log = log; files = old.files }) = record { log = later_looked all log more; files = seen.files } in
      (looked all log, (more, refl), subst (λ (k : Known). HasSeen (looked all log) k) (sym looks.1) after);
  learns = λ old all log new seen learnt.
      let then = seen_still all old new seen learnt.0 in
      (learns all log, refl, record { log = later_learnt all log new.log then.log learnt.1; files = then.files });
  finds = λ old all files new seen found.
      let then = seen_still all old new seen found.0 in
      (finds all files, refl, record { log = record { looks = then.log.looks; learnt = then.log.learnt }; files = and_one (λ early. IsWithin early new.files) all.files files then.files found.1 });
}

pub notes_stand : (did : HouseCall → Type 0) → StandsIn (IsGuestAnswer did) (IsSharedAnswer did by_visit) (λ (known : Known) (visit : Visit). HasSeen visit known)
notes_stand did note seen parts body answer next has is =
    answers did by_front by_visit (λ (known : Known) (visit : Visit). HasSeen visit known) fronts_stand is.0 seen parts body answer next (seen_still seen note is.0 has is.1) is.2
