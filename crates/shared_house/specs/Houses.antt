-- What the calls of a house do whose history others change.
use Rattle.std.specs.Prelude.{◌≡◌, Result, Ok, Err}
use Rattle.std.specs.declared.alloc.AllocError.{AllocError}
use Rattle.host_answers.specs.Houses.{Calls, Failed, Gave, Seen}
use Rattle.shared_house.specs.Desks.{HouseCall, LacksHold}
use Rattle.shared_house.specs.Seeing.{by_front}
use Rattle.shared_house.specs.Shared.{CommitsAs, IsLegalRun, LacksAs, TakesAs, UndoesAs}
use Rattle.shared_house.specs.Sights.{Sight}

-- what it shows
abbrev pub shown : Sight → Seen
shown house = record { entries = house.past.entries; state = house.past.state }

-- a look shows what its visitor sees
abbrev pub LooksAt : Sight → Result (Unit {0}) AllocError → Sight → Type 0
LooksAt house (Ok done) next = by_front.looks house.known (shown next).entries next.known × IsLegalRun (shown next)
LooksAt house (Err why) next = next.known ≡ house.known

-- nothing is learnt where files are held, or aren't; why not is shown
abbrev pub gave_at : Gave Sight
gave_at old hold new = new.known ≡ old.known

abbrev pub failed_at : (HouseCall → Type 0) → Failed Sight
failed_at did old file first last why new = did (LacksHold file first last why) × (new.known ≡ old.known)

-- what its calls do, where these calls are made
abbrev pub calls_of : (HouseCall → Type 0) → Calls Sight
calls_of did = record {
  seen = shown;
  looks = LooksAt;
  misses = λ house listed required. LacksAs did by_front house.known listed required;
  commits = λ old command done new. CommitsAs did by_front old.known command done new.known;
  undoes = λ old site change done new. UndoesAs did by_front old.known site change done new.known;
  uploads = λ old site n path bytes done new. TakesAs did by_front old.known site n path bytes done new.known;
}
