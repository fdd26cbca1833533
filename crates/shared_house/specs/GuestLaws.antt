-- What the answers of a worker to a connection with a note leave as it is.
use Rattle.std.specs.Prelude.{◌≡◌, ℕ, List, true}
use Rattle.http_wire.specs.Requests.{RequestParts}
use Rattle.host_replies.specs.Replies.{Answer, is_head}
use Rattle.shared_house.specs.Desks.{HouseCall}
use Rattle.shared_house.specs.Guests.{IsGuestAnswer}
use Rattle.shared_house.specs.HouseLaws.{withheld_to_head}
use Rattle.shared_house.specs.Seeing.{Known, by_front}

pub withheld : (did : HouseCall → Type 0) (old : Known) (parts : RequestParts) (body : List ℕ) (answer : Answer) (new : Known) → IsGuestAnswer did old parts body answer new
    → answer.withheld ≡ true → is_head parts ≡ true
withheld did old parts body answer new is held = withheld_to_head did by_front is.0 parts body answer new is.2 held
