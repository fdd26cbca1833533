-- What a worker answers a connection that comes with a note.
use Rattle.std.specs.Prelude.{ℕ, List}
use Rattle.http_wire.specs.Requests.{RequestParts}
use Rattle.host_replies.specs.Replies.{Answer}
use Rattle.shared_house.specs.Desks.{HouseCall}
use Rattle.shared_house.specs.Seeing.{HasAll, Known, by_front}
use Rattle.shared_house.specs.Shared.{IsSharedAnswer}

-- The worker learns the note, and knows all of it then; it answers, and the note is then what it knows.
abbrev pub IsGuestAnswer : (did : HouseCall → Type 0) → (old : Known) → RequestParts → (body : List ℕ) → Answer → (new : Known) → Type 0
IsGuestAnswer did old parts body answer new = (start : Known) × HasAll old start × IsSharedAnswer did by_front start parts body answer new
