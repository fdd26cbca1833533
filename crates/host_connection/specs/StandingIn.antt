-- A service that stands for another.
use Rattle.std.specs.Prelude.{ℕ, List}
use Rattle.http_wire.specs.Requests.{RequestParts}
use Rattle.host_connection.specs.Serving.{Answering}
use Rattle.host_replies.specs.Replies.{Answer}

-- whatever the narrow one answers the wide one may answer, and the narrow one stands for it again
abbrev pub StandsIn : {H K : Type 0} → Answering H → Answering K → (stands : H → K → Type 0) → Type 0
StandsIn {H} {K} narrow wide stands = (note : H) (seen : K) (parts : RequestParts) (body : List ℕ) (answer : Answer) (next : H) → stands note seen → narrow note parts body answer next
    → (after : K) × wide seen parts body answer after × stands next after
