-- A reply that is sent again.
use Rattle.std.specs.Prelude.{◌≡◌, ℕ, List, [], false}
use Rattle.http_wire.specs.Expectations.{ExpectsContinue}
use Rattle.http_wire.specs.Fields.{AnnouncesBody}
use Rattle.http_wire.specs.Requests.{RequestParts, Says}
use Rattle.host_connection.specs.Serving.{Answering, IsSent, limit_of}
use Rattle.host_replies.specs.Replies.{closes}

-- a head of these parts is a whole request by itself: it announces no body, its client doesn't wait to send one, and the connection goes on after the reply
pub record IsWhole (parts : RequestParts) : Type 0 where
  pub announced : AnnouncesBody parts.fields (limit_of parts) 0
  pub no_wait : ¬ (ExpectsContinue parts)
  pub stays_open : closes parts false ≡ false

-- the text of a head says parts that are a whole request, and this is the reply to it, as a service answers it now
pub record IsAgain {H : Type 0} (answers : Answering H) (host : H) (head sent : List ℕ) (next : H) : Type 0 where
  pub parts : RequestParts
  pub says : Says head parts
  pub whole : IsWhole parts
  pub is_sent : IsSent answers false host parts [] sent next
