-- What a worker keeps of a reply: a text that is the reply to a head over a log, whoever asks.
use Rattle.std.specs.Prelude.{◌≡◌, ℕ, List, [], false, Ok}
use Rattle.http_wire.specs.Requests.{RequestParts, Says}
use Rattle.host_names.specs.declared.names.SiteName.{SiteName}
use Rattle.change_log.specs.Logs.{Log}
use Rattle.host_answers.specs.Asking.{asked_for}
use Rattle.host_answers.specs.Houses.{Gave, Failed, Seen}
use Rattle.host_answers.specs.Reads.{ReadsBy}
use Rattle.host_api.specs.declared.bodies.Ask.TheVariants as ask
use Rattle.host_api.specs.declared.versions.Version.{Version}
use Rattle.host_connection.specs.Again.{IsWhole}
use Rattle.host_replies.specs.Replies.{Answer, is_head, sent_text}
use Rattle.host_replies.specs.Versions.{file_of}
use Rattle.shared_house.specs.Shared.{IsLegalRun}

-- files that hold each stretch: nothing else is known of them
abbrev pub holds_all : Gave (Unit {0})
holds_all old hold new = Unit {0}

abbrev pub lacks_none : Failed (Unit {0})
lacks_none old file first last why new = ⊥

-- The text of a head says a whole request, which asks for a file. This text is the reply to it over a log, and the state that the log gives, where each
-- stretch of the file was held.
pub record IsKept (log : Log) (head text : List ℕ) : Type 0 where
  pub parts : RequestParts
  pub says : Says head parts
  pub whole : IsWhole parts
  pub site : SiteName
  pub version : Version
  pub path : List ℕ
  pub asks : asked_for parts [] ≡ Ok (ask.Read site version path)
  pub seen : Seen
  pub over : seen.entries ≡ log
  pub legal : IsLegalRun seen
  pub answer : Answer
  pub reads : ReadsBy holds_all lacks_none tt parts path (file_of seen.state site version path) answer tt
  pub text_is : text ≡ sent_text false (is_head parts) answer
