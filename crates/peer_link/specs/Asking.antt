-- Why a peer that is asked for a chunk gives no bytes.
use Rattle.std.specs.Prelude.{ℕ, ◌⊎◌, List, Err, ⊤}
use Rattle.http_wire.specs.declared.answers.AnswerFault.{AnswerFault}
use Rattle.http_wire.specs.declared.answers.AnswerFault.TheVariants as answer
use Rattle.http_wire.specs.Answers.{IsAnswer}
use Rattle.peer_link.specs.declared.asks.AskFault.{AskFault}
use Rattle.peer_link.specs.declared.asks.AskFault.TheVariants.{NoChunk, NoAnswer, OutOfMemory}

-- what an answer without a body tells
abbrev pub told_by : AnswerFault → AskFault
told_by answer.NotOk = NoChunk
told_by answer.ReadFault = NoAnswer
told_by answer.BadHead = NoAnswer
told_by answer.TooLong = NoAnswer
told_by answer.OutOfMemory = OutOfMemory

-- the stream begins with such an answer without a body
abbrev pub Lacks : (read_fails : Type 0) → AnswerFault → (limit : ℕ) → (stream : List ℕ) → Type 0
Lacks read_fails why limit stream = IsAnswer {A = Unit {0}} read_fails (Err why) limit stream

-- what a stream begins with whose peer gives no bytes: an answer of another status than 200; or none that is whole and gives a chunk's bytes at most,
-- unless the request couldn't be written; for want of memory, anything
abbrev pub GivesNone : (read_fails write_fails : Type 0) → AskFault → (limit : ℕ) → (stream : List ℕ) → Type 0
GivesNone read_fails write_fails NoChunk limit stream = Lacks read_fails answer.NotOk limit stream
GivesNone read_fails write_fails NoAnswer limit stream =
    write_fails ⊎ Lacks read_fails answer.ReadFault limit stream ⊎ Lacks read_fails answer.BadHead limit stream ⊎ Lacks read_fails answer.TooLong limit stream
GivesNone read_fails write_fails OutOfMemory limit stream = ⊤
