-- What a reply is sent from.
use Rattle.std.specs.Prelude.{ℕ, List, Bool, true, false, Option, None, length}
use Rattle.host_connection.specs.declared.wordings.Wording.{Wording}
use Rattle.host_connection.specs.declared.wordings.Wording.TheVariants as wording
use Rattle.host_replies.specs.Bodies.{answer_of}
use Rattle.host_replies.specs.HeldFiles.{held_file}
use Rattle.host_replies.specs.Replies.{sent_text}
use Rattle.host_replies.specs.declared.replies.held_files.HeldFile.{HeldFile}

-- the bytes that are sent
abbrev pub worded : (close head_only : Bool) → Wording → List ℕ
worded close head_only (wording.Made reply) = sent_text close head_only (answer_of reply)
worded close head_only (wording.Kept text) = text.value.items

-- whether it is a text that is kept
abbrev pub is_kept : Wording → Bool
is_kept (wording.Made reply) = false
is_kept (wording.Kept text) = true

-- whether its body is told by its length alone
abbrev pub withholds : Wording → Bool
withholds (wording.Made reply) = (answer_of reply).withheld
withholds (wording.Kept text) = false

-- how many bytes are sent at least
abbrev pub size_kept : Wording → ℕ
size_kept (wording.Made reply) = 1
size_kept (wording.Kept text) = length text.value.items

-- what it holds of a file; a text that is kept holds nothing of one
abbrev pub held_for : Wording → Option HeldFile
held_for (wording.Made reply) = held_file reply
held_for (wording.Kept text) = None
