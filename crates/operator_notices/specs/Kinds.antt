-- The words for the kinds of notices.
use Rattle.std.specs.Prelude.{ℕ, List, codes}
use Rattle.operator_notices.specs.declared.kinds.Kind.{Kind}
use Rattle.operator_notices.specs.declared.kinds.Kind.TheVariants.{Journal, Device, Descriptors, Memory, Listener, Peer, Bodies, Replies}

-- how a kind is called in a line
abbrev pub word_of : Kind → List ℕ
word_of Journal = codes "journal"
word_of Device = codes "device"
word_of Descriptors = codes "descriptors"
word_of Memory = codes "memory"
word_of Listener = codes "listener"
word_of Peer = codes "peer"
word_of Bodies = codes "bodies"
word_of Replies = codes "replies"
