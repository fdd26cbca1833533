-- How many bytes the bodies and the replies of a node hold.
use Rattle.std.specs.Prelude.{◌≡◌, ◌+◌, ◌-◌, ◌^◌, ◌==◌, ℕ, Bool, true, false, List, Option, None, Some, MatchOption, if◌then◌else◌, min, nat_le, unwrap_or}
use Rattle.std.specs.BTreeMap.{Updates, get}
use Rattle.std.specs.Cmp.Lexicographic.{slice_cmp}
use Rattle.std.specs.Ordering.{nat_cmp}
use Rattle.std.specs.declared.cmp.Ordering.{Ordering}
use Rattle.connection_rules.specs.Paces.{up_to_most}
use Rattle.connection_rules.specs.declared.replies.HeldFile.{HeldFile}
use Rattle.connection_rules.specs.declared.replies.HeldReply.{HeldReply}
use Rattle.connection_rules.specs.declared.replies.Replies.{Replies}

-- what all bodies but the first hold, with what is kept for their steps, and the number of the first one's connection
pub record HeldBodies : Type 0 where
  pub others : ℕ
  pub first : Option ℕ

abbrev pub no_bodies : HeldBodies
no_bodies = record { others = 0; first = None }

-- how many bytes all bodies but the first may hold, with those that they may take now: 48 MiB
abbrev pub others_room : ℕ
others_room = 50331648

-- how many bytes a step takes at most
abbrev pub a_step : ℕ
a_step = 262144

-- the body of this connection is the first
abbrev pub is_first : ℕ → Option ℕ → Bool
is_first number None = false
is_first number (Some first) = number == first

-- where none is the first, the body of this connection, which holds so much, is: it isn't counted among the others then
abbrev pub with_first_of : ℕ → ℕ → Option ℕ → (others : ℕ) → HeldBodies
with_first_of number held None others = record { others = others - held; first = Some number }
with_first_of number held (Some first) others = record { others = others; first = Some first }

abbrev pub with_first : ℕ → ℕ → HeldBodies → HeldBodies
with_first number held bodies = with_first_of number held bodies.first bodies.others

-- the body of this connection may take a step: it is the first, or there is room for what it may take
abbrev pub has_room : ℕ → HeldBodies → Bool
has_room number bodies = if is_first number bodies.first then true else nat_le (bodies.others + a_step) others_room

-- and that room is kept for it
abbrev pub reserved : ℕ → HeldBodies → HeldBodies
reserved number bodies =
    if is_first number bodies.first then bodies
    else if nat_le (bodies.others + a_step) others_room then record { others = bodies.others + a_step; first = bodies.first }
    else bodies

-- what the others hold once a step has ended, before which a body held so much, and now so much: no more than there was room for
abbrev pub settled_others : (held after : ℕ) → ℕ → ℕ
settled_others held after others = min (up_to_most ((others - up_to_most (held + a_step)) + min after (up_to_most (held + a_step)))) others_room

abbrev pub settled : ℕ → (held after : ℕ) → HeldBodies → HeldBodies
settled number held after bodies =
    if is_first number bodies.first then bodies else record { others = settled_others held after bodies.others; first = bodies.first }

-- the body of this connection, which held so much, is over
abbrev pub without : ℕ → ℕ → HeldBodies → HeldBodies
without number held bodies =
    if is_first number bodies.first then record { others = bodies.others; first = None }
    else record { others = bodies.others - held; first = bodies.first }

-- how many bytes of a file are held at most, where so many are sent of it in all: replies share what they hold of a file
abbrev pub held_of : HeldFile → ℕ
held_of file = min file.sent file.size

-- one more reply sends bytes of the file
abbrev pub with_reply : HeldReply → HeldFile → HeldFile
with_reply reply file = record { sent = up_to_most (file.sent + reply.length); size = min file.size reply.size }

-- one reply less
abbrev pub without_reply : HeldReply → HeldFile → HeldFile
without_reply reply file = record { sent = file.sent - reply.length; size = file.size }

-- ---- the replies of a node, by their files

-- a file of which nothing is sent, and whose size isn't known
abbrev pub no_file : HeldFile
no_file = record { sent = 0; size = 2 ^ 64 - 1 }

-- what all hold, where so much of a file was held and so much is held now
abbrev pub recounted : (before after : ℕ) → ℕ → ℕ
recounted before after held = up_to_most ((held - before) + after)

-- a file of which nothing is sent any more is forgotten
abbrev pub unless_unsent : HeldFile → Option HeldFile
unless_unsent file = if file.sent == 0 then None else Some file

-- the files are ordered by their digests
abbrev pub file_cmp : List ℕ → List ℕ → Ordering
file_cmp = slice_cmp nat_cmp

-- one more reply is on its way
abbrev pub IsAdded : HeldReply → Replies → Replies → Type 0
IsAdded reply old new =
    let before = unwrap_or (get file_cmp old.files reply.file) no_file in
    let after = with_reply reply before in
    Updates file_cmp old.files new.files reply.file (Some after) × (new.held ≡ recounted (held_of before) (held_of after) old.held)

-- one less is; nothing changes where none of its file is
abbrev pub IsRemoved : HeldReply → Replies → Replies → Type 0
IsRemoved reply old new = MatchOption (get file_cmp old.files reply.file) (new ≡ old) (λ before.
    let after = without_reply reply before in
    Updates file_cmp old.files new.files reply.file (unless_unsent after) × (new.held ≡ recounted (held_of before) (held_of after) old.held))
