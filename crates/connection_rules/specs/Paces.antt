-- When a connection is late. Times are milliseconds.
use Rattle.std.specs.Prelude.{◌+◌, ◌-◌, ◌*◌, ◌==◌, ◌||◌, ◌&&◌, ◌^◌, ℕ, Bool, true, false, not, if◌then◌else◌, min, nat_le, nat_lt}
use Rattle.connection_rules.specs.declared.limits.Limits.{Limits}
use Rattle.connection_rules.specs.declared.paces.Pace.{Pace}
use Rattle.connection_rules.specs.declared.paces.Stage.{Stage}
use Rattle.connection_rules.specs.declared.paces.Stage.TheVariants.{Idle, Head, Body, Reply, Closing}

-- the limits, where a second has so many milliseconds
abbrev pub limits_of : ℕ → Limits
limits_of second = record {
  head = 10 * second;
  idle = 15 * second;
  transfer = 60 * second;
  reply = 360 * second;
  closing = 5 * second;
  sweep = second;
  wait = 10 * second;
  fresh = second;
}

-- a connection that begins now
abbrev pub begun : ℕ → Pace
begun now = record { stage = Idle; since = now; moved = 0 }

abbrev pub is_same : Stage → Stage → Bool
is_same Idle Idle = true
is_same Head Head = true
is_same Body Body = true
is_same Reply Reply = true
is_same Closing Closing = true
is_same old new = false

-- what a stage doesn't do: a reply is written, and all else is read
abbrev pub other_way : Stage → (read written : ℕ) → ℕ
other_way Reply read written = read
other_way stage read written = written

-- a body and a reply
abbrev pub is_transfer : Stage → Bool
is_transfer Idle = false
is_transfer Head = false
is_transfer Body = true
is_transfer Reply = true
is_transfer Closing = false

-- a step that read and wrote so much began the stage anew
abbrev pub begins : Pace → Stage → (read written : ℕ) → Bool
begins old stage read written = not (is_same old.stage stage) || nat_lt 0 (other_way stage read written)

-- the greatest number of 64 bits, at which counts stay
abbrev pub up_to_most : ℕ → ℕ
up_to_most n = min n (2 ^ 64 - 1)

abbrev pub moved_after : Pace → (read written : ℕ) → ℕ
moved_after old read written = up_to_most (up_to_most (old.moved + read) + written)

-- a step: the time of a stage begins where the stage does, and anew with each 60 KiB of a body or of a reply
abbrev pub stepped : Pace → Stage → (read written now : ℕ) → Pace
stepped old stage read written now =
    if begins old stage read written || (is_transfer stage && nat_le 61440 (moved_after old read written))
    then record { stage = stage; since = now; moved = 0 }
    else record { stage = old.stage; since = old.since; moved = moved_after old read written }

-- how long a stage may last
abbrev pub limit_of : Limits → Stage → ℕ
limit_of limits Idle = limits.idle
limit_of limits Head = limits.head
limit_of limits Body = limits.transfer
limit_of limits Reply = limits.reply
limit_of limits Closing = limits.closing

-- what is left of the time of a stage
abbrev pub left_of : Limits → Pace → ℕ → ℕ
left_of limits pace now = limit_of limits pace.stage - (now - pace.since)

abbrev pub is_late : Limits → Pace → ℕ → Bool
is_late limits pace now = left_of limits pace now == 0
