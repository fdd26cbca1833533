-- How far a step of a connection comes.
use Rattle.std.specs.Prelude.{◌≡◌, ◌⊎◌, ℕ, ◌+◌, ◌*◌, ◌-◌, ◌<◌, ◌≤◌, List, length, Err}
use Rattle.http_wire.specs.Timing.{Event, Steps, all_got, all_put}
use Rattle.host_connection.specs.declared.connections.ConnectionFault.TheVariants as fault
use Rattle.host_connection.specs.declared.phases.Phase.{Phase}
use Rattle.host_connection.specs.declared.phases.Phase.TheVariants as phase
use Rattle.host_connection.specs.declared.steps.Progress.{Progress}
use Rattle.host_connection.specs.declared.steps.Progress.TheVariants as progress
use Rattle.host_connection.specs.Metering.{moved}

-- ---- how many phases are left

-- how many phases of a turn are left at most
abbrev pub left_of_turn : Phase → ℕ
left_of_turn phase.Head = 4
left_of_turn (phase.Invite i) = 3
left_of_turn (phase.Body b) = 2
left_of_turn (phase.Reply s) = 1
left_of_turn (phase.Ended result) = 0

-- how many phases of a connection are left at most that is at the request of number n
abbrev pub phases_left : (n : ℕ) → Phase → ℕ
phases_left n p = 5 * (101 - n) + left_of_turn p

-- never more are left, and fewer where it may go on at once
abbrev pub Falls : Progress → (old_left new_left : ℕ) → Type 0
Falls (progress.Waits w) old_left new_left = new_left ≤ old_left
Falls progress.More old_left new_left = new_left < old_left
Falls (progress.Body size) old_left new_left = new_left < old_left
Falls progress.Postponed old_left new_left = new_left ≤ old_left
Falls (progress.Ended result) old_left new_left = new_left ≤ old_left

-- What a step did on its stream: it read 262,144 bytes at most, and wrote 1,179,648 at most. Where it may go on at once, fewer phases are left, or it moved some bytes.
pub record Goes {S : Type 0} (saw : S → Event → S → Type 0) (old new : S) (result : Progress) (old_left new_left : ℕ) : Type 0 where
  pub events : List Event
  pub steps : Steps saw old events new
  pub few_read : length (all_got events) ≤ 262144
  pub few_written : length (all_put events) ≤ 1179648
  pub further : Falls result old_left new_left ⊎ ((0 < moved events) × (new_left ≤ old_left))

-- ---- bodies

-- a body is read, or is read next
abbrev pub IsBody : Phase → Type 0
IsBody phase.Head = ⊥
IsBody (phase.Invite i) = Unit {0}
IsBody (phase.Body b) = Unit {0}
IsBody (phase.Reply s) = ⊥
IsBody (phase.Ended result) = ⊥

-- how many bytes it has
abbrev pub size_in : Phase → ℕ
size_in phase.Head = 0
size_in (phase.Invite i) = i.size
size_in (phase.Body b) = b.size
size_in (phase.Reply s) = 0
size_in (phase.Ended result) = 0

-- both are in the body of the same request
abbrev pub AreInOne : (n : ℕ) → Phase → (new_n : ℕ) → Phase → Type 0
AreInOne n old new_n new = IsBody old × IsBody new × (n ≡ new_n)

-- how long the body is that a step tells of
abbrev pub told_size : Progress → ℕ
told_size (progress.Waits w) = 0
told_size progress.More = 0
told_size (progress.Body size) = size
told_size progress.Postponed = 0
told_size (progress.Ended result) = 0

-- A step that comes to a body tells how long it is, unless it is empty; and no other step tells of it.
abbrev pub TellsBody : Progress → (n : ℕ) → Phase → (new_n : ℕ) → Phase → Type 0
TellsBody result n old new_n new =
    (AreInOne n old new_n new × (told_size result ≡ 0) × (size_in new ≡ size_in old))
    ⊎ (¬ (AreInOne n old new_n new) × (told_size result ≡ size_in new))

-- ---- the end

-- only a connection that ended so is one for which there was no memory
abbrev pub RemembersMemory : (old new : Phase) → Type 0
RemembersMemory old new = new ≡ phase.Ended (Err fault.OutOfMemory) → old ≡ phase.Ended (Err fault.OutOfMemory)

-- ---- what private functions say

-- all of it, of some phases
pub record Advances (result : Progress) (n : ℕ) (old : Phase) (new_n : ℕ) (new : Phase) : Type 0 where
  pub falls : Falls result (phases_left n old) (phases_left new_n new)
  pub counts : n ≤ new_n
  pub tells : TellsBody result n old new_n new
  pub memory : RemembersMemory old new

-- it is where it was, or phases were gone through that others may follow
abbrev pub IsAsBefore : (n : ℕ) → (old : Phase) → (new_n : ℕ) → (new : Phase) → Type 0
IsAsBefore n old new_n new = ((new_n ≡ n) × (new ≡ old)) ⊎ Advances progress.More n old new_n new
