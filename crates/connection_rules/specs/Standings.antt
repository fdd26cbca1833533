-- Which connection goes first if a place is needed.
use Rattle.std.specs.Prelude.{◌+◌, ◌-◌, ◌*◌, ◌&&◌, ℕ, Bool, true, false, not, Option, None, Some, if◌then◌else◌, min, nat_le, nat_lt}
use Rattle.connection_rules.specs.Paces.{is_same}
use Rattle.connection_rules.specs.declared.paces.Stage.{Stage}
use Rattle.connection_rules.specs.declared.paces.Stage.TheVariants as stage
use Rattle.connection_rules.specs.declared.stakes.Stake.{Stake}
use Rattle.connection_rules.specs.declared.standings.Standing.{Standing}
use Rattle.connection_rules.specs.declared.standings.Standing.TheVariants as standing

-- one is new that came less than a second ago, doesn't close, and of which no request was answered or is with a thread
abbrev pub is_new : Stake → Bool
is_new stake = not (is_same stake.stage stage.Closing) && (not stake.is_at_work && (not stake.is_answered && stake.is_young))

-- new ones crowd the others where they are more than a quarter of all
abbrev pub are_crowding : (new all : ℕ) → Bool
are_crowding new all = nat_lt all (4 * new)

-- what a connection has to lose
abbrev pub standing_between : Stage → (is_answered is_young crowds : Bool) → Standing
standing_between now false false crowds = standing.Unanswered
standing_between now false true true = standing.Crowding
standing_between now false true false = standing.New
standing_between stage.Idle true is_young crowds = standing.Idle
standing_between now true is_young crowds = standing.Busy

abbrev pub standing_in : Stage → (is_at_work is_answered is_young crowds : Bool) → Standing
standing_in stage.Closing is_at_work is_answered is_young crowds = standing.Closing
standing_in now true is_answered is_young crowds = standing.AtWork
standing_in now false is_answered is_young crowds = standing_between now is_answered is_young crowds

abbrev pub standing_of : (crowds : Bool) → Stake → Standing
standing_of crowds stake = standing_in stake.stage stake.is_at_work stake.is_answered stake.is_young crowds

-- how many standings go before it
abbrev pub rank_of : Standing → ℕ
rank_of standing.Closing = 0
rank_of standing.Unanswered = 1
rank_of standing.Crowding = 2
rank_of standing.Idle = 3
rank_of standing.Busy = 4
rank_of standing.New = 5
rank_of standing.AtWork = 6

-- no time and no count of bytes is as great: it is 2 to the power of 60
abbrev pub span : ℕ
span = 1152921504606846976

-- the number of a connection among those that go for a place, by what counts within its standing: the least goes first
abbrev pub turn_of : Standing → ℕ → ℕ
turn_of now by = rank_of now * span + min by (span - 1)

-- what counts among those that have as much to lose
abbrev pub counted : Standing → Stake → ℕ
counted standing.Crowding stake = stake.came
counted standing.New stake = stake.came
counted standing.Busy stake = stake.moved
counted other stake = stake.active

-- a reply goes for no place if so many bytes moved of late: 256 KiB
abbrev pub keeps_place : Stage → (moved : ℕ) → Bool
keeps_place stage.Reply moved = nat_le 262144 moved
keeps_place now moved = false

-- the number of a connection, where new ones crowd the others or don't; none, where it is a reply that keeps its place
abbrev pub number_of : (crowds : Bool) → Stake → Option ℕ
number_of crowds stake =
    if keeps_place stake.stage stake.moved then None else Some (turn_of (standing_of crowds stake) (counted (standing_of crowds stake) stake))
