-- What a connection is between two events, and what follows from that. Times are milliseconds.
use Rattle.std.specs.Prelude.{◌+◌, ◌-◌, ◌*◌, ◌/◌, ◌==◌, ◌||◌, ◌&&◌, ℕ, Bool, true, false, not, Option, None, Some, if◌then◌else◌, min, nat_le, nat_lt, option_map}
use Rattle.connection_rules.specs.Holding.{is_first}
use Rattle.connection_rules.specs.Paces.{begun, is_late, is_same, stepped}
use Rattle.connection_rules.specs.Recent.{in_span, moved_more, of_late, unmoved}
use Rattle.connection_rules.specs.Standings.{is_new as is_new_by, number_of}
use Rattle.connection_rules.specs.declared.limits.Limits.{Limits}
use Rattle.connection_rules.specs.declared.paces.Stage.{Stage}
use Rattle.connection_rules.specs.declared.paces.Stage.TheVariants as stage
use Rattle.connection_rules.specs.declared.stakes.Stake.{Stake}
use Rattle.worker_connections.specs.Steps.{is_body, moved_by}
use Rattle.worker_connections.specs.declared.steps.Step.{Step}
use Rattle.worker_connections.specs.declared.steps.Next.{Next}
use Rattle.worker_connections.specs.declared.steps.Next.TheVariants as next
use Rattle.worker_connections.specs.declared.steps.Interest.{Interest}
use Rattle.worker_connections.specs.declared.steps.Interest.TheVariants.{Read, Either}
use Rattle.worker_connections.specs.declared.steps.Holding.{Holding}
use Rattle.worker_connections.specs.declared.steps.Holding.TheVariants as holding
use Rattle.worker_connections.specs.declared.steps.Kind.{Kind}
use Rattle.worker_connections.specs.declared.steps.Kind.TheVariants.{Bodies, Replies}
use Rattle.worker_connections.specs.declared.clients.Client.{Client}
use Rattle.worker_connections.specs.declared.clients.State.{State}
use Rattle.worker_connections.specs.declared.clients.State.TheVariants.{Waits, ForRoom, Away, Back, Closing, Left}
use Rattle.worker_connections.specs.declared.clients.Turn.{Turn}
use Rattle.worker_connections.specs.declared.clients.Turn.TheVariants as turn

-- Spans of time are numbered; what moved of late moved in the one that goes on and in the one before.
abbrev pub span_of : Limits → ℕ → ℕ
span_of limits now = if limits.wait == 0 then 0 else now / limits.wait

-- a connection that comes now
abbrev pub begun_client : ℕ → Limits → ℕ → Client
begun_client number limits now = record {
  number = number;
  came = now;
  state = Waits Read;
  pace = begun now;
  is_answered = false;
  active = now;
  recent = unmoved (span_of limits now);
  holds = holding.Nothing;
  body_since = now;
}

-- where a step leads; nowhere, where the connection is over. Once our side is closed nothing but the end follows.
abbrev pub state_after : State → Next → Option State
state_after state next.Ends = None
state_after Closing next = Some Closing
state_after state (next.Waits interest) = Some (Waits interest)
state_after state next.Leaves = Some Away
state_after state next.Closes = Some Closing

-- where the step leads that a thread made which may wait
abbrev pub state_back : Next → ℕ → Option State
state_back (next.Waits interest) now = Some (Back now interest)
state_back next.Closes now = Some Closing
state_back next.Leaves now = None
state_back next.Ends now = None

-- once our side is closed, the connection is in its last stage
abbrev pub stage_in : State → Stage → Stage
stage_in Closing said = stage.Closing
stage_in state said = said

-- what is known after a step that ended now and led to this state: the stage, the time and the standing that the step gave, and what it holds
abbrev pub noted : State → Step → Limits → ℕ → Client → Client
noted state step limits now old = record {
  number = old.number;
  came = old.came;
  state = state;
  pace = stepped old.pace (stage_in state step.stage) step.read step.written now;
  is_answered = old.is_answered || step.answers;
  active = if nat_lt 0 (moved_by step) then now else old.active;
  recent = moved_more (moved_by step) (in_span (span_of limits now) old.recent);
  holds = step.holds;
  body_since = if is_body step.holds && not (is_body old.holds) then now else old.body_since;
}

-- after a step of its worker; none, where the connection is over. While a thread has it, its worker makes none.
abbrev pub after_in : State → Step → Limits → ℕ → Client → Option Client
after_in Away step limits now old = Some old
after_in Left step limits now old = Some old
after_in state step limits now old = option_map (λ led. noted led step limits now old) (state_after state step.next)

abbrev pub after : Step → Limits → ℕ → Client → Option Client
after step limits now old = after_in old.state step limits now old

-- after a thread that may wait made its step; none, where the connection is over or ended meanwhile
abbrev pub back_in : State → Step → Limits → ℕ → Client → Option Client
back_in Away step limits now old = option_map (λ led. noted led step limits now old) (state_back step.next now)
back_in Left step limits now old = None
back_in state step limits now old = Some old

abbrev pub back : Step → Limits → ℕ → Client → Option Client
back step limits now old = back_in old.state step limits now old

-- where its worker ends it: what a thread has of it counts until that is back
abbrev pub ended_in : State → Client → Option Client
ended_in Away old = Some (record old { state = Left })
ended_in Left old = Some (record old { state = Left })
ended_in state old = None

abbrev pub ended : Client → Option Client
ended old = ended_in old.state old

-- where it was asked whether there is room for a step of its body: it waits for room, or goes on, and then its time begins anew
abbrev pub answered_in : State → Bool → ℕ → Client → Client
answered_in (ForRoom since) true now old = record old { state = Waits Either; pace = record { stage = old.pace.stage; since = now; moved = 0 } }
answered_in (Waits interest) false now old = record old { state = ForRoom now }
answered_in (Back since interest) false now old = record old { state = ForRoom now }
answered_in state has_room now old = old

abbrev pub answered : Bool → ℕ → Client → Client
answered has_room now old = answered_in old.state has_room now old

-- what is to be done in its turn
abbrev pub turn_in : State → Holding → Turn
turn_in Away holds = turn.Nothing
turn_in Left holds = turn.Nothing
turn_in Closing holds = turn.Drop
turn_in state (holding.Body held) = turn.IfRoom held
turn_in state holds = turn.Step

abbrev pub turn_of : Client → Turn
turn_of client = turn_in client.state client.holds

-- what its socket is waited for
abbrev pub interest_in : State → Option Interest
interest_in (Waits interest) = Some interest
interest_in (Back since interest) = Some interest
interest_in Closing = Some Read
interest_in (ForRoom since) = None
interest_in Away = None
interest_in Left = None

abbrev pub interest_of : Client → Option Interest
interest_of client = interest_in client.state

-- it has not ended
abbrev pub is_live_in : State → Bool
is_live_in Left = false
is_live_in state = true

abbrev pub is_live : Client → Bool
is_live client = is_live_in client.state

-- its time runs: not while its body waits for room, nor while a thread has it
abbrev pub runs : State → Bool
runs (Waits interest) = true
runs (ForRoom since) = false
runs Away = false
runs (Back since interest) = true
runs Closing = true
runs Left = false

-- it is between two requests, or before the first
abbrev pub is_idle : Client → Bool
is_idle client = is_same client.pace.stage stage.Idle && runs client.state

-- it ends where it is idle while the node drains
abbrev pub unless_drained : Bool → Client → Option Client
unless_drained drains client = if drains && is_idle client then None else Some client

-- it has to end now: it is idle while the node drains, or late
abbrev pub is_due : Bool → Limits → ℕ → Client → Bool
is_due drains limits now client = (drains && is_idle client) || (runs client.state && is_late limits client.pace now)

-- its own number, where it has to end now
abbrev pub due_number : Bool → Limits → ℕ → Client → Option ℕ
due_number drains limits now client = if is_due drains limits now client then Some client.number else None

-- how many bytes it moved of late
abbrev pub moved_of_late : Limits → ℕ → Client → ℕ
moved_of_late limits now client = of_late (in_span (span_of limits now) client.recent)

-- a thread has one of its requests
abbrev pub is_away : State → Bool
is_away Away = true
is_away state = false

-- what is known of it where a place is needed
abbrev pub stake_of : Limits → ℕ → Client → Stake
stake_of limits now client = record {
  stage = client.pace.stage;
  is_at_work = is_away client.state;
  is_answered = client.is_answered;
  is_young = nat_lt (now - client.came) limits.fresh;
  came = client.came;
  active = client.active;
  moved = moved_of_late limits now client;
}

abbrev pub is_new : Limits → ℕ → Client → Bool
is_new limits now client = is_live client && is_new_by (stake_of limits now client)

-- its number among those that go then, where new ones crowd the others or don't
abbrev pub rank_of : (crowds : Bool) → Limits → ℕ → Client → Option ℕ
rank_of crowds limits now client = if is_live client then number_of crowds (stake_of limits now client) else None

-- since when its body waits for room
abbrev pub since_in : State → Option ℕ
since_in (ForRoom since) = Some since
since_in state = None

abbrev pub waits_since : Client → Option ℕ
waits_since client = since_in client.state

-- It may have to go to give room: not while a thread has it. A body has had time to move, and holds something or doesn't wait; a reply that came back from a
-- thread was tried, or has had time for that.
abbrev pub may_go_in : Kind → Holding → State → Limits → ℕ → Client → Bool
may_go_in kind holds Away limits now client = false
may_go_in kind holds Left limits now client = false
may_go_in Bodies (holding.Body held) (ForRoom since) limits now client = nat_lt 0 held && nat_le limits.wait (now - client.body_since)
may_go_in Bodies (holding.Body held) state limits now client = nat_le limits.wait (now - client.body_since)
may_go_in Replies (holding.Reply held) (Back since interest) limits now client = nat_le limits.sweep (now - since)
may_go_in Replies (holding.Reply held) state limits now client = true
may_go_in kind holds state limits now client = false

abbrev pub may_go : Kind → Limits → ℕ → Client → Bool
may_go kind limits now client = may_go_in kind client.holds client.state limits now client

-- none moves as many bytes: it is 2 to the power of 62
abbrev pub most_moved : ℕ
most_moved = 4611686018427387904

-- the number of one that moved so many, among those that may have to go: the least goes first. Of two that moved as many it is the first body.
abbrev pub number_by : (goes_before : Bool) → (moved : ℕ) → ℕ
number_by goes_before moved = min moved most_moved * 2 + (if goes_before then 0 else 1)

-- its number among those that may have to go, where this connection's body is the first
abbrev pub slowness : Kind → (first : Option ℕ) → Limits → ℕ → Client → Option ℕ
slowness kind first limits now client =
    if may_go kind limits now client then Some (number_by (is_first client.number first) (moved_of_late limits now client)) else None
