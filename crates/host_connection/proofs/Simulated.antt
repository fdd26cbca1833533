-- What a connection did on one stream, as what it did on another that sees the same events.
use Rattle.std.proofs.Common.{◌≡◌, ◌⊎◌, inl, inr, ℕ, List, [], ◌∷◌, Bool, refl, subst}
use Rattle.http_wire.specs.Gathering.{Gathered, IsCounted}
use Rattle.http_wire.specs.Requests.{RequestParts}
use Rattle.http_wire.specs.Timing.{Event, NoRead, Ran, Steps}
use Rattle.http_wire.specs.Wires.{AwaitsBody, AwaitsHead}
use Rattle.host_connection.specs.declared.phases.Phase.{Phase}
use Rattle.host_connection.specs.declared.phases.Phase.TheVariants as phase
use Rattle.host_connection.specs.declared.phases.Sending.{Sending}
use Rattle.host_connection.specs.declared.requests.Request.{Request}
use Rattle.host_connection.specs.declared.steps.Connection.{Connection}
use Rattle.host_connection.specs.declared.stops.Stop.{Stop}
use Rattle.host_connection.specs.Carrying.{Carried, Carries, ConnectionSoFar, InTurn, Refusing, Replying, text_of}
use Rattle.host_connection.specs.Phases.{BodySoFar, HeadSoFar, InviteSoFar, RefusalSoFar, ReplySoFar}
use Rattle.host_connection.specs.Serving.{Answering, is_last_at}
use Rattle.host_connection.specs.Timing.{Connects, IsCaughtUp}

-- each event that one stream saw led, on the other, from a state to the one that is alike after it
abbrev pub Simulates : {S T : Type 0} → (saw : S → Event → S → Type 0) → (seen : T → Event → T → Type 0) → (R : S → T → Type 0) → Type 0
Simulates {S} {T} saw seen R = (a b : S) (event : Event) (d : T) → saw a event b → R b d → (c : T) × R a c × seen c event d

-- ---- trails

pub steps_back : {S T : Type 0} (saw : S → Event → S → Type 0) (seen : T → Event → T → Type 0) (R : S → T → Type 0) → Simulates saw seen R → (old new : S) (after : T) (events : List Event)
    → Steps saw old events new → R new after → (before : T) × R old before × Steps seen before events after
steps_back saw seen R by old new after [] steps r = (after, subst (λ s. R s after) steps r, refl)
steps_back saw seen R by old new after (event ∷ past) steps r =
    let last = by steps.0 new event after steps.2 r in
    let first = steps_back saw seen R by old steps.0 last.0 past steps.1 last.1 in
    (first.0, first.1, (last.0, first.2, last.2))

pub ran_back : {S T : Type 0} (saw : S → Event → S → Type 0) (seen : T → Event → T → Type 0) (R : S → T → Type 0) → Simulates saw seen R → (may : List ℕ → List ℕ → Type 0) (old new : S) (after : T) (claim : List Event → Type 0)
    → Ran saw may old new claim → R new after → (before : T) × R old before × Ran seen may before after claim
ran_back saw seen R by may old new after claim ran r =
    let back = steps_back saw seen R by old new after ran.events ran.steps r in
    (back.0, back.1, record { events = ran.events; steps = back.2; timely = ran.timely; claimed = ran.claimed })

-- ---- turns

invite_back : {S T : Type 0} (saw : S → Event → S → Type 0) (seen : T → Event → T → Type 0) (R : S → T → Type 0) → Simulates saw seen R → (mid now : S) (after : T) (parts : RequestParts) (size at : ℕ) (begun buffer : List ℕ)
    → InviteSoFar saw mid now parts size at begun buffer → R now after → (before : T) × R mid before × InviteSoFar seen before after parts size at begun buffer
invite_back saw seen R by mid now after parts size at begun buffer so r =
    let sent = ran_back saw seen R by NoRead so.read now after _ so.sent r in
    let head = ran_back saw seen R by (AwaitsHead begun) mid so.read sent.0 _ so.head sent.1 in
    (head.0, head.1, record { read = sent.0; head = head.2; announced = so.announced; expects = so.expects; sent = sent.2 })

body_back : {S T : Type 0} (saw : S → Event → S → Type 0) (seen : T → Event → T → Type 0) (R : S → T → Type 0) → Simulates saw seen R → (mid now : S) (after : T) (parts : RequestParts) (size : ℕ) (begun part buffer : List ℕ)
    → BodySoFar saw mid now parts size begun part buffer → R now after → (before : T) × R mid before × BodySoFar seen before after parts size begun part buffer
body_back saw seen R by mid now after parts size begun part buffer so r =
    let came = ran_back saw seen R by (AwaitsBody so.behind size) so.invited now after _ so.came r in
    let invites = ran_back saw seen R by NoRead so.read so.invited came.0 _ so.invites came.1 in
    let head = ran_back saw seen R by (AwaitsHead begun) mid so.read invites.0 _ so.head invites.1 in
    (head.0, head.1, record { read = invites.0; invited = came.0; behind = so.behind; head = head.2; announced = so.announced; invites = invites.2; came = came.2 })

reply_back : {S T H : Type 0} (answers : Answering H) (saw : S → Event → S → Type 0) (seen : T → Event → T → Type 0) (R : S → T → Type 0) → Simulates saw seen R → (mid now : S) (after : T) (host next : H) (is_last : Bool) (request : Request)
    (text : List ℕ) (at : ℕ) (begun buffer : List ℕ) → ReplySoFar answers saw mid now host next is_last request text at begun buffer → R now after
    → (before : T) × R mid before × ReplySoFar answers seen before after host next is_last request text at begun buffer
reply_back answers saw seen R by mid now after host next is_last request text at begun buffer so r =
    let sent = ran_back saw seen R by NoRead so.read now after _ so.sent r in
    let taken = ran_back saw seen R by _ mid so.read sent.0 _ so.taken sent.1 in
    (taken.0, taken.1, record { read = sent.0; taken = taken.2; is_sent = so.is_sent; sent = sent.2 })

refusal_back : {S T : Type 0} (saw : S → Event → S → Type 0) (seen : T → Event → T → Type 0) (R : S → T → Type 0) → Simulates saw seen R → (mid now : S) (after : T) (is_last : Bool) (why : Stop) (at : ℕ) (begun buffer : List ℕ)
    → RefusalSoFar saw mid now is_last why at begun buffer → R now after → (before : T) × R mid before × RefusalSoFar seen before after is_last why at begun buffer
refusal_back saw seen R by mid now after is_last why at begun buffer so r =
    let sent = ran_back saw seen R by NoRead so.read now after _ so.sent r in
    let missed = ran_back saw seen R by _ mid so.read sent.0 _ so.missed sent.1 in
    (missed.0, missed.1, record { read = sent.0; missed = missed.2; told = so.told; sent = sent.2 })

either_back : {S T H : Type 0} (answers : Answering H) (saw : S → Event → S → Type 0) (seen : T → Event → T → Type 0) (R : S → T → Type 0) → Simulates saw seen R → (mid now : S) (after : T) (host next : H) (is_last : Bool)
    (begun buffer : List ℕ) (out : Gathered) (s : Sending)
    → (Replying answers saw mid now host next is_last begun buffer out s ⊎ Refusing saw mid now host next is_last begun buffer out s) → R now after
    → (before : T) × R mid before × (Replying answers seen before after host next is_last begun buffer out s ⊎ Refusing seen before after host next is_last begun buffer out s)
either_back answers saw seen R by mid now after host next is_last begun buffer out s (inl c) r =
    let back = reply_back answers saw seen R by mid now after host next is_last c.request (text_of s) c.at begun buffer c.so r in
    (back.0, back.1, inl (record { request = c.request; at = c.at; so = back.2; closing = c.closing; amid = c.amid }))
either_back answers saw seen R by mid now after host next is_last begun buffer out s (inr c) r =
    let back = refusal_back saw seen R by mid now after is_last c.why c.at begun buffer c.so r in
    (back.0, back.1, inr (record { why = c.why; at = c.at; so = back.2; text_is = c.text_is; closing = c.closing; amid = c.amid; same = c.same }))

-- ---- connections

so_far_back : {S T H : Type 0} (answers : Answering H) (saw : S → Event → S → Type 0) (seen : T → Event → T → Type 0) (R : S → T → Type 0) → Simulates saw seen R → (start began : S) (after : T) (first before : H) (n : ℕ) (begun : List ℕ)
    → ConnectionSoFar answers saw start began first n before begun → R began after → (begin : T) × R start begin × ConnectionSoFar answers seen begin after first n before begun
so_far_back answers saw seen R by start began after first before n begun so r =
    let back = steps_back saw seen R by start began after so.events so.steps r in
    (back.0, back.1, record { events = so.events; steps = back.2; timely = so.timely; goes_on = so.goes_on; so = so.so })

-- a turn, and all before it
turn_back : {S T H : Type 0} (answers : Answering H) (saw : S → Event → S → Type 0) (seen : T → Event → T → Type 0) (R : S → T → Type 0) → Simulates saw seen R → (start : S) (first : H) (n : ℕ)
    (CameTo : S → H → List ℕ → Type 0) (ComesTo : T → H → List ℕ → Type 0) → ((began : S) (before : H) (begun : List ℕ) → CameTo began before begun → (after : T) × R began after × ComesTo after before begun)
    → InTurn answers saw start first n CameTo → (begin : T) × R start begin × InTurn answers seen begin first n ComesTo
turn_back answers saw seen R by start first n CameTo ComesTo back c =
    let turn = back c.began c.before c.begun c.turn in
    let so = so_far_back answers saw seen R by start c.began turn.0 first c.before n c.begun c.so turn.1 in
    (so.0, so.1, record { began = turn.0; before = c.before; begun = c.begun; so = so.2; turn = turn.2 })

counted_or : (leaves other : Type 0) → (leaves → other) → (out : Gathered) → (IsCounted out ⊎ leaves) → (IsCounted out ⊎ other)
counted_or leaves other to out (inl counted) = inl counted
counted_or leaves other to out (inr left) = inr (to left)

carried_back : {S T H : Type 0} (answers : Answering H) (saw : S → Event → S → Type 0) (seen : T → Event → T → Type 0) (R : S → T → Type 0) → Simulates saw seen R → (leaves other : Type 0) → (leaves → other) → (start now : S) (after : T)
    (first host : H) (buffer : List ℕ) (out : Gathered) (n : ℕ) (p : Phase) → Carried answers saw leaves start first now host buffer out n p → R now after
    → (begin : T) × R start begin × Carried answers seen other begin first after host buffer out n p
carried_back answers saw seen R by leaves other to start now after first host buffer out n phase.Head c r =
    turn_back answers saw seen R by start first n _ (λ began before begun. HeadSoFar seen began after begun buffer × (host ≡ before))
    (λ began before begun turn. (
    let back = ran_back saw seen R by (AwaitsHead begun) began now after _ turn.0 r in
    (back.0, back.1, (back.2, turn.1))
    )) c
carried_back answers saw seen R by leaves other to start now after first host buffer out n (phase.Invite i) c r =
    turn_back answers saw seen R by start first n _ (λ began before begun. InviteSoFar seen began after i.head i.size i.at begun buffer × (host ≡ before))
    (λ began before begun turn. (
    let back = invite_back saw seen R by began now after i.head i.size i.at begun buffer turn.0 r in
    (back.0, back.1, (back.2, turn.1))
    )) c
carried_back answers saw seen R by leaves other to start now after first host buffer out n (phase.Body b) c r =
    turn_back answers saw seen R by start first n _ (λ began before begun. BodySoFar seen began after b.head b.size begun b.body.items buffer × (host ≡ before))
    (λ began before begun turn. (
    let back = body_back saw seen R by began now after b.head b.size begun b.body.items buffer turn.0 r in
    (back.0, back.1, (back.2, turn.1))
    )) c
carried_back answers saw seen R by leaves other to start now after first host buffer out n (phase.Reply s) c r =
    let back = turn_back answers saw seen R by start first n _ (λ began before begun. Replying answers seen began after before host (is_last_at n) begun buffer out s
    ⊎ Refusing seen began after before host (is_last_at n) begun buffer out s)
    (λ began before begun turn. either_back answers saw seen R by began now after before host (is_last_at n) begun buffer out s turn r) c.0 in
    (back.0, back.1, (back.2, counted_or leaves other to out c.1, c.2))
carried_back answers saw seen R by leaves other to start now after first host buffer out n (phase.Ended result) c r =
    ran_back saw seen R by (IsCaughtUp answers first) start now after (Connects answers result first host) c r

pub carries_back : {S T H : Type 0} (answers : Answering H) (saw : S → Event → S → Type 0) (seen : T → Event → T → Type 0) (R : S → T → Type 0) → Simulates saw seen R → (leaves other : Type 0) → (leaves → other) → (start now : S) (after : T)
    (first host : H) (c : Connection) → Carries answers saw leaves start first now host c → R now after → (begin : T) × R start begin × Carries answers seen other begin first after host c
carries_back answers saw seen R by leaves other to start now after first host c carries r =
    carried_back answers saw seen R by leaves other to start now after first host c.wire c.out c.number c.phase carries r
