-- A turn of a connection: a request is read or not, and a reply is written.
use Rattle.std.proofs.Common.{◌≡◌, ℕ, List, [], ◌++◌, Bool, Some, Result, Ok, Err, OnOk, refl, sym, subst, append-nil}
use Rattle.std.specs.Io.KnownBytes.{prepend_known}
use Rattle.http_wire.specs.Requests.{RequestParts}
use Rattle.http_wire.specs.Timing.{Event, ReadFails, WriteFails, all_put, IsLatest, GoesOn, Steps, Ran, NoRead}
use Rattle.http_wire.proofs.Trails.{put_joined, goes_on_joined, latest_joined, steps_joined, timely_joined, nothing_got}
use Rattle.host_connection.specs.Serving.{Answering, Stream, TakesNext, Stops}
use Rattle.host_connection.specs.Timing.{AwaitsRequest, ReadsAs}
use Rattle.host_replies.specs.Replies.{closes}
use Rattle.host_connection.specs.declared.requests.Request.{Request}
use Rattle.host_connection.specs.declared.connections.ConnectionFault.{ConnectionFault}
use Rattle.host_connection.specs.declared.connections.ConnectionFault.TheVariants as fault
use Rattle.host_connection.specs.declared.stops.Stop.{Stop}
use Rattle.host_connection.specs.declared.stops.Stop.TheVariants as stop
use Rattle.host_connection.proofs.Turns.{turned, refused, refused_cut}
use Rattle.http_wire.proofs.SplitTrails.{read_goes_on, write_goes_on, gives_read}
use Rattle.host_connection.proofs.TurnParts.{Sends, Refuses, Exchanges, Turns, Next, Exchange, End, RefusesAs, ExchangesAs, IsFollowed, TurnsAs}

-- ---- a turn

exchanges_as : {H : Type 0} (answers : Answering H) (P Q : Type 0) (result : Result Next ConnectionFault) (close : Bool) (host next : H) (parts : RequestParts) (body : List ℕ) (held new_held : Stream) → (P → Q)
    → Exchanges answers P result close host parts body held new_held next → Exchanges answers Q result close host parts body held new_held next
exchanges_as answers P Q (Ok Exchange) close host next parts body held new_held f e = e
exchanges_as answers P Q (Ok End) close host next parts body held new_held f e = e
exchanges_as answers P Q (Err fault.InputFault) close host next parts body held new_held f e = e
exchanges_as answers P Q (Err fault.OutputFault) close host next parts body held new_held f e = (f e.0, e.1)
exchanges_as answers P Q (Err fault.OutOfMemory) close host next parts body held new_held f e = e

followed : (result : Result Next ConnectionFault) (events past : List Event) → OnOk result (GoesOn events) → GoesOn past → IsFollowed result (events ++ past)
followed (Ok Exchange) events past on before = goes_on_joined events past on before
followed (Ok End) events past on before = tt
followed (Err why) events past on before = tt

pub turn_answered : {S H : Type 0} (answers : Answering H) (saw : S → Event → S → Type 0) (old mid new : S) (result : Result Next ConnectionFault) (is_last : Bool) (request : Request) (host next : H) (buffer rest : List ℕ)
    → Ran saw (AwaitsRequest buffer) old mid (ReadsAs {A = Request} (Ok request) (TakesNext is_last) Stops buffer rest)
    → Ran saw NoRead mid new (ExchangesAs answers result (closes request.head request.is_last) host request.head request.body.items next)
    → Ran saw (AwaitsRequest buffer) old new (TurnsAs answers result is_last host next buffer rest)
turn_answered answers saw old mid new result is_last request host next buffer rest first second =
    let events = second.events ++ first.events in
    record {
      events = events;
      steps = steps_joined saw old mid new second.events first.events first.steps second.steps;
      timely = timely_joined NoRead (AwaitsRequest buffer) second.events first.events (λ got put no. absurd no) second.timely first.claimed.ends first.timely;
      claimed = record {
        followed = followed result second.events first.events second.claimed.goes_on first.claimed.ends;
        of_stream = λ left new_left gives. (
            let P : Type 0 = IsLatest ReadFails events in
            let Q : Type 0 = IsLatest WriteFails events in
            let read = first.claimed.of_stream left new_left
            (gives_read second.events first.events left new_left first.claimed.ends (nothing_got second.events second.timely) gives) in
            let told = exchanges_as answers (IsLatest WriteFails second.events) Q result (closes request.head request.is_last) host next request.head request.body.items (Some []) (Some (all_put second.events))
            (latest_joined WriteFails second.events first.events) second.claimed.exchanges in
            subst (λ p. Turns answers P Q result is_last host (prepend_known buffer left) (prepend_known rest new_left) (Some []) (Some p) next) (sym (put_joined second.events first.events))
            (turned answers P Q result is_last request.is_last host next (prepend_known buffer left) (prepend_known rest new_left) (all_put first.events) (all_put second.events)
            request.head request.body.items read.0 read.1 read.2 told)
            );
      };
    }

abbrev pub next_of : Result (Unit {0}) ConnectionFault → Result Next ConnectionFault
next_of (Ok done) = Ok End
next_of (Err why) = Err why

refused_any : {H : Type 0} (answers : Answering H) (read_fails write_fails : Type 0) (why : Stop) (result : Result (Unit {0}) ConnectionFault) (is_last : Bool) (host : H) (old new : Stream) (put written : List ℕ)
    → Stops read_fails write_fails old put why → Refuses write_fails result why (Some []) (Some written)
    → Turns answers read_fails write_fails (next_of result) is_last host old new (Some []) (Some (put ++ written)) host
refused_any answers read_fails write_fails why (Ok done) is_last host old new put written stops refuses = refused answers read_fails write_fails why is_last host old new put written stops refuses
refused_any answers read_fails write_fails why (Err fails) is_last host old new put written stops refuses = refused_cut answers read_fails write_fails why fails is_last host old new put written stops refuses

not_followed : (result : Result (Unit {0}) ConnectionFault) (events : List Event) → IsFollowed (next_of result) events
not_followed (Ok done) events = tt
not_followed (Err why) events = tt

sends_as : (P Q : Type 0) (result : Result (Unit {0}) ConnectionFault) (text : List ℕ) (held new_held : Stream) → (P → Q) → Sends P result text held new_held → Sends Q result text held new_held
sends_as P Q (Ok done) text held new_held f s = s
sends_as P Q (Err fault.InputFault) text held new_held f s = s
sends_as P Q (Err fault.OutputFault) text held new_held f s = (f s.0, s.1)
sends_as P Q (Err fault.OutOfMemory) text held new_held f s = s

-- how a request isn't read
abbrev MissRan : {S : Type 0} → (saw : S → Event → S → Type 0) → (old new : S) → Stop → (Request → Stream → Stream → List ℕ → Type 0) → (buffer rest : List ℕ) → Type 0
MissRan saw old new why takes buffer rest = Ran saw (AwaitsRequest buffer) old new (ReadsAs {A = Request} (Err why) takes Stops buffer rest)

-- nothing is written after a stream that ended, or a fault
turn_silent : {S H : Type 0} (answers : Answering H) (saw : S → Event → S → Type 0) (old mid new : S) (why : Stop) (result : Result (Unit {0}) ConnectionFault) (is_last : Bool) (host : H) (buffer rest : List ℕ)
    (takes : Request → Stream → Stream → List ℕ → Type 0) (first : MissRan saw old mid why takes buffer rest) (second : Ran saw NoRead mid new (RefusesAs result why))
    → second.events ≡ [] → ((P : Type 0) → Refuses P result why (Some []) (Some []))
    → Ran saw (AwaitsRequest buffer) old new (TurnsAs answers (next_of result) is_last host host buffer rest)
turn_silent answers saw old mid new why result is_last host buffer rest takes first second none refuses =
    let stays : new ≡ mid = subst (λ e. Steps saw mid e new) none second.steps in
    record {
      events = first.events;
      steps = subst (λ s. Steps saw old first.events s) (sym stays) first.steps;
      timely = first.timely;
      claimed = record {
        followed = not_followed result first.events;
        of_stream = λ left new_left gives. (
            let P : Type 0 = IsLatest ReadFails first.events in
            let Q : Type 0 = IsLatest WriteFails first.events in
            subst (λ p. Turns answers P Q (next_of result) is_last host (prepend_known buffer left) (prepend_known rest new_left) (Some []) (Some p) host) (append-nil (all_put first.events))
            (refused_any answers P Q why result is_last host (prepend_known buffer left) (prepend_known rest new_left) (all_put first.events) []
            (first.claimed.of_stream left new_left gives) (refuses Q))
            );
      };
    }

-- a refusal is written
stops_as : (P Q R T : Type 0) (old : Stream) (sent : List ℕ) (why : Stop) → (P → R) → (Q → T) → Stops P Q old sent why → Stops R T old sent why
stops_as P Q R T old sent stop.Ended f g stops = stops
stops_as P Q R T old sent stop.ReadFault f g stops = (f stops.0, stops.1)
stops_as P Q R T old sent stop.WriteFault f g stops = (g stops.0, stops.1)
stops_as P Q R T old sent (stop.Refused reason head_only) f g stops = stops
stops_as P Q R T old sent (stop.OutOfMemory head_only) f g stops = stops

refuses_as : (P Q : Type 0) (result : Result (Unit {0}) ConnectionFault) (why : Stop) (held new_held : Stream) → (P → Q) → Refuses P result why held new_held → Refuses Q result why held new_held
refuses_as P Q result stop.Ended held new_held f r = r
refuses_as P Q result stop.ReadFault held new_held f r = r
refuses_as P Q result stop.WriteFault held new_held f r = r
refuses_as P Q result (stop.Refused reason head_only) held new_held f r = sends_as P Q result _ held new_held f r
refuses_as P Q result (stop.OutOfMemory head_only) held new_held f r = sends_as P Q result _ held new_held f r

turn_told : {S H : Type 0} (answers : Answering H) (saw : S → Event → S → Type 0) (old mid new : S) (why : Stop) (result : Result (Unit {0}) ConnectionFault) (is_last : Bool) (host : H) (buffer rest : List ℕ)
    (takes : Request → Stream → Stream → List ℕ → Type 0) (first : MissRan saw old mid why takes buffer rest) → GoesOn first.events
    → Ran saw NoRead mid new (RefusesAs result why) → Ran saw (AwaitsRequest buffer) old new (TurnsAs answers (next_of result) is_last host host buffer rest)
turn_told answers saw old mid new why result is_last host buffer rest takes first on second =
    let events = second.events ++ first.events in
    record {
      events = events;
      steps = steps_joined saw old mid new second.events first.events first.steps second.steps;
      timely = timely_joined NoRead (AwaitsRequest buffer) second.events first.events (λ got put no. absurd no) second.timely on first.timely;
      claimed = record {
        followed = not_followed result events;
        of_stream = λ left new_left gives. (
            let P : Type 0 = IsLatest ReadFails events in
            let Q : Type 0 = IsLatest WriteFails events in
            let stops = first.claimed.of_stream left new_left (gives_read second.events first.events left new_left on (nothing_got second.events second.timely) gives) in
            subst (λ p. Turns answers P Q (next_of result) is_last host (prepend_known buffer left) (prepend_known rest new_left) (Some []) (Some p) host) (sym (put_joined second.events first.events))
            (refused_any answers P Q why result is_last host (prepend_known buffer left) (prepend_known rest new_left) (all_put first.events) (all_put second.events)
            (stops_as (IsLatest ReadFails first.events) (IsLatest WriteFails first.events) P Q (prepend_known buffer left) (all_put first.events) why
            (λ latest. absurd (read_goes_on first.events on latest)) (λ latest. absurd (write_goes_on first.events on latest)) stops)
            (refuses_as (IsLatest WriteFails second.events) Q result why (Some []) (Some (all_put second.events)) (latest_joined WriteFails second.events first.events) second.claimed.refuses))
            );
      };
    }

-- the turn of a connection where no request was read
pub turn_refused : {S H : Type 0} (answers : Answering H) (saw : S → Event → S → Type 0) (old mid new : S) (why : Stop) (result : Result (Unit {0}) ConnectionFault) (is_last : Bool) (host : H) (buffer rest : List ℕ)
    (takes : Request → Stream → Stream → List ℕ → Type 0) → MissRan saw old mid why takes buffer rest
    → Ran saw NoRead mid new (RefusesAs result why) → Ran saw (AwaitsRequest buffer) old new (TurnsAs answers (next_of result) is_last host host buffer rest)
turn_refused answers saw old mid new stop.Ended result is_last host buffer rest takes first second =
    turn_silent answers saw old mid new stop.Ended result is_last host buffer rest takes first second second.claimed.silent (λ P. (second.claimed.refuses.0, refl))
turn_refused answers saw old mid new stop.ReadFault result is_last host buffer rest takes first second =
    turn_silent answers saw old mid new stop.ReadFault result is_last host buffer rest takes first second second.claimed.silent (λ P. (second.claimed.refuses.0, refl))
turn_refused answers saw old mid new stop.WriteFault result is_last host buffer rest takes first second =
    turn_silent answers saw old mid new stop.WriteFault result is_last host buffer rest takes first second second.claimed.silent (λ P. (second.claimed.refuses.0, refl))
turn_refused answers saw old mid new (stop.Refused reason head_only) result is_last host buffer rest takes first second =
    turn_told answers saw old mid new (stop.Refused reason head_only) result is_last host buffer rest takes first first.claimed.ends second
turn_refused answers saw old mid new (stop.OutOfMemory head_only) result is_last host buffer rest takes first second =
    turn_told answers saw old mid new (stop.OutOfMemory head_only) result is_last host buffer rest takes first first.claimed.ends second
