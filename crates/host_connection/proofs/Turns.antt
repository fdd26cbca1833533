-- One exchange, put together from its parts.
use Rattle.std.proofs.Common.{◌≡◌, ◌<◌, inl, inr, ℕ, List, [], ◌++◌, length, Bool, true, false, Some, None, unwrap_or, Result, Ok, Err, codes, refl, sym, ap, ap₂, subst, ◌∙◌}
use Rattle.std.specs.Io.KnownBytes.{Appends, Consumes}
use Rattle.std.specs.Str.{bytes_eq}
use Rattle.std.proofs.lemmas.List.{append-nil, append_assoc}
use Rattle.http_wire.specs.Fields.{AnnouncesBody}
use Rattle.http_wire.specs.Requests.{RequestParts}
use Rattle.http_wire.specs.Wires.{ServesHead}
use Rattle.host_api.specs.declared.refusals.Refusal.TheVariants.{Head, OutOfMemory}
use Rattle.host_replies.specs.Replies.{Answer, closes, refused_answer, sent_for, sent_text}
use Rattle.host_connection.specs.Serving.{Answering, Stream, limit_of, IsInterim, IsInvited, TakesRequest, IsAnswered, IsNotRead, IsFrontSent, IsSent, HeadStops, Stops}
use Rattle.host_connection.specs.declared.connections.ConnectionFault.{ConnectionFault}
use Rattle.host_connection.specs.declared.connections.ConnectionFault.TheVariants as fault
use Rattle.host_connection.specs.declared.stops.Stop.{Stop}
use Rattle.host_connection.specs.declared.stops.Stop.TheVariants as stop
use Rattle.host_connection.proofs.TurnParts.{Invites, BodyStops, Sends, Refuses, Exchanges, Turns, Next, Exchange, End}

-- the text of an answer is sent
pub is_sent : {H : Type 0} (answers : Answering H) (close head_only : Bool) (host next : H) (parts : RequestParts) (body : List ℕ) (answer : Answer)
    → head_only ≡ bytes_eq parts.method (codes "HEAD") → answers host parts body answer next → IsSent answers close host parts body (sent_text close head_only answer) next
is_sent answers close head_only host next parts body answer named right =
    record { answer = answer; is_answer = right; sent_is = ap (λ h. sent_text close h answer) named }

-- whether the connection ends next
abbrev pub is_end : Next → Bool
is_end Exchange = false
is_end End = true

pub exchange_sent : {H : Type 0} (answers : Answering H) (write_fails : Type 0) (next_turn : Next) (close : Bool) (host next : H) (parts : RequestParts) (body text : List ℕ) (held new_held : Stream)
    → close ≡ is_end next_turn → IsSent answers close host parts body text next → Sends write_fails (Ok tt) text held new_held
    → Exchanges answers write_fails (Ok next_turn) close host parts body held new_held next
exchange_sent answers write_fails Exchange close host next parts body text held new_held closing sent appended = (closing, (text, sent, appended))
exchange_sent answers write_fails End close host next parts body text held new_held closing sent appended = (closing, (text, sent, appended))

pub exchange_cut : {H : Type 0} (answers : Answering H) (write_fails : Type 0) (why : ConnectionFault) (close : Bool) (host next : H) (parts : RequestParts) (body text : List ℕ) (held new_held : Stream)
    → IsSent answers close host parts body text next → Sends write_fails (Err why) text held new_held
    → Exchanges answers write_fails (Err why) close host parts body held new_held next
exchange_cut answers write_fails fault.InputFault close host next parts body text held new_held sent cut = absurd cut
exchange_cut answers write_fails fault.OutputFault close host next parts body text held new_held sent cut =
    let front = cut.1 in
    (cut.0, (front.0, front.1, front.2, subst (λ t. IsSent answers close host parts body t next) front.3 sent, front.4))
exchange_cut answers write_fails fault.OutOfMemory close host next parts body text held new_held sent cut = absurd cut

-- ---- with the request that was read

abbrev answered : {H : Type 0} (answers : Answering H) (close is_last request_last : Bool) (host next : H) (old new : Stream) (parts : RequestParts) (body put sent whole : List ℕ)
    → whole ≡ put ++ sent → TakesRequest old new parts body → IsInterim parts put → request_last ≡ is_last → closes parts request_last ≡ close
    → IsSent answers (closes parts request_last) host parts body sent next → IsAnswered answers host is_last close old whole next new
answered answers close is_last request_last host next old new parts body put sent whole is request interim same closing s = record {
  parts = parts;
  body = body;
  request = request;
  interim = put;
  is_interim = interim;
  closing = ap (closes parts) (sym same) ∙ closing;
  answer = s.answer;
  is_answer = s.is_answer;
  sent_is = is ∙ ap (λ u. put ++ u) (s.sent_is ∙ ap (λ c. sent_for c parts.method s.answer) closing);
}

cut : {H : Type 0} (answers : Answering H) (close is_last request_last : Bool) (host next : H) (old new : Stream) (parts : RequestParts) (body put sent rest : List ℕ)
    → TakesRequest old new parts body → IsInterim parts put → request_last ≡ is_last → closes parts request_last ≡ close
    → 0 < length rest → IsSent answers (closes parts request_last) host parts body (sent ++ rest) next → IsFrontSent answers host is_last old (put ++ sent) next
cut answers close is_last request_last host next old new parts body put sent rest request interim same closing some s =
    let whole = answered answers close is_last request_last host next old new parts body put (sent ++ rest) ((put ++ sent) ++ rest) (append_assoc put sent rest) request interim same closing s in
    record { rest = rest; some = some; whole = inl (new, close, whole, (sent, refl)) }

-- what was written is what comes before the body, and then the reply
pub turned : {H : Type 0} (answers : Answering H) (read_fails write_fails : Type 0) (result : Result Next ConnectionFault) (is_last request_last : Bool) (host next : H) (old new : Stream) (put written : List ℕ)
    (parts : RequestParts) (body : List ℕ) → TakesRequest old new parts body → IsInterim parts put → request_last ≡ is_last
    → Exchanges answers write_fails result (closes parts request_last) host parts body (Some []) (Some written) next
    → Turns answers read_fails write_fails result is_last host old new (Some []) (Some (put ++ written)) next
turned answers read_fails write_fails (Ok Exchange) is_last request_last host next old new put written parts body request interim same e =
    (put ++ e.1.0, answered answers false is_last request_last host next old new parts body put e.1.0 (put ++ e.1.0) refl request interim same e.0 e.1.1, ap (λ u. put ++ u) e.1.2)
turned answers read_fails write_fails (Ok End) is_last request_last host next old new put written parts body request interim same e =
    (put ++ e.1.0, inr (inl (new, answered answers true is_last request_last host next old new parts body put e.1.0 (put ++ e.1.0) refl request interim same e.0 e.1.1)), ap (λ u. put ++ u) e.1.2)
turned answers read_fails write_fails (Err fault.InputFault) is_last request_last host next old new put written parts body request interim same e = absurd e
turned answers read_fails write_fails (Err fault.OutputFault) is_last request_last host next old new put written parts body request interim same e =
    (e.0, (put ++ e.1.0, cut answers (closes parts request_last) is_last request_last host next old new parts body put e.1.0 e.1.1 request interim same refl e.1.2 e.1.3, ap (λ u. put ++ u) e.1.4))
turned answers read_fails write_fails (Err fault.OutOfMemory) is_last request_last host next old new put written parts body request interim same e = absurd e

-- ---- without a request

pub appends_nothing : (held : Stream) → Appends held held []
appends_nothing None = tt
appends_nothing (Some bytes) = sym (append-nil bytes)

-- nothing more was written
nothing_more : (put written : List ℕ) → Some written ≡ Some [] → put ++ written ≡ put
nothing_more put written same = ap (λ o. put ++ unwrap_or o []) same ∙ append-nil put

not_read : {H : Type 0} (answers : Answering H) (read_fails write_fails : Type 0) (is_last : Bool) (host : H) (old new : Stream) (put written text : List ℕ) → IsNotRead old (put ++ text)
    → Sends write_fails (Ok tt) text (Some []) (Some written) → Turns answers read_fails write_fails (Ok End) is_last host old new (Some []) (Some (put ++ written)) host
not_read answers read_fails write_fails is_last host old new put written text why appended = (put ++ text, inr (inr (why, refl)), ap (λ u. put ++ u) appended)

pub refused : {H : Type 0} (answers : Answering H) (read_fails write_fails : Type 0) (why : Stop) (is_last : Bool) (host : H) (old new : Stream) (put written : List ℕ) → Stops read_fails write_fails old put why
    → Refuses write_fails (Ok tt) why (Some []) (Some written) → Turns answers read_fails write_fails (Ok End) is_last host old new (Some []) (Some (put ++ written)) host
refused answers read_fails write_fails stop.Ended is_last host old new put written is_cut same = (put, inl (is_cut, refl), nothing_more put written same.1)
refused answers read_fails write_fails stop.ReadFault is_last host old new put written fails same = absurd (cc (same.0))
refused answers read_fails write_fails stop.WriteFault is_last host old new put written fails same = absurd (cc (same.0))
refused answers read_fails write_fails (stop.Refused reason head_only) is_last host old new put written why sends = not_read answers read_fails write_fails is_last host old new put written _ why sends
refused answers read_fails write_fails (stop.OutOfMemory head_only) is_last host old new put written why sends = not_read answers read_fails write_fails is_last host old new put written _ why sends

not_read_cut : {H : Type 0} (answers : Answering H) (read_fails write_fails : Type 0) (fails : ConnectionFault) (is_last : Bool) (host : H) (old new : Stream) (put written text : List ℕ) → IsNotRead old (put ++ text)
    → Sends write_fails (Err fails) text (Some []) (Some written) → Turns answers read_fails write_fails (Err fails) is_last host old new (Some []) (Some (put ++ written)) host
not_read_cut answers read_fails write_fails fault.InputFault is_last host old new put written text why cut = absurd cut
not_read_cut answers read_fails write_fails fault.OutputFault is_last host old new put written text why cut =
    let front = cut.1 in
    let whole : put ++ text ≡ (put ++ front.0) ++ front.1 = ap (λ u. put ++ u) front.3 ∙ sym (append_assoc put front.0 front.1) in
    (cut.0, (put ++ front.0, record { rest = front.1; some = front.2; whole = inr (inl (subst (IsNotRead old) whole why), refl) }, ap (λ u. put ++ u) front.4))
not_read_cut answers read_fails write_fails fault.OutOfMemory is_last host old new put written text why cut = absurd cut

abbrev fault_of : Result (Unit {0}) ConnectionFault → ConnectionFault
fault_of (Ok done) = fault.InputFault
fault_of (Err fails) = fails

pub refused_cut : {H : Type 0} (answers : Answering H) (read_fails write_fails : Type 0) (why : Stop) (fails : ConnectionFault) (is_last : Bool) (host : H) (old new : Stream) (put written : List ℕ)
    → Stops read_fails write_fails old put why → Refuses write_fails (Err fails) why (Some []) (Some written)
    → Turns answers read_fails write_fails (Err fails) is_last host old new (Some []) (Some (put ++ written)) host
refused_cut answers read_fails write_fails stop.Ended fails is_last host old new put written is_cut same = absurd (cc (same.0))
refused_cut answers read_fails write_fails stop.ReadFault fails is_last host old new put written read same =
    let is : fault.InputFault ≡ fails = sym (ap fault_of same.0) in
    subst (λ f. Turns answers read_fails write_fails (Err f) is_last host old new (Some []) (Some (put ++ written)) host) is
    (read.0, (put, read.1, refl, nothing_more put written same.1))
refused_cut answers read_fails write_fails stop.WriteFault fails is_last host old new put written wrote same =
    let is : fault.OutputFault ≡ fails = sym (ap fault_of same.0) in
    subst (λ f. Turns answers read_fails write_fails (Err f) is_last host old new (Some []) (Some (put ++ written)) host) is
    (wrote.0, (put, record { rest = wrote.1.0; some = wrote.1.1; whole = inr (inr wrote.1.2, refl) }, nothing_more put written same.1))
refused_cut answers read_fails write_fails (stop.Refused reason head_only) fails is_last host old new put written why sends =
    not_read_cut answers read_fails write_fails fails is_last host old new put written _ why sends
refused_cut answers read_fails write_fails (stop.OutOfMemory head_only) fails is_last host old new put written why sends =
    not_read_cut answers read_fails write_fails fails is_last host old new put written _ why sends

-- ---- what is read of a request

pub head_stopped : (read_fails write_fails : Type 0) (old : Stream) (why : Stop) → HeadStops read_fails old why → Stops read_fails write_fails old [] why
head_stopped read_fails write_fails old stop.Ended is_cut = inl (is_cut, refl)
head_stopped read_fails write_fails old stop.ReadFault fails = (fails, inl refl)
head_stopped read_fails write_fails old stop.WriteFault fails = absurd fails
head_stopped read_fails write_fails old (stop.Refused reason head_only) refuses = inl refuses
head_stopped read_fails write_fails old (stop.OutOfMemory head_only) none = inr (inr (inl none))

abbrev pub invited : (old mid : Stream) (parts : RequestParts) (size : ℕ) (sent : List ℕ) → ServesHead old mid parts → Invites parts size sent → IsInvited old mid size sent
invited old mid parts size sent head invites = record {
  parts = parts;
  head = head;
  announced = invites.0;
  is_interim = invites.1;
}

pub body_stopped : (read_fails write_fails : Type 0) (old mid : Stream) (parts : RequestParts) (sent : List ℕ) (why : Stop) → ServesHead old mid parts
    → BodyStops parts read_fails write_fails mid sent why → Stops read_fails write_fails old sent why
body_stopped read_fails write_fails old mid parts sent stop.Ended head is_cut =
    inr (record { rest = mid; size = is_cut.0; invited = invited old mid parts is_cut.0 sent head is_cut.1; short = is_cut.2 })
body_stopped read_fails write_fails old mid parts sent stop.ReadFault head fails =
    (fails.0, inr (mid, fails.1.0, invited old mid parts fails.1.0 sent head fails.1.1))
body_stopped read_fails write_fails old mid parts sent stop.WriteFault head fails =
    let part = fails.1 in
    (fails.0, (part.1, part.2, inr (mid, part.0, invited old mid parts part.0 (sent ++ part.1) head part.3)))
body_stopped read_fails write_fails old mid parts sent (stop.Refused reason head_only) head none =
    let refused = none.1 in
    subst (λ u. IsNotRead old (u ++ sent_text true head_only (refused_answer (Head reason)))) (sym none.0) (inr (inl (record {
      parts = parts;
      new = mid;
      head = head;
      why = refused.1.0;
      none = refused.1.2;
      sent_is = ap₂ (λ h r. sent_text true h (refused_answer (Head r))) refused.0 refused.1.1;
    })))
body_stopped read_fails write_fails old mid parts sent (stop.OutOfMemory head_only) head none = inr (inr (inr (record {
  rest = mid;
  size = none.1.0;
  some = none.1.1;
  interim = sent;
  invited = invited old mid parts none.1.0 sent head none.1.2;
  sent_is = ap (λ h. sent ++ sent_text true h (refused_answer OutOfMemory)) none.0;
})))

pub taken : (old mid new : Stream) (parts : RequestParts) (body : List ℕ) → ServesHead old mid parts
    → AnnouncesBody parts.fields (limit_of parts) (length body) → Consumes mid new body → TakesRequest old new parts body
taken old mid new parts body head announced consumed = record {
  rest = mid;
  head = head;
  announced = announced;
  taken = consumed;
}
