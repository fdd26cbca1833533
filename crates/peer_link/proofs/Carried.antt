-- What the connection of a peer has done, step by step.
use Rattle.std.proofs.Common.{◌≡◌, ℕ, List, [], ◌++◌, Option, Result, Ok, Err, length, take, subst, arith}
use Rattle.std.specs.Io.KnownBytes.{Appends, Consumes, Keeps}
use Rattle.std.proofs.KnownBytes.{Appends-nil, Appends-trans}
use Rattle.std.proofs.lemmas.List.{take_all}
use Rattle.http_wire.specs.declared.halts.Halt.{Halt}
use Rattle.http_wire.specs.declared.halts.Halt.TheVariants.{Failed, WouldWait}
use Rattle.http_wire.specs.declared.sinks.WriteFailed.{WriteFailed}
use Rattle.http_wire.specs.Gathering.{Gathered, GoesOnFrom, SendsOn, nothing}
use Rattle.http_wire.specs.Requests.{RequestParts}
use Rattle.http_wire.specs.Timing.{Event, WriteFails, all_put, IsLatest, Moves}
use Rattle.http_wire.specs.Wires.{ServesHead}
use Rattle.http_wire.proofs.Amid.{amid_first}
use Rattle.http_wire.proofs.Trails.{all_told, nothing_got}
use Rattle.peer_link.specs.Answers.{Answers, HasServed, Known, answer_text, known}
use Rattle.peer_link.specs.Carrying.{HasBegun, IsAmidAnswer, IsAnswerCut}
use Rattle.peer_link.proofs.Served.{one_served, serves_before, unread}

-- nothing of an answer was written where it begins
pub begins : (first now : Known) (left : Option (List ℕ)) (answer : Option (List ℕ)) (parts : RequestParts) (out : Gathered) → HasServed first (record { left = left; held = now.held })
    → ServesHead left now.left parts → Answers parts answer → out ≡ nothing → IsAmidAnswer first now answer out
begins first now left answer parts out served request to none = record {
  at = 0;
  begun = record { mid = record { left = left; held = now.held }; served = served; parts = parts; request = request; answers = to; front = Appends-nil now.held };
  amid = amid_first (answer_text answer) out none;
}

-- more of it was written
further : (first now new : Known) (answer : Option (List ℕ)) (put : List ℕ) (at new_at : ℕ) → HasBegun first now answer at → Keeps now.left new.left
    → Appends now.held new.held put → take at (answer_text answer) ++ put ≡ take new_at (answer_text answer) → HasBegun first new answer new_at
further first now new answer put at new_at begun keeps more is = record {
  mid = begun.mid;
  served = begun.served;
  parts = begun.parts;
  request = serves_before begun.mid.left now.left new.left begun.parts begun.request keeps;
  answers = begun.answers;
  front = subst (Appends begun.mid.held new.held) is (Appends-trans begun.mid.held now.held new.held (take at (answer_text answer)) put begun.front more);
}

-- all of it was
whole : (first now : Known) (answer : Option (List ℕ)) (at : ℕ) → HasBegun first now answer at → at ≡ length (answer_text answer) → HasServed first now
whole first now answer at begun all =
    let text = answer_text answer in
    let is : take at text ≡ text = take_all at text (omega (arith, all)) in
    one_served first begun.mid now answer begun.parts begun.served begun.request begun.answers (subst (Appends begun.mid.held now.held) is begun.front)

-- what a call came to that goes on with an answer
abbrev pub CameTo : (write_fails : Type 0) → Result (Unit {0}) (Halt WriteFailed) → (first now : Known) → (answer : Option (List ℕ)) → Gathered → Type 0
CameTo write_fails (Ok done) first now answer out = HasServed first now
CameTo write_fails (Err (Failed why)) first now answer out = write_fails × IsAnswerCut first now
CameTo write_fails (Err WouldWait) first now answer out = IsAmidAnswer first now answer out

came_to : (write_fails : Type 0) (result : Result (Unit {0}) (Halt WriteFailed)) (first now new : Known) (answer : Option (List ℕ)) (at : ℕ) (out : Gathered) (events : List Event)
    → HasBegun first now answer at → Keeps now.left new.left → Appends now.held new.held (all_put events) → (IsLatest WriteFails events → write_fails)
    → GoesOnFrom result (answer_text answer) at out events → CameTo write_fails result first new answer out
came_to write_fails (Ok done) first now new answer at out events begun keeps put fails from =
    whole first new answer from.0 (further first now new answer (all_put events) at from.0 begun keeps put from.1.put) from.1.ends.1
came_to write_fails (Err (Failed why)) first now new answer at out events begun keeps put fails from = (
  fails from.1.ends.0,
  record {
    answer = answer;
    at = from.0;
    begun = further first now new answer (all_put events) at from.0 begun keeps put from.1.put;
    cut = from.1.ends.1;
  },
)
came_to write_fails (Err WouldWait) first now new answer at out events begun keeps put fails from = record {
  at = from.0;
  begun = further first now new answer (all_put events) at from.0 begun keeps put from.1.put;
  amid = from.2;
}

pub sent_on : {S : Type 0} (saw : S → Event → S → Type 0) (left held : S → Option (List ℕ)) (read_fails write_fails : Type 0)
    → (told : (a b : S) (event : Event) → saw a event b → Moves read_fails write_fails event (left a) (held a) (left b) (held b))
    → (buffer : List ℕ) (old new : S) (result : Result (Unit {0}) (Halt WriteFailed)) (first : Known) (answer : Option (List ℕ)) (out new_out : Gathered)
    → IsAmidAnswer first (known buffer (left old) (held old)) answer out → SendsOn saw old new result (answer_text answer) out new_out
    → CameTo write_fails result first (known buffer (left new) (held new)) answer new_out
sent_on saw left held read_fails write_fails told buffer old new result first answer out new_out amid on =
    let ran = on amid.at amid.amid in
    let did = all_told saw left held read_fails write_fails told old new ran.events ran.steps in
    let keeps = unread buffer (left old) (left new) (subst (Consumes (left old) (left new)) (nothing_got ran.events ran.timely) did.gives.taken) in
    came_to write_fails result first (known buffer (left old) (held old)) (known buffer (left new) (held new)) answer amid.at new_out ran.events amid.begun keeps did.taken did.write
    ran.claimed

-- the same where a write failed
pub failed_on : {S : Type 0} (saw : S → Event → S → Type 0) (left held : S → Option (List ℕ)) (read_fails write_fails : Type 0)
    → (told : (a b : S) (event : Event) → saw a event b → Moves read_fails write_fails event (left a) (held a) (left b) (held b))
    → (buffer : List ℕ) (old new : S) (why : WriteFailed) (first : Known) (answer : Option (List ℕ)) (out new_out : Gathered)
    → IsAmidAnswer first (known buffer (left old) (held old)) answer out → SendsOn saw old new (Err (Failed why)) (answer_text answer) out new_out
    → write_fails × IsAnswerCut first (known buffer (left new) (held new))
failed_on saw left held read_fails write_fails told buffer old new why first answer out new_out amid on =
    sent_on saw left held read_fails write_fails told buffer old new (Err (Failed why)) first answer out new_out amid on
