use Rattle.std.proofs.Common.{◌∙◌, List, ℕ, Err, Global, IfSome, Ok, subst, sym}
use Rattle.std.specs.Io.KnownBytes.{Appends}
use Rattle.http_wire.specs.Answers.{IsAnswer, get_text}
use Rattle.http_wire.proofs.Trails.{all_told}
use Rattle.peer_link.specs.Paths as spec
use Rattle.peer_link.specs.declared.asks.AskFault.{AskFault}
use Rattle.peer_link.specs.Asking.{GivesNone, told_by}
use Rattle.peer_link.proofs.Asking.{gives_none, held_after, if_some, left_after}
use Rattle.peer_link.proofs.asks.ask.Goals as goal

pub returns-in-Ok-read_answer-clause-asked : goal.returns-in-Ok-read_answer-clause-asked
returns-in-Ok-read_answer-clause-asked g c =
    let d = g.D.Duplex in
    let ran = c.read_answer.ensures.ran in
    let told = all_told d.saw d.left d.held d.read_fails d.write_fails g.met.D.Duplex.told c.write_get.new.duplex c.read_answer.new.duplex ran.events ran.steps in
    let text = get_text (spec.chunk_path c.args.key.now) in
    let path = c.as_str.ensures.value ∙ c.chunk_path.ensures in
    let wrote = subst (λ (p : List ℕ). Appends (d.held c.args.duplex.now) (d.held c.write_get.new.duplex) (get_text p)) path c.in-Ok-write_get.ensures.ok in
    held_after (d.held c.args.duplex.now) (d.held c.write_get.new.duplex) (d.held c.read_answer.new.duplex) text ran.events wrote told.taken ran.claimed.nothing_put

pub returns-in-Ok-read_answer-clause-answered : goal.returns-in-Ok-read_answer-clause-answered
returns-in-Ok-read_answer-clause-answered g c =
    let d = g.D.Duplex in
    let ran = c.write_get.ensures.ran in
    let told = all_told d.saw d.left d.held d.read_fails d.write_fails g.met.D.Duplex.told c.args.duplex.now c.write_get.new.duplex ran.events ran.steps in
    left_after (d.left c.args.duplex.now) (d.left c.write_get.new.duplex) (IsAnswer d.read_fails (Ok c.in-Ok-read_answer.bytes) 65536) ran.events told.gives.taken ran.timely c.in-Ok-read_answer.ensures.answer

pub returns-clause-fault : goal.returns-clause-fault
returns-clause-fault g c =
    let d = g.D.Duplex in
    let ran = c.write_get.ensures.ran in
    let told = all_told d.saw d.left d.held d.read_fails d.write_fails g.met.D.Duplex.told c.args.duplex.now c.write_get.new.duplex ran.events ran.steps in
    let P : List ℕ → Type 0 = IsAnswer {A = Global} d.read_fails (Err c.in-Err.fault) 65536 in
    let is = left_after (d.left c.args.duplex.now) (d.left c.write_get.new.duplex) P ran.events told.gives.taken ran.timely c.in-Err.ensures.answer in
    let Q : AskFault → Type 0 = λ fault. IfSome (d.left c.args.duplex.now) (GivesNone d.read_fails d.write_fails fault 65536) in
    subst Q (sym c.without_body.ensures)
    (if_some (d.left c.args.duplex.now) P (GivesNone d.read_fails d.write_fails (told_by c.in-Err.fault) 65536) (gives_none Global d.read_fails d.write_fails c.in-Err.fault 65536) is)
