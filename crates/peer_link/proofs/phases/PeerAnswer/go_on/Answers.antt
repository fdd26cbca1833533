use Rattle.std.proofs.Common.{◌≡◌, ◌∙◌, List, ℕ, Some, ap, rules, subst, sym}
use Rattle.http_wire.specs.Gathering.{SendsOn}
use Rattle.peer_link.specs.Answers.{answer_text}
use Rattle.peer_link.specs.Carrying.{chunk_of, text_of}
use Rattle.peer_link.proofs.phases.PeerAnswer.go_on.Goals as goal

pub returns-in-Some-clause-ran : goal.returns-in-Some-clause-ran
returns-in-Some-clause-ran g c =
    let d = g.D.Duplex in
    let chunk : List ℕ = c.in-Some.chunk.value in
    let bytes : c.bytes.result.now ≡ chunk = search rules in
    let is : chunk_of c.args.self.now ≡ Some chunk = rw c.in-Some.is in
    let text : answer_text (Some c.bytes.result.now) ≡ text_of c.args.self.now = ap (λ (b : List ℕ). answer_text (Some b)) bytes ∙ sym (ap answer_text is) in
    let P : List ℕ → Type 0 = λ t. SendsOn d.saw c.args.duplex.now c.send_chunk.new.duplex c.send_chunk.result t c.args.out.now c.send_chunk.new.out in
    subst P text c.send_chunk.ensures.ran
