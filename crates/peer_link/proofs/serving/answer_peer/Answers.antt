use Rattle.std.proofs.Common.{◌≡◌, List, ℕ, Some, rules, subst}
use Rattle.std.specs.Io.KnownBytes.{Appends}
use Rattle.peer_link.specs.Answers.{answer_text}
use Rattle.peer_link.proofs.AnswerTexts.{on_ok}
use Rattle.peer_link.proofs.serving.answer_peer.Goals as goal

pub returns-in-Some-clause-ok : goal.returns-in-Some-clause-ok
returns-in-Some-clause-ok g c =
    let d = g.D.Duplex in
    let chunk : List ℕ = c.in-Some.chunk.value in
    let bytes : c.bytes.result.now ≡ chunk = search rules in
    on_ok c.write_chunk.result (λ wrote. (Some chunk, c.in-Some.ensures, subst (λ (b : List ℕ). Appends (d.held c.args.duplex.now) (d.held c.write_chunk.new.duplex) (answer_text (Some b))) bytes wrote))
    c.write_chunk.ensures.ok
