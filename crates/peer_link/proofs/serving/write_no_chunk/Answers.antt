use Rattle.std.proofs.Common.{List, [], ℕ, OnOk, ap, subst}
use Rattle.std.specs.Io.KnownBytes.{Appends}
use Rattle.std.specs.List.{concat}
use Rattle.peer_link.proofs.AnswerTexts.{text_is}
use Rattle.peer_link.proofs.serving.write_no_chunk.Goals as goal

pub returns-clause-ok : goal.returns-clause-ok
returns-clause-ok g c =
    let d = g.D.Duplex in
    let P : List ℕ → Type 0 = λ t. OnOk c.write_reply.result (Appends (d.held c.args.duplex.now) (d.held c.write_reply.new.duplex) t) in
    subst P (text_is c.head_of.result 404 _ [] c.head_of.ensures (ap concat c.new-body.ensures)) c.write_reply.ensures.ok
