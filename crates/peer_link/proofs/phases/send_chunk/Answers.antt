use Rattle.std.proofs.Common.{◌∙◌, List, ℕ, ap, append-nil, subst}
use Rattle.std.specs.List.{concat}
use Rattle.http_wire.specs.Gathering.{SendsOn}
use Rattle.peer_link.proofs.AnswerTexts.{text_is}
use Rattle.peer_link.proofs.phases.send_chunk.Goals as goal

pub returns-clause-ran : goal.returns-clause-ran
returns-clause-ran g c =
    let d = g.D.Duplex in
    let P : List ℕ → Type 0 = λ t. SendsOn d.saw c.args.duplex.now c.try_write_reply.new.duplex c.try_write_reply.result t c.args.out.now c.try_write_reply.new.out in
    subst P (text_is c.head_of.result 200 _ c.args.bytes.now c.head_of.ensures (ap concat c.new-body.ensures ∙ append-nil c.args.bytes.now)) c.try_write_reply.ensures.ran
