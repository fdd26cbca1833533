use Rattle.std.proofs.Common.{sym}
use Rattle.host_connection.proofs.Turns.{is_sent}
use Rattle.host_connection.proofs.steps.Connection.answer.Goals as goal

pub returns-clause-answering : goal.returns-clause-answering
returns-clause-answering g c = λ answered. (
    let request = c.args.request.now in (
      is_sent g.S.Service.answers c.closes-close.result c.is_head_only-head_only.result c.args.service.now c.answer.new.self request.head request.body.items _ c.is_head_only-head_only.ensures
          c.in-Some.ensures.replied,
      sym c.closes-close.ensures,
    )
    )
