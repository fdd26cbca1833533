use Rattle.http_wire.proofs.Resumed.{head_goes_on, body_goes_on}
use Rattle.http_wire.proofs.laws.calls_go_on.Goals as goal

pub returns-clause-head : goal.returns-clause-head
returns-clause-head g c = head_goes_on g.D.Duplex.saw

pub returns-clause-body : goal.returns-clause-body
returns-clause-body g c = body_goes_on {A = _} g.D.Duplex.saw
