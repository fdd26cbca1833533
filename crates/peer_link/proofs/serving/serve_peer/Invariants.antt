use Rattle.peer_link.specs.Answers.{HasAnswered}
use Rattle.peer_link.proofs.serving.serve_peer.Given as goal

abbrev pub invariant-requests : goal.invariant-requests
invariant-requests g l = HasAnswered (g.D.Duplex.held l.fn.duplex) (g.D.Duplex.held l.duplex)
