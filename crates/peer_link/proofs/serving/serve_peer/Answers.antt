use Rattle.peer_link.proofs.Answering.{one_answered, read_after}
use Rattle.peer_link.proofs.serving.serve_peer.Goals as goal

pub returns-then-is_last-clause-whole : goal.returns-then-is_last-clause-whole
returns-then-is_last-clause-whole g c =
    let held = g.D.Duplex.held in
    let first = held c.args.duplex.now in
    let read = held c.read_head-read.new.duplex in
    let answered = c.in-Ok.ensures.ok in
    one_answered first read (held c.answer_peer.new.duplex) answered.0 (read_after first (held c.requests.duplex) read c.requests.invariant c.read_head-read.ensures.kept) answered.2

pub requests-preserved : goal.requests-preserved
requests-preserved g c =
    let held = g.D.Duplex.held in
    let first = held c.args.duplex.now in
    let read = held c.read_head-read.new.duplex in
    let answered = c.in-Ok.ensures.ok in
    one_answered first read (held c.answer_peer.new.duplex) answered.0 (read_after first (held c.requests.duplex) read c.requests.invariant c.read_head-read.ensures.kept) answered.2
