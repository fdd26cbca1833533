use Rattle.peer_link.proofs.connections.PeerConnection.go_on.Goals as goal

pub returns-in-More : goal.returns-in-More
returns-in-More g c = record { leads = λ first so. c.pass-in-More.ensures.leads first (c.in-More.ensures.leads first so) }
