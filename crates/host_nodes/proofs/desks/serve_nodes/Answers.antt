use Rattle.shared_desk.proofs.Crossing.{desk_sync}
use Rattle.host_nodes.proofs.desks.serve_nodes.Goals as goal

pub share_out-done-requires-sync-A : goal.share_out-done-requires-sync-A
share_out-done-requires-sync-A g c κs within =
    let b = c.type_bounds in
    let desk = desk_sync _ _ _ _ _ _ g.J.Ledger g.J.ListName g.K.ListName g.D.Disk g.T.Absorb b.send-J b.sync-J b.send-K b.sync-K b.send-D b.send-S b.send-T b.sync-T b.send-R b.sync-R in
    record { shared = desk.shared }
