use Rattle.shared_desk.proofs.Crossing.{desk_sync}
use Rattle.desk_driver.proofs.desk.desks.play_over.Goals as goal

pub play_and_close-requires-sync-A : goal.play_and_close-requires-sync-A
play_and_close-requires-sync-A g c κs within =
    let b = c.type_bounds in
    let desk = desk_sync _ _ _ _ _ _ g.J.Ledger g.J.ListName g.K.ListName g.D.Disk g.T.Absorb b.send-J b.sync-J b.send-K b.sync-K b.send-D b.send-S b.send-T b.sync-T b.send-R b.sync-R in
    record { shared = desk.shared }
