-- What shows a put may go to other threads and be shared by them, whatever the shelf: of the shelf it has ghosts alone.
use denote.RattleType.{RattleType}
use denote.Param.Send.{IsSend, IsSync, part_keyless, sendable}
use Rattle.std.specs.contracts.snapshot.Snapshot as snapshot
use Rattle.boxcar.specs.contracts.tag.Tag as tag
use Rattle.blob_store.specs.contracts.receipts.ShelfPut.{the_row}
use Rattle.blob_store.specs.contracts.shelves.ShelfName as name
use Rattle.blob_store.specs.declared.shelves.Shelf.{Ghosts}

snapshot_send : (T : RattleType) → IsSend (snapshot.the_row T)
snapshot_send T = search sendable

tag_send : IsSend tag.the_row
tag_send = search sendable

pub put_send : (S : RattleType) (g : Ghosts S.Denot) → IsSend (the_row S g)
put_send S g = search sendable depth 30

pub put_sync : (S : RattleType) (g : Ghosts S.Denot) → IsSync (the_row S g)
put_sync S g = record {
  shared = λ put block offset κ. (
    (
      (λ q. part_keyless (snapshot.the_row S) (snapshot_send S) q put.before block _),
      (
        (λ q. part_keyless (snapshot.the_row S) (snapshot_send S) q put.after block _),
        (
          (λ q. part_keyless (snapshot.the_row name.the_row) (snapshot_send name.the_row) q put.name block _),
          ((λ q. part_keyless tag.the_row tag_send q put.bytes block _), tt),
        ),
      ),
    ),
    (λ q. tt),
  );
}
