-- What may go from thread to thread.
use denote.RattleType.{RattleType}
use denote.Param.Send.{Frees, IsSend, IsSync, sendable}
use Rattle.std.specs.declared.sync.ledger.Ledger as ledger
use Rattle.std.proofs.sync.Mutex.TheSendSync as mutex
use Rattle.blob_store.specs.contracts.shelf_files.Files as files
use Rattle.change_log.specs.declared.logs.Log.{Log}
use Rattle.host_disk.specs.declared.disks.Disk as disks
use Rattle.left_right.specs.declared.Absorb as absorb
use Rattle.seen_lists.specs.declared.names.ListName as names
use Rattle.seen_lists.specs.declared.receipts.Receipt.{Receipt}
use Rattle.shared_desk.specs.contracts.desks.Desk as desks
use Rattle.shared_desk.specs.contracts.hints.Hints as hints
use Rattle.site_desk.specs.contracts.books.Book as books
use Rattle.site_desk.specs.contracts.stocks.Stock as stocks
use Rattle.site_desk.specs.declared.snaps.HostSnap.{HostSnap}
use Rattle.site_desk.specs.declared.stocks.KnownFiles.{KnownFiles}
use Rattle.site_desk.specs.contracts.snaps.HostSnap as snaps
use Rattle.site_desk.specs.contracts.stocks.Tie as ties
use Rattle.std.proofs.sync.Arc.TheSendSync as arc
use Rattle.std.proofs.boxed.Box.TheSendSync as box
use Rattle.site_desk.specs.contracts.published.Published as publisheds
use Rattle.std.specs.contracts.alloc.Global as globals
use Rattle.std.specs.contracts.impls.GlobalAllocator.TheImpl.{ghosts}
use Rattle.libc.specs.Heap.{chunk-Keyless}
use Rattle.change_journal.specs.contracts.journals.Journal as journals
use Rattle.site_desk.proofs.snaps.HostSnap.TheSendSync as snap
use Rattle.site_desk.proofs.stocks.Stock.TheSendSync as stock
use Rattle.site_desk.proofs.stocks.Tie.TheSendSync as tie
use Rattle.site_desk.proofs.published.Published.TheSendSync as shows

pub files_send : (S : RattleType) → IsSend S → IsSend (files.the_row S)
files_send S send = search sendable depth 30

pub stock_send : (K : RattleType) (u : names.Ghosts K.Denot KnownFiles) → IsSend K → IsSync K → IsSend (stocks.the_row K u)
stock_send K u ks ky = search (sendable, stock.the_send) depth 12

pub tie_send : (K : RattleType) (u : names.Ghosts K.Denot KnownFiles) → IsSend K → IsSync K → IsSend (ties.the_row K u)
tie_send K u ks ky = search (sendable, tie.the_send) depth 12

pub journal_send : (D : RattleType) (d : disks.Ghosts D.Denot) → IsSend D → IsSend (journals.the_row D d)
journal_send D d ds = search sendable depth 30

-- memory may be given back by any thread
frees_anywhere : Frees ghosts ghosts.dealloc_token
frees_anywhere = record { frees = λ a τ p. chunk-Keyless τ p }

pub book_send : (N K D T R : RattleType) (l : ledger.Ghosts N.Denot) (n : names.Ghosts N.Denot Log) (u : names.Ghosts K.Denot KnownFiles) (d : disks.Ghosts D.Denot)
    (a : absorb.Ghosts T.Denot (Receipt Log N.Denot HostSnap) Log)
    → IsSend N → IsSync N → IsSend K → IsSync K → IsSend D → IsSend T → IsSync T → IsSend R → IsSync R → IsSend (books.the_row N K D T R l n u d a)
book_send N K D T R l n u d a js jy ks ky ds ts ty rs ry =
    let memory : IsSend globals.the_row = search sendable in
    let memory_too : IsSync globals.the_row = search sendable depth 30 in
    let latest = arc.the_send snaps.the_row globals.the_row ghosts snap.the_send memory snap.the_sync memory_too frees_anywhere in
    let journal = journal_send D d ds in
    let published = shows.the_send N T R l n a ts rs ty in
    let boxed = box.the_send (publisheds.the_row N T R l n a) globals.the_row ghosts published memory frees_anywhere in
    let ties = tie_send K u ks ky in
    search sendable depth 30

hints_send : IsSend hints.the_row
hints_send = search sendable depth 30

-- threads may share a desk
pub desk_sync : (N K D S T R : RattleType) (l : ledger.Ghosts N.Denot) (n : names.Ghosts N.Denot Log) (u : names.Ghosts K.Denot KnownFiles) (d : disks.Ghosts D.Denot)
    (a : absorb.Ghosts T.Denot (Receipt Log N.Denot HostSnap) Log)
    → IsSend N → IsSync N → IsSend K → IsSync K → IsSend D → IsSend S → IsSend T → IsSync T → IsSend R → IsSync R → IsSync (desks.the_row N K D S T R l n u d a)
desk_sync N K D S T R l n u d a js jy ks ky ds ss ts ty rs ry =
    let books_too = mutex.the_sync (books.the_row N K D T R l n u d a) (book_send N K D T R l n u d a js jy ks ky ds ts ty rs ry) in
    let stocks_too = mutex.the_sync (stocks.the_row K u) (stock_send K u ks ky) in
    let files_too = mutex.the_sync (files.the_row S) (files_send S ss) in
    let hints_too = mutex.the_sync hints.the_row hints_send in
    search sendable depth 30
