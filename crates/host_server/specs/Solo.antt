-- What a run of the program does: one connection, to an empty server or to the one that a store keeps, where its words ask for that. Where
-- its status isn't 0, it says why.
use Rattle.std.specs.Prelude.{◌≡◌, ◌≢◌, ◌⊎◌, ℕ, List, [], Some, None, Result, Ok, Err, MatchResult, codes, if◌then◌else◌, is_ok}
use Rattle.std.specs.FinMap as map
use Rattle.std.specs.Io.KnownBytes.{Appends}
use Rattle.command_line.specs.CommandLine.{AskForNothing, AskForServe, AskForSolo}
use Rattle.command_line.specs.declared.serve_options.ServeOptions.{ServeOptions}
use Rattle.http_wire.specs.Sending.{AppendsFront}
use Rattle.http_wire.specs.Timing.{Ran}
use Rattle.http_wire.specs.declared.duplexes.Duplex as duplexes
use Rattle.blob_store.specs.Calls.{Call}
use Rattle.change_log.specs.Logs.{empty_log}
use Rattle.blob_store.specs.Shelves.{Does, found_in}
use Rattle.blob_store.specs.declared.mem_shelf.MemShelf.{MemShelf}
use Rattle.blob_store.specs.declared.shelves.Shelf as shelves
use Rattle.blob_store.specs.declared.shelves.ShelfName.{ShelfName}
use Rattle.chunk_lru.specs.Caches.{empty}
use Rattle.found_host.specs.Openings.{IsOpenFault}
use Rattle.found_host.specs.declared.faults.OpenFault.{OpenFault}
use Rattle.found_host.specs.declared.faults.OpenFault.TheVariants as open_fault
use Rattle.host_disk.specs.declared.disks.Disk.{Ghosts}
use Rattle.host_disk.specs.declared.mem_disk.MemDisk.{MemDisk}
use Rattle.host_server.specs.Asks.{IsAnswer}
use Rattle.host_server.specs.OpeningLines.{opening_line, shown_of}
use Rattle.host_server.specs.Openings.{IsOpened}
use Rattle.host_connection.specs.Serving.{Answering, Stream, Serves}
use Rattle.host_connection.specs.Timing.{Connects, IsCaughtUp}
use Rattle.host_connection.specs.declared.connections.ConnectionFault.{ConnectionFault}
use Rattle.host_connection.specs.declared.connections.ConnectionFault.TheVariants as fault
use Rattle.host_server.specs.declared.servers.Server.{Server}

-- ---- what is said

-- the text is said: the whole of it, or a front where a write failed
abbrev pub IsSaid : (says_fail : Type 0) → List ℕ → (said new_said : Stream) → Type 0
IsSaid says_fail text said new_said = Appends said new_said text ⊎ (says_fail × AppendsFront text said new_said)

-- the line that says that memory ran out
abbrev pub memory_line : List ℕ
memory_line = codes "filehost: out of memory\n"

-- the line that says why a connection ended
abbrev pub fault_line : ConnectionFault → List ℕ
fault_line fault.InputFault = codes "filehost: input fault\n"
fault_line fault.OutputFault = codes "filehost: output fault\n"
fault_line fault.OutOfMemory = memory_line

-- it is said why a store can't be opened, also by the status
abbrev pub SaysFault : (says_fail : Type 0) → OpenFault → ℕ → (said new_said : Stream) → Type 0
SaysFault says_fail why status said new_said = (status ≡ (shown_of why).1) × IsSaid says_fail (opening_line why) said new_said

-- ---- what isn't served

-- the words ask for nothing that the program does, and some text is said
abbrev pub IsRefused : (says_fail : Type 0) → List (List ℕ) → ℕ → (said new_said : Stream) → Type 0
IsRefused says_fail words status said new_said =
    AskForNothing words × (status ≡ 1) × ((text : List ℕ) × (text ≢ []) × IsSaid says_fail text said new_said)

-- memory ran out, and that is said
abbrev pub IsOutOfMemory : (says_fail : Type 0) → ℕ → (said new_said : Stream) → Type 0
IsOutOfMemory says_fail status said new_said = (status ≡ 2) × IsSaid says_fail memory_line said new_said

-- ---- what is served

-- A connection to this server is served, each reply in time, and the status says whether it ended well. Where it didn't, it is said why it
-- ended; else nothing is said.
pub record IsServed {H X : Type 0} (answers : Answering H) (duplex : duplexes.Ghosts X) (says_fail : Type 0) (start : H) (status : ℕ) (old new : X) (said new_said : Stream)
    : Type 0 where
  pub ended : Result (Unit {0}) ConnectionFault
  pub says : status ≡ (if is_ok ended then 0 else 2)
  pub next : H
  pub serves : Serves answers duplex.read_fails duplex.write_fails ended start next (duplex.left old) (duplex.held old) (duplex.held new)
  pub timely : Ran duplex.saw (IsCaughtUp answers start) old new (Connects answers ended start next)
  pub end_said : MatchResult ended (λ done. new_said ≡ said) (λ why. IsSaid says_fail (fault_line why) said new_said)

-- a server without entries, files and a journal, which may have as many entries as any, whose shelf is in memory, and whose cache has
-- nothing yet
pub record IsEmpty {disk : Ghosts MemDisk} (server : Server MemShelf MemDisk disk) : Type 0 where
  pub host : server.house ≡ record { limit = 1000000; entries = empty_log; uploads = map.empty }
  pub journal : server.journal ≡ None
  pub shelf : (name : ShelfName) → found_in server.files.shelf name ≡ None
  pub cache : server.files.cache ≡ empty 67108864

-- a connection to such a server is served; or there was no memory for it, and nothing is read or answered
abbrev pub IsEmptyServed : {X : Type 0} → (disk : Ghosts MemDisk) → (duplex : duplexes.Ghosts X) → (says_fail : Type 0) → ℕ → (old new : X) → (said new_said : Stream) → Type 0
IsEmptyServed disk duplex says_fail status old new said new_said =
    ((start : Server MemShelf MemDisk disk) × IsEmpty start × IsServed (IsAnswer Does (λ shelf. 0)) duplex says_fail start status old new said new_said)
    ⊎ (IsOutOfMemory says_fail status said new_said × (new ≡ old))

-- A run over the store of two slots and a shelf: a server is opened of them, and a connection to it is served; or none can be, and that
-- is said, and nothing is read or answered.
abbrev pub RunsStore : {S D X : Type 0} → (disk : Ghosts D) → (did : S → Call → S → Type 0) → (failures : S → ℕ) → (duplex : duplexes.Ghosts X) → (says_fail : Type 0)
    → (first second : D) → (shelf : S) → ℕ → (old new : X) → (said new_said : Stream) → Type 0
RunsStore {S = S} {D = D} disk did failures duplex says_fail first second shelf status old new said new_said =
    ((start : Server S D disk) × IsOpened did first second shelf 1000000 start
    × IsServed (IsAnswer did failures) duplex says_fail start status old new said new_said)
    ⊎ ((why : OpenFault) × (last_first last_second : D) × (last_shelf : S)
    × IsOpenFault disk did first second shelf 1000000 why last_first last_second last_shelf
    × SaysFault says_fail why status said new_said × (new ≡ old))

-- A run over the store in a folder, which has a name: over the slots and the shelf there; or there are none, since the journal's files can't be
-- opened, or memory ran out, and that is said.
abbrev pub RunsFolder : {S D X : Type 0} → (disk : Ghosts D) → (shelf : shelves.Ghosts S) → (duplex : duplexes.Ghosts X) → (says_fail : Type 0)
    → (folder : List ℕ) → ℕ → (old new : X) → (said new_said : Stream) → Type 0
RunsFolder {S = S} {D = D} disk shelf duplex says_fail folder status old new said new_said =
    ((folder ≢ []) × ((first second : D) × (there : S) × RunsStore disk shelf.did shelf.failures duplex says_fail first second there status old new said new_said))
    ⊎ ((why : OpenFault) × ((why ≡ open_fault.JournalDevice) ⊎ (why ≡ open_fault.OutOfMemory)) × SaysFault says_fail why status said new_said
    × (new ≡ old))

-- ---- the whole

-- A run: no connection is served, and nothing is read or answered; or the words ask for one, to an empty server or over the store in a
-- folder. So the status is 1 exactly where the words ask for nothing that the program does, unless memory ran out while they were read; this
-- and a fault of the connection are 2, and a store that can't be opened has a status of its own.
abbrev pub Runs : {S D X : Type 0} → Ghosts MemDisk → (disk : Ghosts D) → (shelf : shelves.Ghosts S) → (duplex : duplexes.Ghosts X) → (says_fail : Type 0)
    → List (List ℕ) → ℕ → (old new : X) → (said new_said : Stream) → Type 0
Runs in_memory disk shelf duplex says_fail words status old new said new_said =
    ((IsRefused says_fail words status said new_said ⊎ IsOutOfMemory says_fail status said new_said) × (new ≡ old))
    ⊎ (AskForSolo words None × IsEmptyServed in_memory duplex says_fail status old new said new_said)
    ⊎ ((folder : List ℕ) × AskForSolo words (Some folder) × RunsFolder disk shelf duplex says_fail folder status old new said new_said)

-- A run, unless the words ask for `serve`: then these options are handed back, and nothing is read, answered or said.
abbrev pub RunsSolo : {S D X : Type 0} → Ghosts MemDisk → (disk : Ghosts D) → (shelf : shelves.Ghosts S) → (duplex : duplexes.Ghosts X) → (says_fail : Type 0)
    → List (List ℕ) → Result ℕ ServeOptions → (old new : X) → (said new_said : Stream) → Type 0
RunsSolo in_memory disk shelf duplex says_fail words (Ok status) old new said new_said = Runs in_memory disk shelf duplex says_fail words status old new said new_said
RunsSolo in_memory disk shelf duplex says_fail words (Err options) old new said new_said = AskForServe words options × (new ≡ old) × (new_said ≡ said)
