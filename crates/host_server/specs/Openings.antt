-- What an opening of a server gives.
use Rattle.std.specs.Prelude.{◌≡◌, ℕ, Some}
use Rattle.blob_store.specs.Calls.{Call}
use Rattle.chunk_lru.specs.Caches.{empty}
use Rattle.change_journal.specs.Held.{Keeps}
use Rattle.found_host.specs.Openings.{HasFiles, HasJournal}
use Rattle.found_host.specs.Remains.{Remains}
use Rattle.found_host.specs.declared.faults.NotOpened.{NotOpened}
use Rattle.found_host.specs.declared.faults.OpenFault.TheVariants.{OutOfMemory}
use Rattle.host_disk.specs.declared.disks.Disk.{Ghosts}
use Rattle.host_server.specs.declared.servers.Server.{Server}

-- A server is opened: its host has the entries of the journal, each accepted in its place over the files that they want. Nothing is in its
-- cache yet.
pub record IsOpened {S D : Type 0} {disk : Ghosts D} (did : S → Call → S → Type 0) (first second : D) (shelf : S) (limit : ℕ) (server : Server S D disk) : Type 0 where
  pub journal : Keeps D
  pub is : server.journal ≡ Some journal
  pub has_journal : HasJournal disk first second journal
  pub entries : server.house.entries ≡ journal.entries
  pub limit_is : server.house.limit ≡ limit
  pub has_files : HasFiles did shelf server.house.entries server.house.uploads server.files.shelf
  pub cache : server.files.cache ≡ empty 67108864

-- ---- what private functions say

-- a server is made of what is found, and nothing is in its cache yet
pub record IsServerOf {S D : Type 0} {disk : Ghosts D} (found : Remains D S) (server : Server S D disk) : Type 0 where
  pub journal : server.journal ≡ Some found.journal
  pub house : server.house ≡ record { limit = found.limit; entries = found.journal.entries; uploads = found.store.known }
  pub files : server.files ≡ record { shelf = found.store.shelf; cache = empty 67108864 }

-- there was no memory for a server, and the disks and the shelf are as they were found
pub record IsGivenBack {S D : Type 0} (found : Remains D S) (stop : NotOpened S D) : Type 0 where
  pub fault : stop.fault ≡ OutOfMemory
  pub first : stop.first ≡ found.journal.first
  pub second : stop.second ≡ found.journal.second
  pub shelf : stop.shelf ≡ found.store.shelf
