-- What becomes of a server's journal.
use Rattle.site_change.specs.declared.entries.Entry.{Entry}
use Rattle.host_disk.specs.declared.disks.Disk.{Ghosts}
use Rattle.host_server.specs.Journals.{BreaksOff, KeepsUp}
use Rattle.host_server.specs.declared.servers.Server.{Server}

-- the entries that the host got were put into the journal
abbrev pub GoesOn : {S D : Type 0} {disk : Ghosts D} → Server S D disk → Server S D disk → Type 0
GoesOn {disk = disk} server next = KeepsUp disk server.house server.journal next.house next.journal

-- they were, and then the device failed while this one was put, which the host didn't get
abbrev pub Breaks : {S D : Type 0} {disk : Ghosts D} → Server S D disk → Entry → Server S D disk → Type 0
Breaks {disk = disk} server missed next = BreaksOff disk server.house server.journal missed next.house next.journal
