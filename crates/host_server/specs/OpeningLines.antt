-- What a run says where its store can't be opened, and the status that it ends with.
use Rattle.std.specs.Prelude.{ℕ, List, [], ◌++◌, codes, decimal}
use Rattle.hex.specs.Hex.{encode_lower}
use Rattle.found_host.specs.declared.faults.OpenFault.{OpenFault}
use Rattle.found_host.specs.declared.faults.OpenFault.TheVariants as fault

-- A run says this text of a fault, and ends with this status. The text names the fault, and the record, the entry or the file that has it.
abbrev pub shown_of : OpenFault → List ℕ × ℕ
shown_of fault.BadHeader = (codes "journal: BadHeader", 3)
shown_of (fault.BadRecord n) = (codes "journal: BadRecord " ++ decimal n, 3)
shown_of (fault.NotLegal n) = (codes "journal: NotLegal " ++ decimal n, 3)
shown_of fault.JournalDevice = (codes "journal: Device", 3)
shown_of (fault.MissingBlob digest) = (codes "blobs: MissingBlob " ++ encode_lower digest.0, 4)
shown_of (fault.DamagedBlob digest) = (codes "blobs: DamagedBlob " ++ encode_lower digest.0, 4)
shown_of fault.BlobsDevice = (codes "blobs: Device", 4)
shown_of fault.OutOfMemory = (codes "out of memory", 2)

-- the line that says it
abbrev pub opening_line : OpenFault → List ℕ
opening_line why = codes "filehost: " ++ (shown_of why).0 ++ codes "\n"

-- ---- what private functions say

-- which record, entry or file is at fault
abbrev pub detail_of : OpenFault → List ℕ
detail_of (fault.BadRecord n) = decimal n
detail_of (fault.NotLegal n) = decimal n
detail_of (fault.MissingBlob digest) = encode_lower digest.0
detail_of (fault.DamagedBlob digest) = encode_lower digest.0
detail_of why = []
