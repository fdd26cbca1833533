-- What is answered to the reading of a file.
use Rattle.std.specs.Prelude.{◌≡◌, ◌≢◌, ◌⊎◌, ℕ, List, Bool, true, false, Some, Result, Ok, Err, length}
use Rattle.std.specs.FinMap as map
use Rattle.host_names.specs.Digests.{digest_of}
use Rattle.blob_store.specs.Calls.{Call}
use Rattle.chunk_reads.specs.declared.faults.ReadFault.{ReadFault}
use Rattle.range_spec.specs.declared.grammar.Asked.{Asked}
use Rattle.range_spec.specs.declared.selection.Choice.{Choice}
use Rattle.range_spec.specs.declared.selection.Choice.TheVariants.{None416}
use Rattle.range_reply.specs.Sending.{IsNotRead, IsRead}
use Rattle.range_reply.specs.Sending.{SentFile}
use Rattle.chunk_reads.specs.Reading.{IsNotHeld}
use Rattle.chunk_group.specs.Cached.{CachedShelf, GaveOfNode, ReadsChunk}
use Rattle.http_wire.specs.Requests.{RequestParts}
use Rattle.host_api.specs.Types.{type_of}
use Rattle.host_api.specs.declared.refusals.Refusal.{Refusal}
use Rattle.host_api.specs.declared.refusals.Refusal.TheVariants as reason
use Rattle.host_disk.specs.declared.disks.Disk.{Ghosts}
use Rattle.host_replies.specs.FileAsks.{AsksRange, plan_of, refusal_of_read}
use Rattle.host_replies.specs.Replies.{Answer, is_head, refused_answer, unread_answer}
use Rattle.host_replies.specs.SentFiles.{sent_answer}
use Rattle.host_server.specs.declared.servers.Server.{Server}

-- ---- the reply

-- Such a plan of a file at a path is carried out, and the files are then these: none of the range is there, and that is told; or what was read
-- is sent; or it can't be read, and the reason is told: what the shelf answered, or that there was no memory.
abbrev pub IsFileSent : {S : Type 0} → (did : S → Call → S → Type 0) → (failures : S → ℕ) → CachedShelf S → List ℕ → List ℕ → Choice → Answer → CachedShelf S
    → Type 0
IsFileSent did failures old path file plan answer new =
    ((plan ≡ None416) × (answer ≡ refused_answer (reason.NotSatisfiable (length file))) × (new ≡ old))
    ⊎ ((body : SentFile) × IsRead (GaveOfNode did failures) old file plan (type_of path) body new × (answer ≡ sent_answer path file body))
    ⊎ ((why : ReadFault) × (plan ≢ None416) × IsNotRead (GaveOfNode did failures) (IsNotHeld (ReadsChunk did failures)) old file plan why new
    × (answer ≡ refused_answer (refusal_of_read why)))

-- the same for a request of such a method: to HEAD, which is sent no byte of it, nothing is read; there may be no memory for its reply
abbrev pub IsFileTold : {S : Type 0} → (did : S → Call → S → Type 0) → (failures : S → ℕ) → (head_only : Bool) → CachedShelf S → List ℕ → List ℕ → Choice → Answer → CachedShelf S
    → Type 0
IsFileTold did failures true old path file plan answer new =
    ((answer ≡ unread_answer (type_of path) file) ⊎ (answer ≡ refused_answer reason.OutOfMemory)) × (new ≡ old)
IsFileTold did failures false old path file plan answer new = IsFileSent did failures old path file plan answer new

-- the reply to the reading of this file at the path, which was uploaded, or of none for this reason
abbrev pub IsReadReply : {S D : Type 0} {disk : Ghosts D} → (did : S → Call → S → Type 0) → (failures : S → ℕ) → Server S D disk → RequestParts → List ℕ → Result (List ℕ) Refusal → Answer → Server S D disk
    → Type 0
IsReadReply did failures server parts path (Err refusal) answer next = (answer ≡ refused_answer refusal) × (next ≡ server)
IsReadReply did failures server parts path (Ok file) answer next =
    (map.get server.house.uploads (digest_of file) ≡ Some file) × (range : Asked) × AsksRange parts range
    × IsFileTold did failures (is_head parts) server.files path file (plan_of parts range file) answer next.files × (next.house ≡ server.house)
