-- Files that were uploaded are read back.
use Rattle.std.specs.Prelude.{◌≡◌, ◌⊎◌, ℕ, List, Option, Some, Ok, IsTrue, length}
use Rattle.std.specs.List.{Contains}
use Rattle.std.specs.FinMap as map
use Rattle.host_names.specs.Digests.{digest_of}
use Rattle.byte_view.specs.Contents.{Contents}
use Rattle.host_names.specs.declared.digests.Digest.{Digest}
use Rattle.host_names.specs.declared.names.SiteName.{SiteName}
use Rattle.blob_store.specs.Calls.{things_of}
use Rattle.blob_store.specs.Keeping.{Agree, HasFile}
use Rattle.blob_store.specs.declared.shelves.ShelfName.{ShelfName}
use Rattle.blob_store.specs.declared.shelves.ShelfName.TheVariants.{Part}
use Rattle.range_spec.specs.declared.grammar.Asked.{Asked}
use Rattle.range_spec.specs.declared.selection.Choice.{Choice}
use Rattle.range_spec.specs.declared.selection.Choice.TheVariants.{None416}
use Rattle.range_reply.specs.Sending.{IsExact}
use Rattle.range_reply.specs.Sending.{SentFile}
use Rattle.chunk_group.specs.Cached.{AllCached}
use Rattle.http_wire.specs.Requests.{RequestParts}
use Rattle.host_api.specs.Types.{type_of}
use Rattle.host_api.specs.declared.bodies.Ask.TheVariants.{Read, Upload}
use Rattle.host_api.specs.declared.refusals.Refusal.TheVariants as reason
use Rattle.host_api.specs.declared.versions.Version.{Version}
use Rattle.host_disk.specs.declared.disks.Disk.{Ghosts}
use Rattle.host_answers.specs.Asking.{asked_for}
use Rattle.host_replies.specs.FileAsks.{AsksRange, plan_of}
use Rattle.host_replies.specs.SentFiles.{sent_answer}
use Rattle.host_server.specs.Hosts.{state_of}
use Rattle.host_replies.specs.Replies.{Answer, is_head, refused_answer, unread_answer}
use Rattle.host_connection.specs.Serving.{Answering}
use Rattle.host_replies.specs.Versions.{file_of}
use Rattle.host_server.specs.declared.servers.Server.{Server}

-- the chunk is a piece of a file that is known
abbrev pub IsKnownPiece : Contents → List ℕ → Type 0
IsKnownPiece uploads chunk =
    (digest : Digest) × (file : List ℕ) × (map.get uploads digest ≡ Some file) × Contains (things_of file) (Part (digest_of chunk), chunk)

-- the shelf of a server has each file that its host knows, and what is in its cache is of such files
pub record HasKnown {S D : Type 0} {disk : Ghosts D} (has : S → ShelfName → Option (List ℕ)) (server : Server S D disk) : Type 0 where
  pub on_shelf : (digest : Digest) (file : List ℕ) → map.get server.house.uploads digest ≡ Some file → HasFile has server.files.shelf file
  pub cached : AllCached (IsKnownPiece server.house.uploads) server.files.cache

-- of these bytes and the files that are known, no two pieces, nor two files, share a digest and differ
pub record AgreesWith (uploads : Contents) (bytes : List ℕ) : Type 0 where
  pub itself : Agree (things_of bytes) (things_of bytes)
  pub known : (digest : Digest) (file : List ℕ) → map.get uploads digest ≡ Some file → Agree (things_of file) (things_of bytes)

-- that holds of the body of a request, where it is an upload
abbrev pub UploadAgrees : Contents → RequestParts → List ℕ → Type 0
UploadAgrees uploads parts body = (deploy : ℕ) (path : List ℕ) → asked_for parts body ≡ Ok (Upload deploy path) → AgreesWith uploads body

-- the answer to a plan of the file at a path: that it has no byte of what is asked for, or what the plan sends of the file itself
abbrev pub IsSentExactly : List ℕ → List ℕ → Choice → Answer → Type 0
IsSentExactly path file plan answer =
    ((plan ≡ None416) × (answer ≡ refused_answer (reason.NotSatisfiable (length file))))
    ⊎ ((body : SentFile) × IsExact file plan (type_of path) body × (answer ≡ sent_answer path file body))

-- the answer to the reading of the file: that there was no memory, or that the device failed; or what the request asks for, of the file itself;
-- or, to HEAD, its length and its tag
abbrev pub IsReadBack : RequestParts → List ℕ → List ℕ → Answer → Type 0
IsReadBack parts path file answer =
    (answer ≡ refused_answer reason.OutOfMemory)
    ⊎ (answer ≡ refused_answer reason.Device)
    ⊎ ((range : Asked) × AsksRange parts range × IsSentExactly path file (plan_of parts range file) answer)
    ⊎ (IsTrue (is_head parts) × (answer ≡ unread_answer (type_of path) file))

-- ---- a connection

-- an answer, where an upload agrees with the files that are known
abbrev pub Agreeing : {S D : Type 0} {disk : Ghosts D} → Answering (Server S D disk) → Answering (Server S D disk)
Agreeing answers server parts body answer next = UploadAgrees server.house.uploads parts body × answers server parts body answer next

-- an answer that is of the file itself where the request reads one
abbrev pub ReadsBack : {S D : Type 0} {disk : Ghosts D} → Answering (Server S D disk)
ReadsBack server parts body answer next =
    (site : SiteName) (version : Version) (path file : List ℕ) → asked_for parts body ≡ Ok (Read site version path)
    → file_of (state_of server.house) site version path ≡ Ok file → IsReadBack parts path file answer
