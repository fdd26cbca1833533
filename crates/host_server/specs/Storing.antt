-- What comes of an upload, and what is answered to it.
use Rattle.std.specs.Prelude.{◌≡◌, ◌⊎◌, ◌↔◌, ℕ, ◌<◌, ◌≤◌, List, None, Result, Ok, Err, MatchResult, IsSome, IsTrue, length}
use Rattle.std.specs.FinMap as map
use Rattle.host_names.specs.Digests.{digest_of}
use Rattle.byte_view.specs.Contents.{Contents}
use Rattle.host_names.specs.declared.digests.Digest.{Digest}
use Rattle.host_names.specs.declared.names.SiteName.{SiteName}
use Rattle.blob_store.specs.Calls.{Call, PutsFile}
use Rattle.blob_store.specs.Faults.{HasPutSome}
use Rattle.blob_store.specs.declared.blobs.UploadFault.{UploadFault}
use Rattle.blob_store.specs.declared.blobs.UploadFault.TheVariants as fault
use Rattle.site_change.specs.declared.commands.Command.TheVariants.{Publish}
use Rattle.site_change.specs.declared.entries.Entry.{Entry}
use Rattle.site_change.specs.declared.entries.Entry.TheVariants.{Change}
use Rattle.host_api.specs.declared.refusals.Refusal.{Refusal}
use Rattle.host_api.specs.declared.refusals.Refusal.TheVariants as reason
use Rattle.host_api.specs.declared.texts.Told.{Told}
use Rattle.host_disk.specs.declared.disks.Disk.{Ghosts}
use Rattle.host_answers.specs.Answers.{told_upload}
use Rattle.host_answers.specs.declared.uploads.Uploaded.{Uploaded}
use Rattle.host_server.specs.Hosts.{with_upload}
use Rattle.host_server.specs.PublishedDeploys.{is_published}
use Rattle.host_server.specs.Outcomes.{judge_upload, uploaded}
use Rattle.host_replies.specs.Replies.{Answer, Tells, refused_answer}
use Rattle.host_server.specs.ServerJournals.{Breaks, GoesOn}
use Rattle.host_server.specs.declared.servers.Server.{Server}

-- the bytes aren't too many, and are on the shelf: nothing is put of those that are known, and of others each piece once, but for some that known
-- files have, and then the table
abbrev pub IsStored : {S : Type 0} → (did : S → Call → S → Type 0) → Contents → S → List ℕ → S → Type 0
IsStored did uploads old bytes new =
    (length bytes ≤ 16777216)
    × ((IsSome (map.get uploads (digest_of bytes)) × (new ≡ old))
    ⊎ ((map.get uploads (digest_of bytes) ≡ None) × PutsFile did uploads old bytes None new))

-- why they can't be: where they are too many, that; else they aren't known, and the device failed, or there was no memory
pub record IsNotStored {S : Type 0} (did : S → Call → S → Type 0) (failures : S → ℕ) (uploads : Contents) (old : S) (bytes : List ℕ) (why : UploadFault) (new : S) : Type 0 where
  pub large : (why ≡ fault.TooLarge) ↔ (16777216 < length bytes)
  pub unknown : length bytes ≤ 16777216 → map.get uploads (digest_of bytes) ≡ None
  pub failed : why ≡ fault.Device → failures old < failures new
  pub put : HasPutSome did uploads old bytes why new

-- the reason, as it is told
abbrev pub refusal_of_upload : UploadFault → Refusal
refusal_of_upload fault.TooLarge = reason.TooLarge
refusal_of_upload fault.Device = reason.Device
refusal_of_upload fault.OutOfMemory = reason.OutOfMemory

-- the bytes are stored where nothing is against them, and else the shelf stays as it was; what is in the cache stays, and the host does what
-- comes of that
pub record IsUploaded {S D : Type 0} {disk : Ghosts D} (did : S → Call → S → Type 0) (server : Server S D disk) (judged : Result (SiteName × Digest) Refusal) (n : ℕ) (bytes : List ℕ) (told : Told) (next : Server S D disk) : Type 0 where
  pub stored : MatchResult judged (λ at. IsStored did server.house.uploads server.files.shelf bytes next.files.shelf) (λ why.
      next.files.shelf ≡ server.files.shelf)
  pub cache : next.files.cache ≡ server.files.cache
  pub told_is : told ≡ (uploaded server.house n bytes judged).told
  pub host_is : next.house ≡ (uploaded server.house n bytes judged).host

-- nothing is against the bytes, but they can't be stored, and nothing else is done
pub record IsRefusedByStore {S D : Type 0} {disk : Ghosts D} (did : S → Call → S → Type 0) (failures : S → ℕ) (server : Server S D disk) (judged : Result (SiteName × Digest) Refusal) (bytes : List ℕ) (why : UploadFault) (next : Server S D disk)
    : Type 0 where
  pub at : SiteName × Digest
  pub allowed : judged ≡ Ok at
  pub not_stored : IsNotStored did failures server.house.uploads server.files.shelf bytes why next.files.shelf
  pub cache : next.files.cache ≡ server.files.cache
  pub same : next.house ≡ server.house

-- the bytes are stored and known, and this entry, which publishes the deploy that they complete, is not made
pub record IsUnpublished {S D : Type 0} {disk : Ghosts D} (did : S → Call → S → Type 0) (server : Server S D disk) (judged : Result (SiteName × Digest) Refusal) (n : ℕ) (bytes : List ℕ) (missed : Entry) (next : Server S D disk) : Type 0 where
  pub at : SiteName × Digest
  pub allowed : judged ≡ Ok at
  pub stored : IsStored did server.house.uploads server.files.shelf bytes next.files.shelf
  pub cache : next.files.cache ≡ server.files.cache
  pub known : next.house ≡ with_upload server.house bytes
  pub published : IsTrue (is_published (with_upload server.house bytes) at.0 n)
  pub missed_is : missed ≡ Change (Publish at.0 n)

-- ---- the call

-- there was no memory for that entry, or the journal's device failed while it was put
abbrev pub StopsPublishing : {S D : Type 0} {disk : Ghosts D} → Server S D disk → Entry → Result Uploaded Refusal → Server S D disk → Type 0
StopsPublishing server missed done next =
    ((done ≡ Err reason.OutOfMemory) × GoesOn server next) ⊎ ((done ≡ Err reason.Device) × Breaks server missed next)

-- bytes, of which this was judged, are taken for the deploy of a number, or it is told why not
abbrev pub DoesUpload : {S D : Type 0} {disk : Ghosts D} → (did : S → Call → S → Type 0) → (failures : S → ℕ) → Server S D disk → Result (SiteName × Digest) Refusal → ℕ → List ℕ → Result Uploaded Refusal → Server S D disk → Type 0
DoesUpload did failures server judged n bytes done next =
    (IsUploaded did server judged n bytes (told_upload done) next × GoesOn server next)
    ⊎ ((why : UploadFault) × IsRefusedByStore did failures server judged bytes why next × (done ≡ Err (refusal_of_upload why)) × GoesOn server next)
    ⊎ ((missed : Entry) × IsUnpublished did server judged n bytes missed next × StopsPublishing server missed done next)

-- ---- the reply

-- An upload has this reply: it tells what came of the bytes, or why the store doesn't take them. The server is then the next.
abbrev pub IsUploadReply : {S D : Type 0} {disk : Ghosts D} → (did : S → Call → S → Type 0) → (failures : S → ℕ) → Server S D disk → ℕ → List ℕ → List ℕ → Answer → Server S D disk → Type 0
IsUploadReply did failures server n path bytes answer next =
    ((told : Told) × IsUploaded did server (judge_upload server.house n path bytes) n bytes told next × Tells told answer)
    ⊎ ((why : UploadFault) × IsRefusedByStore did failures server (judge_upload server.house n path bytes) bytes why next
    × (answer ≡ refused_answer (refusal_of_upload why)))
