-- Where the shelf of a server is honest at the end, it was at each call before.
use Rattle.std.specs.Prelude.{IsTrue}
use Rattle.std.proofs.Common.{◌≡◌, inl, inr, Bool, true, false, ℕ, List, Option, None, Result, Ok, Err, subst}
use Rattle.byte_view.specs.Contents.{Contents}
use Rattle.host_names.specs.declared.digests.Digest.{Digest}
use Rattle.host_names.specs.declared.names.SiteName.{SiteName}
use Rattle.blob_store.proofs.Honest.{put_some, puts_file}
use Rattle.blob_store.specs.Calls.{Call}
use Rattle.blob_store.specs.Keeping.{Keeps, Where}
use Rattle.blob_store.specs.declared.blobs.UploadFault.{UploadFault}
use Rattle.blob_store.specs.declared.shelves.ShelfName.{ShelfName}
use Rattle.host_server.proofs.HonestReads.{node_not_read, node_read}
use Rattle.host_server.proofs.StoredIf.{IsStoredIf}
use Rattle.chunk_group.specs.Cached.{CachedShelf}
use Rattle.range_spec.specs.declared.selection.Choice.{Choice}
use Rattle.site_change.specs.declared.entries.Entry.{Entry}
use Rattle.http_wire.specs.Requests.{RequestParts}
use Rattle.host_api.specs.Types.{type_of}
use Rattle.host_api.specs.declared.bodies.Ask.{Ask}
use Rattle.host_api.specs.declared.bodies.Ask.TheVariants as ask
use Rattle.host_api.specs.declared.refusals.Refusal.{Refusal}
use Rattle.host_api.specs.declared.texts.Told.{Told}
use Rattle.host_disk.specs.declared.disks.Disk.{Ghosts}
use Rattle.host_server.specs.Asks.{AskStops, IsAnswer, IsReplyToAsk}
use Rattle.host_answers.specs.Asking.{asked_for}
use Rattle.host_server.specs.Files.{IsFileSent, IsFileTold, IsReadReply}
use Rattle.host_replies.specs.FileAsks.{plan_of}
use Rattle.host_server.specs.Hosts.{state_of}
use Rattle.host_server.specs.Outcomes.{judge_upload}
use Rattle.host_replies.specs.Replies.{Answer, is_head}
use Rattle.host_server.specs.Storing.{IsNotStored, IsRefusedByStore, IsStored, IsUnpublished, IsUploaded, IsUploadReply}
use Rattle.host_replies.specs.Versions.{file_of}
use Rattle.host_server.specs.declared.servers.Server.{Server}

module _ {S : Type 0} (did : S → Call → S → Type 0) (failures : S → ℕ) (honest : S → Bool) (has : S → ShelfName → Option (List ℕ)) (keeps : Keeps did honest has) where
  -- ---- a read

  file_sent : (old new : CachedShelf S) (path file : List ℕ) (plan : Choice) (answer : Answer) → IsTrue (honest new.shelf) → IsFileSent did failures old path file plan answer new
      → IsTrue (honest old.shelf) × IsFileSent (Where honest did) failures old path file plan answer new
  file_sent old new path file plan answer so (inl (none, says, same)) = (subst (λ (n : CachedShelf S). IsTrue (honest n.shelf)) same so, inl (none, says, same))
  file_sent old new path file plan answer so (inr (inl (body, read, says))) =
      let all = node_read did failures honest has keeps old new file plan (type_of path) body so read in
      (all.0, inr (inl (body, all.1, says)))
  file_sent old new path file plan answer so (inr (inr (why, other, failed, says))) =
      let all = node_not_read did failures honest has keeps old new file plan why so failed in
      (all.0, inr (inr (why, other, all.1, says)))

  file_told : (head_only : Bool) (old new : CachedShelf S) (path file : List ℕ) (plan : Choice) (answer : Answer) → IsTrue (honest new.shelf)
      → IsFileTold did failures head_only old path file plan answer new
      → IsTrue (honest old.shelf) × IsFileTold (Where honest did) failures head_only old path file plan answer new
  file_told true old new path file plan answer so (says, same) = (subst (λ (n : CachedShelf S). IsTrue (honest n.shelf)) same so, (says, same))
  file_told false old new path file plan answer so sent = file_sent old new path file plan answer so sent

module _ {S D : Type 0} {disk : Ghosts D} (did : S → Call → S → Type 0) (failures : S → ℕ) (honest : S → Bool) (has : S → ShelfName → Option (List ℕ))
    (keeps : Keeps did honest has) where
  module _ (server next : Server S D disk) (so : IsTrue (honest next.files.shelf)) where
    same_files : next.files ≡ server.files → IsTrue (honest server.files.shelf)
    same_files same = subst (λ (n : CachedShelf S). IsTrue (honest n.shelf)) same so

    same_server : next ≡ server → IsTrue (honest server.files.shelf)
    same_server same = subst (λ (s : Server S D disk). IsTrue (honest s.files.shelf)) same so

    read_reply : (parts : RequestParts) (path : List ℕ) (file : Result (List ℕ) Refusal) (answer : Answer) → IsReadReply did failures server parts path file answer next
        → IsTrue (honest server.files.shelf) × IsReadReply (Where honest did) failures server parts path file answer next
    read_reply parts path (Err why) answer is = (same_server is.1, is)
    read_reply parts path (Ok file) answer (uploaded, range, asks, sent, same) =
        let all = file_told did failures honest has keeps (is_head parts) server.files next.files path file (plan_of parts range file) answer so sent in
        (all.0, (uploaded, range, asks, all.1, same))

    -- ---- an upload

    stored : (uploads : Contents) (bytes : List ℕ) → IsStored did uploads server.files.shelf bytes next.files.shelf
        → IsTrue (honest server.files.shelf) × IsStored (Where honest did) uploads server.files.shelf bytes next.files.shelf
    stored uploads bytes (small, inl (there, same)) = (subst (λ (s : S). IsTrue (honest s)) same so, (small, inl (there, same)))
    stored uploads bytes (small, inr (none, puts)) =
        let all = puts_file did honest has keeps uploads server.files.shelf next.files.shelf bytes None so puts in
        (all.0, (small, inr (none, all.1)))

    stored_if : (judged : Result (SiteName × Digest) Refusal) (uploads : Contents) (bytes : List ℕ) → IsStoredIf did judged uploads server.files.shelf bytes next.files.shelf
        → IsTrue (honest server.files.shelf) × IsStoredIf (Where honest did) judged uploads server.files.shelf bytes next.files.shelf
    stored_if (Ok at) uploads bytes is = stored uploads bytes is
    stored_if (Err why) uploads bytes is = (subst (λ (s : S). IsTrue (honest s)) is so, is)

    module _ (n : ℕ) (path bytes : List ℕ) where
      abbrev judged : Result (SiteName × Digest) Refusal
      judged = judge_upload server.house n path bytes

      uploaded : (told : Told) → IsUploaded did server judged n bytes told next → IsTrue (honest server.files.shelf) × IsUploaded (Where honest did) server judged n bytes told next
      uploaded told is =
          let all = stored_if judged server.house.uploads bytes is.stored in
          (all.0, record { stored = all.1; cache = is.cache; told_is = is.told_is; host_is = is.host_is })

      refused : (why : UploadFault) → IsRefusedByStore did failures server judged bytes why next → IsTrue (honest server.files.shelf) × IsRefusedByStore (Where honest did) failures server judged bytes why next
      refused why is =
          let none = is.not_stored in
          let all = put_some did honest has keeps server.house.uploads server.files.shelf next.files.shelf bytes why so none.put in
          let not_stored : IsNotStored (Where honest did) failures server.house.uploads server.files.shelf bytes why next.files.shelf =
          record { large = none.large; unknown = none.unknown; failed = none.failed; put = all.1 } in
          (all.0, record { at = is.at; allowed = is.allowed; not_stored = not_stored; cache = is.cache; same = is.same })

      unpublished : (missed : Entry) → IsUnpublished did server judged n bytes missed next → IsTrue (honest server.files.shelf) × IsUnpublished (Where honest did) server judged n bytes missed next
      unpublished missed is =
          let all = stored server.house.uploads bytes is.stored in
          (all.0, record { at = is.at; allowed = is.allowed; stored = all.1; cache = is.cache; known = is.known; published = is.published; missed_is = is.missed_is })

      upload_reply : (answer : Answer) → IsUploadReply did failures server n path bytes answer next → IsTrue (honest server.files.shelf) × IsUploadReply (Where honest did) failures server n path bytes answer next
      upload_reply answer (inl (told, done, says)) =
          let all = uploaded told done in
          (all.0, inl (told, all.1, says))
      upload_reply answer (inr (why, none, says)) =
          let all = refused why none in
          (all.0, inr (why, all.1, says))

    -- ---- any request

    module _ (parts : RequestParts) (body : List ℕ) where
      reply_to : (asking : Result Ask Refusal) (answer : Answer) → IsReplyToAsk did failures server parts body asking answer next
          → IsTrue (honest server.files.shelf) × IsReplyToAsk (Where honest did) failures server parts body asking answer next
      reply_to (Ok (ask.Read site version path)) answer is = read_reply parts path (file_of (state_of server.house) site version path) answer is
      reply_to (Ok (ask.Upload n path)) answer is = upload_reply n path body answer is
      reply_to asking answer is = (same_files is.4, is)

      stops : (asking : Result Ask Refusal) (missed : Entry) → AskStops did server body asking missed next → IsTrue (honest server.files.shelf) × AskStops (Where honest did) server body asking missed next
      stops (Ok (ask.Upload n path)) missed is = unpublished n path body missed is
      stops asking missed is = (same_files is.1, is)

      pub answered : (answer : Answer) → IsAnswer did failures server parts body answer next
          → IsTrue (honest server.files.shelf) × IsAnswer (Where honest did) failures server parts body answer next
      answered answer (inl (inl (held, says, same), kept)) = (same_server same, inl (inl (held, says, same), kept))
      answered answer (inl (inr (free, reply), kept)) =
          let all = reply_to (asked_for parts body) answer reply in
          (all.0, inl (inr (free, all.1), kept))
      answered answer (inr (inl (says, inl (same, takes), kept))) = (same_server same, inr (inl (says, inl (same, takes), kept)))
      answered answer (inr (inl (says, inr (free, missed, halts), kept))) =
          let all = stops (asked_for parts body) missed halts in
          (all.0, inr (inl (says, inr (free, missed, all.1), kept)))
      answered answer (inr (inr (says, missed, halts, broken))) =
          let all = stops (asked_for parts body) missed halts in
          (all.0, inr (inr (says, missed, all.1, broken)))
