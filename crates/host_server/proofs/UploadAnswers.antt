-- What is answered to an upload.
use Rattle.std.proofs.Common.{◌≡◌, inl, inr, ℕ, List, ◌&&◌, Option, Some, None, Result, Ok, Err, is_some, ok_or, sym, ap, subst, ◌∙◌}
use Rattle.host_names.specs.declared.digests.Digest.{Digest}
use Rattle.host_names.specs.declared.names.SiteName.{SiteName}
use Rattle.blob_store.specs.Calls.{Call}
use Rattle.blob_store.specs.declared.blobs.UploadFault.{UploadFault}
use Rattle.blob_store.specs.declared.blobs.UploadFault.TheVariants as fault
use Rattle.site_change.specs.declared.refusals.ChangeRefusal.TheVariants.{NoSuchDeploy}
use Rattle.change_undo.specs.Histories.{entry_at}
use Rattle.http_wire.specs.Requests.{RequestParts}
use Rattle.host_disk.specs.declared.disks.Disk.{Ghosts}
use Rattle.host_api.specs.Bodies.{then_with}
use Rattle.host_api.specs.declared.bodies.Ask.TheVariants as ask
use Rattle.host_api.specs.declared.refusals.Refusal.{Refusal}
use Rattle.host_api.specs.declared.refusals.Refusal.TheVariants as reason
use Rattle.host_api.specs.declared.texts.Told.TheVariants as told
use Rattle.host_replies.specs.Replies.{Answer, Tells, refused_answer}
use Rattle.host_answers.specs.Answers.{InSite, UploadsBy, told_upload}
use Rattle.host_answers.specs.Deploys.{site_of_deploy}
use Rattle.host_answers.specs.declared.uploads.Uploaded.{Uploaded}
use Rattle.host_server.specs.Journals.{is_broken}
use Rattle.host_server.specs.Outcomes.{judge_in, uploaded}
use Rattle.host_server.specs.ServerHouses.{calls_of}
use Rattle.host_server.specs.Storing.{DoesUpload, IsUploaded, refusal_of_upload}
use Rattle.host_server.specs.declared.servers.Server.{Server}
use Rattle.host_server.proofs.EntryAnswers.{AnswersAsk, CarriesOut, and_false, and_true, free, held, no_memory, plainly}
use Rattle.host_server.proofs.Journaling.{keeps_same}
use Rattle.host_server.proofs.StoredIf.{IsStoredIf}

module _ {S D : Type 0} {disk : Ghosts D} (did : S → Call → S → Type 0) (failures : S → ℕ) (server next : Server S D disk) (parts : RequestParts) (n : ℕ) (path bytes : List ℕ) (answer : Answer) where
  abbrev Judged : Type 0
  Judged = Result (SiteName × Digest) Refusal

  abbrev judged_on : Option SiteName → Judged
  judged_on site = then_with (ok_or site (reason.Change NoSuchDeploy)) (λ owner. judge_in server.house owner n path bytes)

  abbrev judged : Judged
  judged = judged_on (site_of_deploy (entry_at server.house.entries n))

  tells_as : (result other : Result Uploaded Refusal) → result ≡ other → Tells (told_upload result) answer → Tells (told_upload other) answer
  tells_as result other is says = subst (λ (r : Result Uploaded Refusal). Tells (told_upload r) answer) is says

  -- the store doesn't take them
  store_tells : (why : UploadFault) → Tells (told.Refused (refusal_of_upload why)) answer → answer ≡ refused_answer (refusal_of_upload why)
  store_tells fault.OutOfMemory says = no_memory answer says
  store_tells fault.TooLarge says = plainly reason.TooLarge answer (λ e. cc e) says
  store_tells fault.Device says = plainly reason.Device answer (λ e. cc e) says

  does_tell : (result : Result Uploaded Refusal) → DoesUpload did failures server judged n bytes result next → Tells (told_upload result) answer
      → CarriesOut did failures server next parts bytes answer (Ok (ask.Upload n path))
  does_tell result (inl (is, kept)) says = inl (inl (told_upload result, is, says), kept)
  does_tell result (inr (inl (why, refused, is, kept))) says =
      inl (inr (why, refused, store_tells why (tells_as result (Err (refusal_of_upload why)) is says)), kept)
  does_tell result (inr (inr (missed, left, inl (is, kept)))) says =
      inr (inl (no_memory answer (tells_as result (Err reason.OutOfMemory) is says), missed, left, kept))
  does_tell result (inr (inr (missed, left, inr (is, broken)))) says =
      inr (inr (plainly reason.Device answer (λ e. cc e) (tells_as result (Err reason.Device) is says), missed, left, broken))

  -- no entry opened the deploy
  no_deploy : (judgment : Judged) → judgment ≡ Err (reason.Change NoSuchDeploy) → next ≡ server
      → IsUploaded did server judgment n bytes (told.Refused (reason.Change NoSuchDeploy)) next
  no_deploy judgment is same = record {
    stored = subst (λ (j : Judged). IsStoredIf did j server.house.uploads server.files.shelf bytes next.files.shelf) (sym is) (ap (λ (s : Server S D disk). s.files.shelf) same);
    cache = ap (λ (s : Server S D disk). s.files.cache) same;
    told_is = sym (ap (λ (j : Judged). (uploaded server.house n bytes j).told) is);
    host_is = ap (λ (s : Server S D disk). s.house) same ∙ sym (ap (λ (j : Judged). (uploaded server.house n bytes j).host) is);
  }

  pub upload_by : (site : Option SiteName) → site_of_deploy (entry_at server.house.entries n) ≡ site
      → InSite (calls_of did failures) server site (λ owner. UploadsBy (calls_of did failures) server owner n path bytes) answer next
      → AnswersAsk did failures server next parts bytes answer (Ok (ask.Upload n path))
  upload_by None is (says, same) =
      let refused : judged ≡ Err (reason.Change NoSuchDeploy) = ap judged_on is in
      let kept = keeps_same disk server.house next.house server.journal next.journal (ap (λ (s : Server S D disk). s.house) same) (ap (λ (s : Server S D disk). s.journal) same) in
      free did failures server next parts bytes answer (Ok (ask.Upload n path))
      (ap (λ (s : Option SiteName). is_broken server.journal && is_some s) is ∙ and_false (is_broken server.journal))
      (does_tell (Err (reason.Change NoSuchDeploy)) (inl (no_deploy judged refused same, kept)) says)
  upload_by (Some owner) is (result, (inl (broken, failed, same), count), says) =
      held did failures server next parts bytes answer (Ok (ask.Upload n path))
      (ap (λ (s : Option SiteName). is_broken server.journal && is_some s) is ∙ and_true (is_broken server.journal))
      (inl (broken, plainly reason.Broken answer (λ e. cc e) (tells_as result (Err reason.Broken) failed says), same))
  upload_by (Some owner) is (result, (inr (whole, does), count), says) =
      held did failures server next parts bytes answer (Ok (ask.Upload n path))
      (ap (λ (s : Option SiteName). is_broken server.journal && is_some s) is ∙ and_true (is_broken server.journal))
      (inr (
        whole,
        does_tell result (subst (λ (s : Option SiteName). DoesUpload did failures server (judged_on s) n bytes result next) (sym is) does) says,
      ))
