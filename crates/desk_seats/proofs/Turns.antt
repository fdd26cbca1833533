-- What a desk answers in its turns.
use Rattle.std.proofs.Common.{◌≡◌, ℕ, ◌+◌, Bool, true, false, List, Option, Some, None, Result, Ok, Err, refl, sym, subst}
use Rattle.std.specs.FinMap as map
use Rattle.std.specs.Prelude.{IsSome}
use Rattle.byte_view.specs.Contents.{Contents}
use Rattle.blob_store.specs.Calls.{Call}
use Rattle.host_disk.specs.declared.disks.Disk.{Ghosts}
use Rattle.host_names.specs.Digests.{digest_of}
use Rattle.host_names.specs.declared.digests.Digest.{Digest}
use Rattle.host_names.specs.declared.names.SiteName.{SiteName}
use Rattle.site_state.specs.States.{State}
use Rattle.site_change.specs.Changes.{IsWithin}
use Rattle.site_change.specs.declared.commands.Command.{Command}
use Rattle.site_change.specs.declared.commands.Command.TheVariants.{Publish}
use Rattle.site_change.specs.declared.refusals.ChangeRefusal.{ChangeRefusal}
use Rattle.change_log.specs.Logs.{BeginsWith, Log}
use Rattle.site_change.specs.declared.entries.Entry.{Entry}
use Rattle.site_change.specs.declared.entries.Entry.TheVariants.{Change, Undo}
use Rattle.site_desk.specs.Books.{Kept, state_of}
use Rattle.site_desk.specs.declared.errors.DeskError.{DeskError}
use Rattle.site_desk.specs.declared.errors.DeskError.TheVariants as desk
use Rattle.shared_desk.specs.Turns.{Commits, IsMet, IsTurn, Undoes}
use Rattle.shared_desk.specs.Uploads.{Judges, Publishes, is_ready}
use Rattle.site_desk.specs.declared.upload_errors.UploadError.{UploadError}
use Rattle.site_desk.specs.declared.upload_errors.UploadError.TheVariants as upload
use Rattle.shared_house.specs.Desks.{Takes}
use Rattle.shared_house.specs.Entering.{IsEntryAnswer, IsJudged, IsPublishing, IsReady, IsRunOver, IsSoAt, IsStored, IsUploadAnswer, Lists, ListsThem, Reason, reason_of_command, reason_of_undo}
use Rattle.desk_seats.specs.Asked.{IsAsked, IsJudgedAt}

-- what is so of a book is so at its log
so_at : {D : Type 0} (floor : ℕ) (kept : Kept D) (log : Log) (is_so : Contents → State → Type 0) → IsMet floor kept → kept.journal.entries ≡ log
    → is_so kept.known (state_of kept) → IsSoAt log is_so
so_at floor kept log is_so met same is =
    let over : IsRunOver kept.known kept.journal.entries (state_of kept) = record { digested = met.digested; legal = met.legal; ran = met.ran } in
    (kept.known, state_of kept, subst (λ (l : Log). IsRunOver kept.known l (state_of kept)) same over, is)

judged : {D : Type 0} (floor : ℕ) (kept : Kept D) (reason : Reason) (why : Option ChangeRefusal) → IsMet floor kept
    → reason kept.known kept.journal.entries (state_of kept) ≡ why → IsJudged reason kept.journal.entries why
judged floor kept reason why met is = so_at floor kept kept.journal.entries (λ uploads state. reason uploads kept.journal.entries state ≡ why) met refl is

-- ---- entries

turn : {D : Type 0} (disk : Ghosts D) (floor : ℕ) (entry : Entry) (reason : Reason) (may : Type 0) (old : Kept D) (result : Result Log (DeskError Log)) (new : Kept D)
    → IsTurn disk floor entry (reason old.known old.journal.entries (state_of old)) may old result new → IsEntryAnswer entry reason old.journal.entries result
turn disk floor entry reason may old (Ok receipt) new is = (judged floor old reason None is.met is.answer.1, is.receipt)
turn disk floor entry reason may old (Err (desk.Refused why seen)) new is = (judged floor old reason (Some why) is.met is.answer.1, is.answer.2)
turn disk floor entry reason may old (Err (desk.NoReceipt why)) new is = judged floor old reason (Some why) is.met is.answer.1
turn disk floor entry reason may old (Err desk.Device) new is = judged floor old reason None is.met is.answer.1
turn disk floor entry reason may old (Err desk.Broken) new is = tt
turn disk floor entry reason may old (Err desk.OutOfMemory) new is = tt

pub of_commit : {D : Type 0} (disk : Ghosts D) (floor : ℕ) (log : Log) (command : Command) (result : Result Log (DeskError Log)) → Commits disk floor log command result
    → IsEntryAnswer (Change command) (reason_of_command command) log result
of_commit disk floor log command result (old, new, is, same) =
    subst (λ (l : Log). IsEntryAnswer (Change command) (reason_of_command command) l result) same
    (turn disk floor (Change command) (reason_of_command command) _ old result new is)

pub of_undo : {D : Type 0} (disk : Ghosts D) (floor : ℕ) (log : Log) (site : SiteName) (k : ℕ) (result : Result Log (DeskError Log)) → Undoes disk floor log site k result
    → IsEntryAnswer (Undo site k) (reason_of_undo site k) log result
of_undo disk floor log site k result (old, new, is, same) =
    subst (λ (l : Log). IsEntryAnswer (Undo site k) (reason_of_undo site k) l result) same (turn disk floor (Undo site k) (reason_of_undo site k) _ old result new is)

-- ---- uploads

pub listed : {D : Type 0} (disk : Ghosts D) (floor : ℕ) (log : Log) (site : SiteName) (n : ℕ) (path : List ℕ) (digest : Digest) → Judges disk floor log site n path (Ok digest)
    → Lists log site n path (Some (Some digest))
listed disk floor log site n path digest (kept, (met, whole, is), same) = so_at floor kept log _ met same is

-- the digest of these bytes is listed
pub lists : {D : Type 0} (disk : Ghosts D) (floor : ℕ) (log : Log) (site : SiteName) (n : ℕ) (path bytes : List ℕ) (digest : Digest) → digest ≡ digest_of bytes
    → Judges disk floor log site n path (Ok digest) → ListsThem log site n path bytes
lists disk floor log site n path bytes digest same judged =
    subst (λ (d : Digest). Lists log site n path (Some (Some d))) same (listed disk floor log site n path digest judged)

-- an upload stops at its first step
pub stops : {D : Type 0} (disk : Ghosts D) (floor : ℕ) (log : Log) (files : Contents) (site : SiteName) (n : ℕ) (path bytes : List ℕ) (why : UploadError Log)
    → Judges disk floor log site n path (Err why) → IsUploadAnswer site n path bytes log log files (Err why)
stops disk floor log files site n path bytes upload.Broken judged = tt
stops disk floor log files site n path bytes upload.NoSuchDeploy (kept, (met, whole, is), same) = so_at floor kept log _ met same is
stops disk floor log files site n path bytes upload.NotListed (kept, (met, whole, is), same) = so_at floor kept log _ met same is
stops disk floor log files site n path bytes upload.WrongDigest (kept, none, same) = absurd none
stops disk floor log files site n path bytes (upload.NotStored why) (kept, none, same) = absurd none
stops disk floor log files site n path bytes (upload.NotPublished why) (kept, none, same) = absurd none

pub asked_first : {D : Type 0} (disk : Ghosts D) (failed : Call → Type 0) (found made : ℕ) (log : Log) (files : Contents) (site : SiteName) (n : ℕ)
    (path bytes : List ℕ) (why : UploadError Log) → Judges disk (found + made) log site n path (Err why)
    → IsAsked disk failed found (Takes site n path bytes log files (Err why))
asked_first disk failed found made log files site n path bytes upload.Broken judged = (made, judged)
asked_first disk failed found made log files site n path bytes upload.NoSuchDeploy judged = (made, judged)
asked_first disk failed found made log files site n path bytes upload.NotListed judged = (made, judged)
asked_first disk failed found made log files site n path bytes upload.WrongDigest (kept, none, same) = absurd none
asked_first disk failed found made log files site n path bytes (upload.NotStored why) (kept, none, same) = absurd none
asked_first disk failed found made log files site n path bytes (upload.NotPublished why) (kept, none, same) = absurd none

-- its first step finds the digest of these bytes
pub found_them : {D : Type 0} (disk : Ghosts D) (found made : ℕ) (log : Log) (site : SiteName) (n : ℕ) (path bytes : List ℕ) (digest : Digest)
    → digest ≡ digest_of bytes → Judges disk (found + made) log site n path (Ok digest) → IsJudgedAt disk found log site n path (Ok (digest_of bytes))
found_them disk found made log site n path bytes digest same judged =
    (made, subst (λ (d : Digest). Judges disk (found + made) log site n path (Ok d)) same judged)

-- a file that is known is among more files
known_within : (files known : Contents) (digest : Digest) → IsWithin files known → IsSome (map.get files digest) → IsSome (map.get known digest)
known_within files known digest within is =
    elim (map.get files digest) as (λ o. map.get files digest ≡ o → IsSome o → IsSome (map.get known digest)) [
      | None ↦ λ e none. cc none
      | Some bytes ↦ λ e some. subst (λ (o : Option (List ℕ)). IsSome o) (sym (within digest bytes e)) some
    ] refl is

-- its file was stored, and is among those that are known at its last step
pub stored : (bytes : List ℕ) (first told learnt last : Contents) → told ≡ first → IsSome (map.get first (digest_of bytes)) → IsWithin told learnt → IsWithin learnt last
    → IsSome (map.get last (digest_of bytes))
stored bytes first told learnt last same some within more =
    let at = subst (λ (c : Contents). IsSome (map.get c (digest_of bytes))) (sym same) some in
    known_within learnt last (digest_of bytes) more (known_within told learnt (digest_of bytes) within at)

-- whether the deploy is ready, by a book of its last step
ready_at : {D : Type 0} (floor : ℕ) (kept : Kept D) (log : Log) (files : Contents) (site : SiteName) (n : ℕ) (ready : Bool) → IsMet floor kept → kept.journal.entries ≡ log
    → kept.known ≡ files → is_ready kept site n ≡ ready → IsReady log files site n ready
ready_at floor kept log files site n ready met same is so =
    let over : IsRunOver kept.known kept.journal.entries (state_of kept) = record { digested = met.digested; legal = met.legal; ran = met.ran } in
    let there : IsReady kept.journal.entries kept.known site n ready = (state_of kept, over, so) in
    subst (λ (c : Contents). IsReady log c site n ready) is (subst (λ (l : Log). IsReady l kept.known site n ready) same there)

-- it comes to its last step, which publishes the deploy unless that isn't ready
pub published : {D : Type 0} (disk : Ghosts D) (floor : ℕ) (log : Log) (site : SiteName) (n : ℕ) (files : Contents) (result : Option Log)
    → Publishes disk floor log files site n (Ok result) → IsPublishing log files site n (Ok result)
published disk floor log site n files None (old, new, (met, ready, stays), same, is) = ready_at floor old log files site n false met same is ready
published disk floor log site n files (Some receipt) (old, new, (commits, ready), same, is) =
    (ready_at floor old log files site n true commits.met same is ready, of_commit disk floor log (Publish site n) (Ok receipt) (old, new, commits, same))

-- that step fails
pub not_published : {D : Type 0} (disk : Ghosts D) (floor : ℕ) (first log : Log) (site : SiteName) (n : ℕ) (path bytes : List ℕ) (files : Contents) (why : UploadError Log)
    → IsStored first files site n path bytes → Publishes disk floor log files site n (Err why) → IsUploadAnswer site n path bytes first log files (Err why)
not_published disk floor first log site n path bytes files (upload.NotPublished why) stored (old, new, (commits, ready), same, is) =
    (stored, (ready_at floor old log files site n true commits.met same is ready, of_commit disk floor log (Publish site n) (Err why) (old, new, commits, same)))
not_published disk floor first log site n path bytes files upload.Broken stored (old, new, none, same, is) = absurd none
not_published disk floor first log site n path bytes files upload.NoSuchDeploy stored (old, new, none, same, is) = absurd none
not_published disk floor first log site n path bytes files upload.NotListed stored (old, new, none, same, is) = absurd none
not_published disk floor first log site n path bytes files upload.WrongDigest stored (old, new, none, same, is) = absurd none
not_published disk floor first log site n path bytes files (upload.NotStored why) stored (old, new, none, same, is) = absurd none

pub asked_last : {D : Type 0} (disk : Ghosts D) (failed : Call → Type 0) (found made : ℕ) (first log : Log) (site : SiteName) (n : ℕ) (path bytes : List ℕ)
    (files : Contents) (why : UploadError Log) → BeginsWith log first → IsJudgedAt disk found first site n path (Ok (digest_of bytes))
    → Publishes disk (found + made) log files site n (Err why) → IsAsked disk failed found (Takes site n path bytes log files (Err why))
asked_last disk failed found made first log site n path bytes files (upload.NotPublished why) later judged is = (first, later, judged, made, is)
asked_last disk failed found made first log site n path bytes files upload.Broken later judged (old, new, none, same, is) = absurd none
asked_last disk failed found made first log site n path bytes files upload.NoSuchDeploy later judged (old, new, none, same, is) = absurd none
asked_last disk failed found made first log site n path bytes files upload.NotListed later judged (old, new, none, same, is) = absurd none
asked_last disk failed found made first log site n path bytes files upload.WrongDigest later judged (old, new, none, same, is) = absurd none
asked_last disk failed found made first log site n path bytes files (upload.NotStored why) later judged (old, new, none, same, is) = absurd none
