-- The count of the failures of a server's shelf never falls.
use Rattle.std.proofs.Common.{◌≡◌, inl, inr, ℕ, ◌≤◌, List, Result, Ok, Err, ap, arith}
use Rattle.blob_store.specs.Calls.{Call}
use Rattle.http_wire.specs.Requests.{RequestParts}
use Rattle.change_undo.specs.Histories.{may_take_memory}
use Rattle.site_change.specs.declared.entries.Entry.{Entry}
use Rattle.site_change.specs.declared.entries.Entry.TheVariants.{Change, Undo}
use Rattle.chunk_group.specs.Cached.{CachedShelf}
use Rattle.site_change.specs.declared.refusals.ChangeRefusal.{ChangeRefusal}
use Rattle.std.specs.Prelude.{None, Option, IsTrue}
use Rattle.std.specs.declared.alloc.AllocError.{AllocError}
use Rattle.host_disk.specs.declared.disks.Disk.{Ghosts}
use Rattle.host_replies.specs.Replies.{Answer}
use Rattle.host_answers.proofs.Growing.{StaysBy, answers_grow}
use Rattle.host_answers.specs.Answers.{AnswersBy}
use Rattle.host_answers.specs.declared.stops.Stop.{Stop}
use Rattle.host_answers.specs.declared.stops.Stop.TheVariants as stop
use Rattle.host_server.specs.Reasons.{commit_refusal, undo_refusal}
use Rattle.host_server.specs.ServerHouses.{EntersAt, LooksAt, UnlessBroken, calls_of, failed_at, gave_at}
use Rattle.host_server.specs.declared.servers.Server.{Server}
use Rattle.host_server.proofs.StoredReads.{failed_counts, gave_counts}

module _ {S D : Type 0} {disk : Ghosts D} (did : S → Call → S → Type 0) (failures : S → ℕ) where
  abbrev Counts : Server S D disk → Server S D disk → Type 0
  Counts old new = failures old.files.shelf ≤ failures new.files.shelf

  same_files : (old new : Server S D disk) → new.files ≡ old.files → Counts old new
  same_files old new is = let count = ap (λ (f : CachedShelf S). failures f.shelf) is in omega (arith, count)

  same_server : (old new : Server S D disk) → new ≡ old → Counts old new
  same_server old new is = same_files old new (ap (λ (s : Server S D disk). s.files) is)

  enters_count : (entry : Entry) (refusal : Option ChangeRefusal) (may_lack : Type 0) (old : Server S D disk) (done : Result ℕ Stop) (new : Server S D disk)
      → UnlessBroken (Err stop.Broken) (EntersAt entry refusal may_lack) old done new → Counts old new
  enters_count entry refusal may_lack old done new (inl (broken, is, same)) = same_server old new same
  enters_count entry refusal may_lack old (Ok number) new (inr (whole, (none, is, house, put, files))) = same_files old new files
  enters_count entry refusal may_lack old (Err stop.Broken) new (inr (whole, never)) = absurd never
  enters_count entry refusal may_lack old (Err (stop.Refused why)) new (inr (whole, (is, (house, journal, files)))) = same_files old new files
  enters_count entry refusal may_lack old (Err stop.OutOfMemory) new (inr (whole, (may, (house, journal, files)))) = same_files old new files
  enters_count entry refusal may_lack old (Err stop.Device) new (inr (whole, (none, house, put, files))) = same_files old new files

  counting : StaysBy Counts (calls_of did failures) (gave_at did failures) (failed_at did failures)
  counting = record {
    stays = λ server. omega arith;
    goes_on = λ first mid last one other. omega (arith, one, other);
    gave_grows = λ old hold new is. gave_counts did failures old.files hold new.files is.0;
    failed_grows = λ old file first last why new is. failed_counts did failures old.files file first last why new.files is.0;
    commits = λ old command done new is.
        enters_count (Change command) (commit_refusal old.house command) (commit_refusal old.house command ≡ None) old done new is;
    undoes = λ old site k done new is.
        enters_count (Undo site k) (undo_refusal old.house site k) (IsTrue (may_take_memory (undo_refusal old.house site k))) old done new is;
    uploads = λ old site n path bytes done new is. is.1;
  }

  looks_count : (old : Server S D disk) (done : Result (Unit {0}) AllocError) (new : Server S D disk) → LooksAt old done new → Counts old new
  looks_count old (Ok done) new looks = same_server old new looks.0
  looks_count old (Err why) new looks = absurd looks

  pub answers_count : (old new : Server S D disk) (parts : RequestParts) (body : List ℕ) (answer : Answer)
      → AnswersBy (calls_of did failures) (gave_at did failures) (failed_at did failures) old parts body answer new → Counts old new
  answers_count old new parts body answer is =
      answers_grow Counts (calls_of did failures) (gave_at did failures) (failed_at did failures) counting answer looks_count parts body old new is
