-- What is answered to the reading of a file, by what is held of it.
use Rattle.std.proofs.Common.{◌≡◌, ◌≢◌, inl, inr, Bool, true, false, ℕ, List, [], Some, Result, Ok, Err, length, refl, sym, ap, subst, ◌∙◌}
use Rattle.std.proofs.lemmas.List.Elements.{All-nil}
use Rattle.std.proofs.lemmas.Slice.Eq.{bytes_eq-Decides}
use Rattle.std.specs.Prelude.{codes}
use Rattle.std.specs.FinMap as map
use Rattle.std.specs.Str.{bytes_eq}
use Rattle.byte_view.specs.Contents.{AreDigested}
use Rattle.byte_view.specs.Holds.{Held, IsHeld}
use Rattle.host_names.specs.Digests.{digest_of}
use Rattle.host_names.specs.declared.names.SiteName.{SiteName}
use Rattle.blob_store.specs.Calls.{Call}
use Rattle.chunk_reads.specs.Reading.{IsNotHeld}
use Rattle.chunk_group.specs.Cached.{CachedShelf, GaveOfNode, ReadsChunk}
use Rattle.chunk_reads.specs.declared.faults.ReadFault.TheVariants as fault
use Rattle.range_spec.specs.declared.grammar.Asked.{Asked}
use Rattle.range_spec.specs.declared.grammar.Asked.TheVariants.{Ignore}
use Rattle.range_spec.specs.declared.selection.Choice.{Choice}
use Rattle.range_spec.specs.declared.selection.Choice.TheVariants.{Whole, One, Many, None416}
use Rattle.range_reply.specs.Bodies.{stretches}
use Rattle.range_reply.specs.Holding.{AreHeld}
use Rattle.range_reply.specs.Sending.{IsNotRead}
use Rattle.http_wire.specs.Fields.{values_of}
use Rattle.http_wire.specs.Requests.{RequestParts}
use Rattle.host_disk.specs.declared.disks.Disk.{Ghosts}
use Rattle.host_api.specs.declared.bodies.Ask.TheVariants as ask
use Rattle.host_api.specs.declared.refusals.Refusal.{Refusal}
use Rattle.host_api.specs.declared.versions.Version.{Version}
use Rattle.host_replies.specs.FileAsks.{AskedBy, AsksRange, plan_of}
use Rattle.host_replies.specs.Replies.{Answer, is_head}
use Rattle.host_replies.specs.Versions.{file_of}
use Rattle.host_answers.proofs.Growing as growing
use Rattle.host_answers.proofs.Growing.{StaysBy}
use Rattle.host_answers.proofs.Reading.{Sends}
use Rattle.host_answers.proofs.Seen.{reads_as}
use Rattle.host_answers.specs.Houses.{Calls}
use Rattle.host_answers.specs.Reads.{GivesBy, ReadsBy, SendsBy}
use Rattle.host_server.specs.Files.{IsFileSent, IsFileTold, IsReadReply}
use Rattle.host_server.specs.Hosts.{IsLawful, state_of}
use Rattle.host_server.specs.Journals.{is_broken}
use Rattle.host_server.specs.ServerHouses.{KeepsHost, calls_of, failed_at, gave_at}
use Rattle.host_server.specs.declared.servers.Server.{Server}
use Rattle.host_server.proofs.EntryAnswers.{AnswersAsk, and_false, free}
use Rattle.host_server.proofs.FilesKnown.{file_known}
use Rattle.host_server.proofs.Journaling.{keeps_same}

-- ---- the host and its journal stay

module _ {S D : Type 0} {disk : Ghosts D} (did : S → Call → S → Type 0) (failures : S → ℕ) where
  -- nothing else is called for a read
  abbrev no_calls : Calls (Server S D disk)
  no_calls = record {
    seen = (calls_of did failures).seen;
    looks = λ old done new. ⊥;
    misses = λ server files required. ⊥;
    commits = λ old command done new. ⊥;
    undoes = λ old site change done new. ⊥;
    uploads = λ old site n path bytes done new. ⊥;
  }

  keeps : StaysBy (KeepsHost {S = S} {D = D} {disk = disk}) no_calls (gave_at did failures) (failed_at did failures)
  keeps = record {
    stays = λ server. (refl, refl);
    goes_on = λ first mid last one other. (other.0 ∙ one.0, other.1 ∙ one.1);
    gave_grows = λ old hold new is. is.1;
    failed_grows = λ old file first last why new is. is.1;
    commits = λ old command done new no. absurd no;
    undoes = λ old site change done new no. absurd no;
    uploads = λ old site n path bytes done new no. absurd no;
  }

-- ---- the reply to HEAD

-- it asks for no range
no_range : (parts : RequestParts) → is_head parts ≡ true → AsksRange parts Ignore
no_range parts head =
    let method : parts.method ≡ codes "HEAD" = (bytes_eq-Decides parts.method (codes "HEAD")).0 head in
    let other : bytes_eq parts.method (codes "GET") ≡ false = ap (λ m. bytes_eq m (codes "GET")) method in
    subst (λ b. AskedBy b (values_of (codes "range") parts.fields) Ignore) (sym other) refl

-- ---- what is sent

module _ {S : Type 0} (did : S → Call → S → Type 0) (failures : S → ℕ) (old new : CachedShelf S) (path file : List ℕ) (answer : Answer) where
  -- no byte of it was held
  unheld : (plan : Choice) → new ≡ old → IsNotRead (GaveOfNode did failures) (IsNotHeld (ReadsChunk did failures)) old file plan fault.OutOfMemory new
  unheld plan same =
      let none : AreHeld (GaveOfNode did failures) old file [] [] old =
      record { same_file = All-nil (λ (h : Held). h.file ≡ file); in_order = refl; lawful = All-nil IsHeld; given = refl } in
      inl ([], stretches (length file) plan, [], old, refl, none, inr (refl, same))

  sent_some : (plan : Choice) → plan ≢ None416 → Sends (GaveOfNode did failures) (IsNotHeld (ReadsChunk did failures)) old new path file plan answer
      → IsFileSent did failures old path file plan answer new
  sent_some plan some (inl (body, read, is)) = inr (inl (body, read, is))
  sent_some plan some (inr (inl (why, failed, is))) = inr (inr (why, some, failed, is))
  sent_some plan some (inr (inr (is, same))) = inr (inr (fault.OutOfMemory, some, unheld plan same, is))

  sent_by : (plan : Choice) → SendsBy (GaveOfNode did failures) (IsNotHeld (ReadsChunk did failures)) old path file plan answer new
      → IsFileSent did failures old path file plan answer new
  sent_by Whole is = sent_some Whole (λ e. cc e) is
  sent_by (One first last) is = sent_some (One first last) (λ e. cc e) is
  sent_by (Many intervals) is = sent_some (Many intervals) (λ e. cc e) is
  sent_by None416 (is, same) = inl (refl, is, same)

module _ {S D : Type 0} {disk : Ghosts D} (did : S → Call → S → Type 0) (failures : S → ℕ) (server next : Server S D disk) (parts : RequestParts) (path : List ℕ) (answer : Answer) where
  -- the file was uploaded
  abbrev IsKnown : List ℕ → Type 0
  IsKnown file = map.get server.house.uploads (digest_of file) ≡ Some file

  module _ (file : List ℕ) (known : IsKnown file) (same : next.house ≡ server.house) where
    told_by : (range : Asked) (by_head : Bool) → is_head parts ≡ by_head → AsksRange parts range
        → IsFileTold did failures by_head server.files path file (plan_of parts range file) answer next.files
        → IsReadReply did failures server parts path (Ok file) answer next
    told_by range by_head head asks is =
        (known, range, asks, subst (λ b. IsFileTold did failures b server.files path file (plan_of parts range file) answer next.files) (sym head) is, same)

    gives_by : (by_head : Bool) → is_head parts ≡ by_head
        → GivesBy (GaveOfNode did failures) (IsNotHeld (ReadsChunk did failures)) by_head server.files parts path file answer next.files
        → IsReadReply did failures server parts path (Ok file) answer next
    gives_by true head is = told_by Ignore true head (no_range parts head) is
    gives_by false head (range, asks, sends) =
        told_by range false head asks (sent_by did failures server.files next.files path file answer (plan_of parts range file) sends)

  of_files : (found : Result (List ℕ) Refusal) → ((file : List ℕ) → found ≡ Ok file → IsKnown file)
      → ReadsBy (gave_at did failures) (failed_at did failures) server parts path found answer next → KeepsHost server next
      → IsReadReply did failures server parts path found answer next
  of_files (Err why) known is kept = is
  of_files (Ok file) known is kept =
      gives_by file (known file refl) kept.0 (is_head parts) refl
      (reads_as (λ (s : Server S D disk). s.files) (gave_at did failures) (failed_at did failures) (GaveOfNode did failures) (IsNotHeld (ReadsChunk did failures))
      (record { gave_is = λ old hold new is. is.0; failed_is = λ old file first last why new is. is.0 })
      server parts path (Ok file) answer next is)

  pub read_told : (body : List ℕ) (site : SiteName) (version : Version) → IsLawful server.house → AreDigested server.house.uploads
      → ReadsBy (gave_at did failures) (failed_at did failures) server parts path (file_of (state_of server.house) site version path) answer next
      → AnswersAsk did failures server next parts body answer (Ok (ask.Read site version path))
  read_told body site version lawful digested is =
      let found = file_of (state_of server.house) site version path in
      let kept = growing.reads (KeepsHost {S = S} {D = D} {disk = disk}) (no_calls did failures) (gave_at did failures) (failed_at did failures) (keeps did failures) answer server parts path found next is in
      let journaled = keeps_same disk server.house next.house server.journal next.journal kept.0 kept.1 in
      free did failures server next parts body answer (Ok (ask.Read site version path)) (and_false (is_broken server.journal))
      (inl (of_files found (λ file there. file_known server.house site version path file digested lawful there) is kept, journaled))
