-- What the steps of an upload find at a desk, answer and do.
use Rattle.std.specs.Prelude.{◌≡◌, ℕ, Bool, true, false, List, Option, Some, None, Result, Ok, Err}
use Rattle.byte_view.specs.Contents.{Contents}
use Rattle.host_names.specs.declared.digests.Digest.{Digest}
use Rattle.host_names.specs.declared.names.SiteName.{SiteName}
use Rattle.host_disk.specs.declared.disks.Disk.{Ghosts}
use Rattle.site_state.specs.Deploys.{is_ready_draft, listed_at}
use Rattle.site_state.specs.States.{draft_at, kept_at}
use Rattle.site_change.specs.declared.commands.Command.TheVariants.{Publish}
use Rattle.change_log.specs.Logs.{Log}
use Rattle.site_desk.specs.Books.{Kept, state_of}
use Rattle.shared_desk.specs.Turns.{IsCommit, IsMet}
use Rattle.site_desk.specs.declared.upload_errors.UploadError.{UploadError}
use Rattle.site_desk.specs.declared.upload_errors.UploadError.TheVariants.{Broken, NoSuchDeploy, NotListed, NotPublished}

-- the digest at a path of a site's deploy, in the state of a book
abbrev pub listed_in : {D : Type 0} → Kept D → SiteName → ℕ → List ℕ → Option (Option Digest)
listed_in kept site n path = listed_at (draft_at (state_of kept) site n) (kept_at (state_of kept) site n) path

-- whether a site's deploy is ready, by a book
abbrev pub is_ready : {D : Type 0} → Kept D → SiteName → ℕ → Bool
is_ready kept site n = is_ready_draft kept.known (draft_at (state_of kept) site n)

-- what the first turn of an upload finds in a book: the digest that is listed, or why the upload goes no further
abbrev pub IsJudged : {D : Type 0} → ℕ → SiteName → ℕ → List ℕ → Kept D → Result Digest (UploadError Log) → Type 0
IsJudged floor site n path kept (Ok listed) = IsMet floor kept × (kept.journal.broken ≡ false) × (listed_in kept site n path ≡ Some (Some listed))
IsJudged floor site n path kept (Err Broken) = IsMet floor kept × (kept.journal.broken ≡ true)
IsJudged floor site n path kept (Err NoSuchDeploy) = IsMet floor kept × (kept.journal.broken ≡ false) × (listed_in kept site n path ≡ None)
IsJudged floor site n path kept (Err NotListed) = IsMet floor kept × (kept.journal.broken ≡ false) × (listed_in kept site n path ≡ Some None)
IsJudged floor site n path kept (Err other) = ⊥

-- what its last turn does: the deploy isn't ready, or it is, and its publishing is the next entry or not
abbrev pub IsPublishing : {D : Type 0} → Ghosts D → ℕ → SiteName → ℕ → Kept D → Result (Option Log) (UploadError Log) → Kept D → Type 0
IsPublishing disk floor site n old (Ok None) new = IsMet floor old × (is_ready old site n ≡ false) × (new ≡ old)
IsPublishing disk floor site n old (Ok (Some receipt)) new = IsCommit disk floor (Publish site n) old (Ok receipt) new × (is_ready old site n ≡ true)
IsPublishing disk floor site n old (Err (NotPublished why)) new = IsCommit disk floor (Publish site n) old (Err why) new × (is_ready old site n ≡ true)
IsPublishing disk floor site n old (Err other) new = ⊥

-- an upload had its first turn, at a book of these entries
abbrev pub Judges : {D : Type 0} → Ghosts D → ℕ → Log → SiteName → ℕ → List ℕ → Result Digest (UploadError Log) → Type 0
Judges {D} disk floor log site n path result = (kept : Kept D) × IsJudged floor site n path kept result × (kept.journal.entries ≡ log)

-- an upload had its last turn, at a book of these entries that knew these files
abbrev pub Publishes : {D : Type 0} → Ghosts D → ℕ → Log → Contents → SiteName → ℕ → Result (Option Log) (UploadError Log) → Type 0
Publishes {D} disk floor log files site n result =
    (old : Kept D) × (new : Kept D) × IsPublishing disk floor site n old result new × (old.journal.entries ≡ log) × (old.known ≡ files)
