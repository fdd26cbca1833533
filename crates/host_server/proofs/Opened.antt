-- What is made of what is found is an opened server, or there was no memory for it.
use Rattle.std.proofs.Common.{◌≡◌, ◌⊎◌, ◌∙◌, inl, inr, ℕ, ◌<◌, ◌≤◌, List, Some, Result, Ok, Err, MatchResult, IfOk, IfErr, ap, sym, subst}
use Rattle.blob_store.specs.Calls.{Call}
use Rattle.change_journal.specs.Held.{Keeps}
use Rattle.change_journal.specs.Texts.{LeavesNext}
use Rattle.chunk_group.specs.Cached.{CachedShelf}
use Rattle.found_host.specs.Openings as openings
use Rattle.found_host.specs.Openings.{HadJournal, HasFiles, IsNoRecordFault, IsOpenFault}
use Rattle.found_host.specs.Remains.{Remains}
use Rattle.found_host.specs.declared.faults.NotOpened.{NotOpened}
use Rattle.found_host.specs.declared.faults.OpenFault.{OpenFault}
use Rattle.found_host.specs.declared.faults.OpenFault.TheVariants.{BlobsDevice, JournalDevice, OutOfMemory}
use Rattle.record_file.specs.Pairs.{Order, ReadsRecord}
use Rattle.site_change.specs.declared.entries.Entry.{Entry}
use Rattle.host_disk.specs.declared.disks.Disk.{Ghosts}
use Rattle.host_server.specs.Hosts.{Host}
use Rattle.host_server.specs.Openings.{IsGivenBack, IsOpened, IsServerOf}
use Rattle.host_server.specs.declared.servers.Server.{Server}

module _ {S D : Type 0} {disk : Ghosts D} (first second : D) (shelf : S) (found : Remains D S) where
  abbrev pub IsMade : Result (Server S D disk) (NotOpened S D) → Type 0
  IsMade result = MatchResult result (IsServerOf found) (IsGivenBack found)

  pub opened : (did : S → Call → S → Type 0) (limit : ℕ) (result : Result (Server S D disk) (NotOpened S D)) → IsMade result
      → openings.IsOpened disk did first second shelf limit found → IfOk result (λ server. IsOpened did first second shelf limit server)
  opened did limit (Ok server) of is = record {
    journal = found.journal;
    is = of.journal;
    has_journal = is.has_journal;
    entries = ap (λ (h : Host). h.entries) of.house;
    limit_is = ap (λ (h : Host). h.limit) of.house ∙ is.limit_is;
    has_files = subst (λ (h : Host). HasFiles did shelf h.entries h.uploads server.files.shelf) (sym of.house)
        (subst (λ (f : CachedShelf S). HasFiles did shelf found.journal.entries found.store.known f.shelf) (sym of.files) is.has_files);
    cache = ap (λ (f : CachedShelf S). f.cache) of.files;
  }
  opened did limit (Err stop) of is = tt

  pub stopped : (did : S → Call → S → Type 0) (limit : ℕ) (result : Result (Server S D disk) (NotOpened S D)) → IsMade result
      → openings.IsOpened disk did first second shelf limit found → IfErr result (λ stop. IsOpenFault disk did first second shelf limit stop.fault stop.first stop.second stop.shelf)
  stopped did limit (Ok server) of is = tt
  stopped did limit (Err stop) of is =
      let files = subst (HasFiles did shelf found.journal.entries found.store.known) (sym of.shelf) is.has_files in
      subst (λ (why : OpenFault). IsOpenFault disk did first second shelf limit why stop.first stop.second stop.shelf) (sym of.fault)
      (inr (found.journal, is.has_journal, of.first, of.second, inr (found.store.known, files)))

  pub kept : (had : List Entry) (result : Result (Server S D disk) (NotOpened S D)) → IsMade result → found.journal.entries.entries ≡ had
      → MatchResult result (λ server. server.house.entries.entries ≡ had) (λ stop. IsNoRecordFault stop.fault)
  kept had (Ok server) of is = ap (λ (h : Host). h.entries.entries) of.house ∙ is
  kept had (Err stop) of is = subst IsNoRecordFault (sym of.fault) tt

  pub any_moment : (order : Order) (had : List Entry) (next : Entry) (result : Result (Server S D disk) (NotOpened S D)) → IsMade result
      → LeavesNext disk.moment disk.left_since order had next first second found.journal.first found.journal.second
      → MatchResult result
      (λ server. (journal : Keeps D) → server.journal ≡ Some journal → LeavesNext disk.moment disk.left_since order had next first second journal.first journal.second)
      (λ stop. LeavesNext disk.moment disk.left_since order had next first second stop.first stop.second)
  any_moment order had next (Ok server) of leaves = λ journal is.
      let same : found.journal ≡ journal = cc (of.journal, is) in
      subst (λ (j : Keeps D). LeavesNext disk.moment disk.left_since order had next first second j.first j.second) same leaves
  any_moment order had next (Err stop) of leaves =
      subst (λ d. LeavesNext disk.moment disk.left_since order had next first second stop.first d) (sym of.second)
      (subst (λ d. LeavesNext disk.moment disk.left_since order had next first second d found.journal.second) (sym of.first) leaves)

  pub memory : (result : Result (Server S D disk) (NotOpened S D)) → IsMade result → openings.HasJournal disk first second found.journal
      → IfErr result (λ stop. stop.fault ≡ OutOfMemory → ReadsRecord (disk.seen first) (disk.seen second) ⊎ HadJournal disk first second stop.first stop.second)
  memory (Ok server) of has = tt
  memory (Err stop) of has = λ _. inr (record { journal = found.journal; has_journal = has; first_is = of.first; second_is = of.second })

  pub reason : (P : Type 0) (result : Result (Server S D disk) (NotOpened S D)) → IsMade result → IfErr result (λ stop. stop.fault ≡ JournalDevice → P)
  reason P (Ok server) of = tt
  reason P (Err stop) of = λ told. absurd (cc (of.fault, told))

  pub device : (failures : S → ℕ) (result : Result (Server S D disk) (NotOpened S D)) → IsMade result
      → IfErr result (λ stop. stop.fault ≡ BlobsDevice → failures shelf < failures stop.shelf)
  device failures (Ok server) of = tt
  device failures (Err stop) of = λ told. absurd (cc (of.fault, told))

  pub count : (failures : S → ℕ) (result : Result (Server S D disk) (NotOpened S D)) → IsMade result → failures shelf ≤ failures found.store.shelf
      → MatchResult result (λ server. failures shelf ≤ failures server.files.shelf) (λ stop. failures shelf ≤ failures stop.shelf)
  count failures (Ok server) of least = subst (λ (f : CachedShelf S). failures shelf ≤ failures f.shelf) (sym of.files) least
  count failures (Err stop) of least = subst (λ s. failures shelf ≤ failures s) (sym of.shelf) least
