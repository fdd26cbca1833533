use Rattle.std.proofs.Common.{◌≡◌, ◌⊎◌, ◌∙◌, inl, inr, refl, ap, subst, sym}
use Rattle.blob_store.specs.Files.{Store}
use Rattle.change_journal.specs.Held.{Keeps}
use Rattle.change_journal.specs.Texts.{LeavesNext}
use Rattle.found_host.specs.Openings.{HasFiles, HasJournal, IsHostFault, IsJournalFault}
use Rattle.found_host.specs.declared.faults.OpenFault.TheVariants.{BadHeader, JournalDevice}
use Rattle.found_host.proofs.Opened.{has_journal, journal_stops, told_as_none, was_device, was_memory}
use Rattle.found_host.proofs.found.Found.open.Goals as goal

pub returns-in-Ok-find_history-clause-opened : goal.returns-in-Ok-find_history-clause-opened
returns-in-Ok-find_history-clause-opened g c =
    let did = g.S.Shelf.did in
    let found = c.in-Ok.ensures in
    let made = c.in-Ok-find_history.ensures in
    let blobs = c.in-Ok-find_history.blobs in
    let held = has_journal g.D.Disk c.args.first c.args.second c.in-Ok.opened.0 c.in-Ok.opened.1 found.entries found.whole found.found found.stored found.cause in
    let entries : c.of.result.journal.entries ≡ c.in-Ok.opened.1 = ap (λ (j : Keeps g.row.D.Denot). j.entries) c.of.ensures.journal ∙ found.entries.0 in
    let files = subst (λ log. HasFiles did c.args.shelf log blobs.known blobs.shelf) (sym entries) made.files in
    record {
      has_journal = subst (λ (j : Keeps g.row.D.Denot). HasJournal g.D.Disk c.args.first c.args.second j) (sym c.of.ensures.journal) held;
      limit_is = c.of.ensures.limit ∙ made.replayed.limit_is;
      has_files = subst (λ (s : Store g.row.S.Denot). HasFiles did c.args.shelf c.of.result.journal.entries s.known s.shelf) (sym c.of.ensures.store) files;
    }

pub returns-in-Ok-find_history-clause-any_moment : goal.returns-in-Ok-find_history-clause-any_moment
returns-in-Ok-find_history-clause-any_moment g c modelled order had next left =
    let disk = g.D.Disk in
    subst (λ (j : Keeps g.row.D.Denot). LeavesNext disk.moment disk.left_since order had next c.args.first c.args.second j.first j.second) (sym c.of.ensures.journal)
    (c.in-Ok.ensures.any_moment modelled order had next left)

pub returns-in-Err-clause-fault : goal.returns-in-Err-clause-fault
returns-in-Err-clause-fault g c =
    let stop = c.in-Err.stop in
    let told = c.in-Err.ensures in
    inl (
      subst (λ why. IsJournalFault g.D.Disk c.args.first c.args.second why stop.first stop.second) (sym c.of_journal.ensures)
          (journal_stops g.D.Disk c.args.first c.args.second stop.fault stop.first stop.second told.bad_header told.bad_record told.unwritten told.refused told.cause),
      refl,
    )

pub returns-clause-fault : goal.returns-clause-fault
returns-clause-fault g c =
    let journal = c.in-Ok.opened.0 in
    let found = c.in-Ok.ensures in
    let stop = c.in-Err-find_history.stop in
    let held = has_journal g.D.Disk c.args.first c.args.second journal c.in-Ok.opened.1 found.entries found.whole found.found found.stored found.cause in
    let why = subst (λ entries. IsHostFault g.S.Shelf.did c.args.shelf c.args.limit entries stop.fault stop.shelf) (sym found.entries.0) c.in-Err-find_history.ensures.fault in
    rw (c.without_host.ensures.shelf.0, c.without_host.ensures.shelf.1) (inr (journal, held, c.without_host.ensures.disks.0, c.without_host.ensures.disks.1, why))

pub returns-clause-any_moment : goal.returns-clause-any_moment
returns-clause-any_moment g c modelled order had next left =
    rw (c.without_host.ensures.disks.0, c.without_host.ensures.disks.1) (c.in-Ok.ensures.any_moment modelled order had next left)

pub returns-in-Err-clause-memory : goal.returns-in-Err-clause-memory
returns-in-Err-clause-memory g c modelled told = inl (c.in-Err.ensures.memory modelled (was_memory c.in-Err.stop.fault (sym c.of_journal.ensures ∙ told)))

pub returns-in-Err-clause-no_journal : goal.returns-in-Err-clause-no_journal
returns-in-Err-clause-no_journal g c modelled none =
    subst (λ why. (why ≡ BadHeader) ⊎ (why ≡ JournalDevice)) (sym c.of_journal.ensures) (told_as_none c.in-Err.stop.fault (c.in-Err.ensures.no_journal modelled none))

pub returns-in-Err-clause-reason : goal.returns-in-Err-clause-reason
returns-in-Err-clause-reason g c modelled refused told = c.in-Err.ensures.reason modelled refused (was_device c.in-Err.stop.fault (sym c.of_journal.ensures ∙ told))

pub returns-in-Ok-find_history-clause-no_journal : goal.returns-in-Ok-find_history-clause-no_journal
returns-in-Ok-find_history-clause-no_journal g c modelled none = c.in-Ok.ensures.no_journal modelled none

pub returns-clause-memory : goal.returns-clause-memory
returns-clause-memory g c modelled told =
    let journal = c.in-Ok.opened.0 in
    let found = c.in-Ok.ensures in
    inr (record {
      journal = journal;
      has_journal = has_journal g.D.Disk c.args.first c.args.second journal c.in-Ok.opened.1 found.entries found.whole found.found found.stored found.cause;
      first_is = c.without_host.ensures.disks.0;
      second_is = c.without_host.ensures.disks.1;
    })

pub returns-clause-no_journal : goal.returns-clause-no_journal
returns-clause-no_journal g c modelled none = absurd (c.in-Ok.ensures.no_journal modelled none)

pub returns-clause-reason : goal.returns-clause-reason
returns-clause-reason g c modelled refused told = absurd (c.in-Ok.ensures.refused modelled refused)
