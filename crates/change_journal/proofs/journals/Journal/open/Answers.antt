use Rattle.std.proofs.Common.{Err, inl, ap, sym, ◌∙◌, subst}
use Rattle.change_log.specs.Logs.{Log}
use Rattle.record_file.specs.Pairs.{first_of, second_of}
use Rattle.record_file.specs.Walks.{IsOnlyRead}
use Rattle.entry_texts.specs.Spells.{entry_text}
use Rattle.change_journal.specs.Files.{opened}
use Rattle.change_journal.specs.Texts.{AllStored, IsOne, LeavesNext, texts}
use Rattle.change_journal.proofs.JournalSteps.{all_stored}
use Rattle.change_journal.proofs.OpenedJournals.{found_had, found_texts, is_one, judged, none_taken, not_refused, opened_sound, opening_moments, stops_only}
use Rattle.change_journal.proofs.journals.Journal.open.Goals as goal

pub invariant_of-result : goal.invariant_of-result
invariant_of-result g c =
    let begun = none_taken c.new-collected.result.log c.new-collected.ensures in
    opened_sound g.D.Disk.seen g.D.Disk.may_leave c.open_ahead-first.new.bodies.log c.in-Ok.opened c.args.first c.args.second c.open_ahead-first.result.first c.open_ahead-first.result.second g.D.Disk.is_modelled c.at.result c.of.result.value c.of.ensures c.at.ensures.first c.at.ensures.second c.at.ensures.turned c.at.ensures.records.0 c.at.ensures.records.1
    (rw c.in-Ok.is at c.open_ahead-first.ensures.count begun) (λ modelled. (rw c.in-Ok.is at c.open_ahead-first.ensures.opened modelled begun))

pub returns-in-Ok-clause-found : goal.returns-in-Ok-clause-found
returns-in-Ok-clause-found g c modelled =
    let begun = none_taken c.new-collected.result.log c.new-collected.ensures in
    found_texts g.D.Disk.seen g.D.Disk.may_leave c.open_ahead-first.new.bodies.log c.in-Ok.opened c.args.first c.args.second c.open_ahead-first.result.first c.open_ahead-first.result.second (rw c.in-Ok.is at c.open_ahead-first.ensures.opened modelled begun)

pub returns-in-Ok-clause-exactly : goal.returns-in-Ok-clause-exactly
returns-in-Ok-clause-exactly g c modelled =
    let begun = none_taken c.new-collected.result.log c.new-collected.ensures in
    rw (c.at.ensures.first, c.at.ensures.second) (is_one g.D.Disk.seen g.D.Disk.may_leave c.open_ahead-first.new.bodies.log c.in-Ok.opened c.args.first c.args.second c.open_ahead-first.result.first c.open_ahead-first.result.second (rw c.in-Ok.is at c.open_ahead-first.ensures.opened modelled begun))

pub returns-in-Ok-clause-kept : goal.returns-in-Ok-clause-kept
returns-in-Ok-clause-kept g c modelled had few held =
    let begun = none_taken c.new-collected.result.log c.new-collected.ensures in
    found_had g.D.Disk.seen g.D.Disk.may_leave c.open_ahead-first.new.bodies.log c.in-Ok.opened c.args.first c.args.second c.open_ahead-first.result.first c.open_ahead-first.result.second (rw c.in-Ok.is at c.open_ahead-first.ensures.opened modelled begun) had held

pub returns-in-Err-clause-kept : goal.returns-in-Err-clause-kept
returns-in-Err-clause-kept g c modelled had few held =
    let begun = none_taken c.new-collected.result.log c.new-collected.ensures in
    stops_only c.in-Err.fault had (g.D.Disk.seen c.args.first) (g.D.Disk.seen c.args.second) few held (λ e. c.open_ahead-first.ensures.bad_header modelled (c.in-Err.is ∙ ap Err e)) (rw c.in-Err.is at c.open_ahead-first.ensures.bad_record modelled begun)

pub returns-in-Ok-clause-any_moment : goal.returns-in-Ok-clause-any_moment
returns-in-Ok-clause-any_moment g c modelled order had next left =
    let begun = none_taken c.new-collected.result.log c.new-collected.ensures in
    rw (c.at.ensures.first, c.at.ensures.second) (opening_moments g.D.Disk.moment g.D.Disk.left_since g.D.Disk.may_leave order c.args.first c.args.second c.open_ahead-first.result.first c.open_ahead-first.result.second had next left (λ put. c.open_ahead-first.ensures.any_moment modelled begun order (texts had) (entry_text next) put left.one left.other))

pub returns-in-Err-clause-any_moment : goal.returns-in-Err-clause-any_moment
returns-in-Err-clause-any_moment g c modelled order had next left =
    let begun = none_taken c.new-collected.result.log c.new-collected.ensures in
    opening_moments g.D.Disk.moment g.D.Disk.left_since g.D.Disk.may_leave order c.args.first c.args.second c.open_ahead-first.result.first c.open_ahead-first.result.second had next left (λ put. c.open_ahead-first.ensures.any_moment modelled begun order (texts had) (entry_text next) put left.one left.other)

pub returns-in-Ok-clause-refused : goal.returns-in-Ok-clause-refused
returns-in-Ok-clause-refused g c modelled refused =
    let begun = none_taken c.new-collected.result.log c.new-collected.ensures in
    not_refused g.D.Disk.seen g.D.Disk.may_leave c.open_ahead-first.new.bodies.log c.in-Ok.opened c.args.first c.args.second c.open_ahead-first.result.first c.open_ahead-first.result.second (rw c.in-Ok.is at c.open_ahead-first.ensures.opened modelled begun) c.in-Ok.opened.position.few refused

pub returns-in-Err-clause-refused : goal.returns-in-Err-clause-refused
returns-in-Err-clause-refused g c modelled refused =
    c.open_ahead-first.ensures.refused modelled (none_taken c.new-collected.result.log c.new-collected.ensures) refused

pub returns-in-Ok-clause-no_journal : goal.returns-in-Ok-clause-no_journal
returns-in-Ok-clause-no_journal g c modelled none =
    let begun = none_taken c.new-collected.result.log c.new-collected.ensures in
    not_refused g.D.Disk.seen g.D.Disk.may_leave c.open_ahead-first.new.bodies.log c.in-Ok.opened c.args.first c.args.second c.open_ahead-first.result.first c.open_ahead-first.result.second (rw c.in-Ok.is at c.open_ahead-first.ensures.opened modelled begun) c.in-Ok.opened.position.few (inl none)

pub returns-in-Err-clause-no_journal : goal.returns-in-Err-clause-no_journal
returns-in-Err-clause-no_journal g c modelled none =
    let begun = none_taken c.new-collected.result.log c.new-collected.ensures in
    judged c.in-Err.fault (g.D.Disk.seen c.args.first) (g.D.Disk.seen c.args.second) none (λ e. c.open_ahead-first.ensures.memory modelled begun (c.in-Err.is ∙ ap Err e)) (rw c.in-Err.is at c.open_ahead-first.ensures.bad_record modelled begun)

pub returns-in-Err-clause-bad_record : goal.returns-in-Err-clause-bad_record
returns-in-Err-clause-bad_record g c modelled =
    rw c.in-Err.is at c.open_ahead-first.ensures.bad_record modelled (none_taken c.new-collected.result.log c.new-collected.ensures)

pub returns-in-Ok-clause-old_first : goal.returns-in-Ok-clause-old_first
returns-in-Ok-clause-old_first g c modelled front = rw c.at.ensures.first (c.open_ahead-first.ensures.old_first modelled front)

pub returns-in-Ok-clause-old_second : goal.returns-in-Ok-clause-old_second
returns-in-Ok-clause-old_second g c modelled front = rw c.at.ensures.second (c.open_ahead-first.ensures.old_second modelled front)

pub returns-in-Ok-clause-stored : goal.returns-in-Ok-clause-stored
returns-in-Ok-clause-stored g c modelled =
    let sound = invariant_of-result g c in
    let disk = g.D.Disk in
    subst (λ (l : Log). AllStored (disk.may_leave (first_of c.at.result)) (disk.may_leave (second_of c.at.result)) l.entries) c.of.ensures
    (all_stored disk.moment disk.left_since disk.may_leave c.at.result c.of.result.value.entries sound.writable (sound.settled modelled c.at.ensures.records.1))

pub returns-in-Err-clause-memory : goal.returns-in-Err-clause-memory
returns-in-Err-clause-memory g c modelled out =
    c.open_ahead-first.ensures.memory modelled (none_taken c.new-collected.result.log c.new-collected.ensures) (c.in-Err.is ∙ ap Err out)

pub returns-in-Err-clause-reason : goal.returns-in-Err-clause-reason
returns-in-Err-clause-reason g c modelled refused failed =
    c.open_ahead-first.ensures.reason modelled (none_taken c.new-collected.result.log c.new-collected.ensures) refused (c.in-Err.is ∙ ap Err failed)
