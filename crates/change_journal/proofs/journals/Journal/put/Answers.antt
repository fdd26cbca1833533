use Rattle.std.proofs.Common.{ap, sym, ◌∙◌, Err}
use Rattle.change_log.specs.Logs.{with_entry}
use Rattle.std.proofs.lemmas.Bool.{false≢true}
use Rattle.site_change.specs.declared.entries.Entry.{Entry}
use Rattle.change_journal.specs.Held.{entries_of}
use Rattle.change_journal.specs.declared.held.Held.{Held}
use Rattle.record_file.specs.declared.positions.Position.{Position}
use Rattle.record_file.specs.Pairs.{first_of, order_of, second_of}
use Rattle.record_file.proofs.Steps.{same_error}
use Rattle.change_journal.proofs.JournalSteps.{all_stored, record_length, next_moments, held_moments, order_new, put_fails, sound_with, torn_put, was_whole}
use Rattle.change_journal.proofs.journals.Journal.put.Goals as goal

pub put-requires-clause-long : goal.put-requires-clause-long
put-requires-clause-long g c = (record_length c.args.prepared c.bytes.result.now c.bytes.ensures).0

pub put-requires-clause-short : goal.put-requires-clause-short
put-requires-clause-short g c = (record_length c.args.prepared c.bytes.result.now c.bytes.ensures).1

pub returns-in_err-put-clause-any_moment : goal.returns-in_err-put-clause-any_moment
returns-in_err-put-clause-any_moment g c = rw (← c.self.view_is) (λ modelled whole. next_moments g.D.Disk.moment g.D.Disk.left_since g.D.Disk.may_leave (order_of c.self.inside.slots.turned) (first_of c.self.inside.slots) (second_of c.self.inside.slots) (first_of c.put.new.self) (second_of c.put.new.self) _ c.args.prepared c.self.invariant.writable c.bytes.ensures.writable (order_new c.self.inside.slots.turned) (c.put.ensures.any_moment modelled _ _ c.bytes.ensures.is (c.self.invariant.settled modelled whole)))

pub returns-in_err-put-clause-held : goal.returns-in_err-put-clause-held
returns-in_err-put-clause-held g c = rw (← c.self.view_is) (λ modelled whole. held_moments g.D.Disk.moment g.D.Disk.left_since g.D.Disk.may_leave (order_of c.self.inside.slots.turned) (first_of c.self.inside.slots) (second_of c.self.inside.slots) (first_of c.put.new.self) (second_of c.put.new.self) _ c.args.prepared c.self.invariant.writable c.bytes.ensures.writable (order_new c.self.inside.slots.turned) (c.put.ensures.any_moment modelled _ _ c.bytes.ensures.is (c.self.invariant.settled modelled whole)))

pub returns-clause-any_moment : goal.returns-clause-any_moment
returns-clause-any_moment g c = rw (← c.self.view_is) (λ modelled whole. next_moments g.D.Disk.moment g.D.Disk.left_since g.D.Disk.may_leave (order_of c.self.inside.slots.turned) (first_of c.self.inside.slots) (second_of c.self.inside.slots) (first_of c.put.new.self) (second_of c.put.new.self) _ c.args.prepared c.self.invariant.writable c.bytes.ensures.writable (order_new c.self.inside.slots.turned) (c.put.ensures.any_moment modelled _ _ c.bytes.ensures.is (c.self.invariant.settled modelled whole)))

pub returns-clause-held : goal.returns-clause-held
returns-clause-held g c = rw (← c.self.view_is) (λ modelled whole. held_moments g.D.Disk.moment g.D.Disk.left_since g.D.Disk.may_leave (order_of c.self.inside.slots.turned) (first_of c.self.inside.slots) (second_of c.self.inside.slots) (first_of c.put.new.self) (second_of c.put.new.self) _ c.args.prepared c.self.invariant.writable c.bytes.ensures.writable (order_new c.self.inside.slots.turned) (c.put.ensures.any_moment modelled _ _ c.bytes.ensures.is (c.self.invariant.settled modelled whole)))

pub invariant_of-self : goal.invariant_of-self
invariant_of-self g c =
    let was = c.self.inside.slots in
    let now = c.put.new.self in
    let broken = c.in_err-put.ensures.breaks in
    record {
      whole = c.self.invariant.whole;
      writable = c.self.invariant.writable;
      count = ap (λ (p : Position). p.count) c.in_err-put.ensures.position ∙ c.self.invariant.count;
      settled = λ modelled whole. absurd (false≢true (sym whole ∙ broken));
      torn = λ modelled is.
          torn_put g.D.Disk.moment g.D.Disk.left_since g.D.Disk.may_leave (λ d t f later left. g.met.D.Disk.counts_now d t f modelled later left) was now _ c.args.prepared c.self.invariant.writable c.bytes.ensures.writable
          (λ failed. c.self.invariant.torn modelled failed) (λ failed. (c.put.ensures.refused failed).1) (λ whole. c.put.ensures.any_moment modelled _ _ c.bytes.ensures.is (c.self.invariant.settled modelled whole));
    }

pub invariant_of-self-2 : goal.invariant_of-self-2
invariant_of-self-2 g c =
    let was = c.self.invariant in
    let held = c.self.inside.held in
    let put = c.in_ok-put.ensures in
    let more = ap (λ (h : Held). with_entry (entries_of h) c.of-2.result.value) c.of.ensures ∙ ap (λ (e : Entry). with_entry (entries_of held) e) c.of-2.ensures in
    sound_with g.D.Disk.is_modelled g.D.Disk.may_leave c.self.inside.slots c.put.new.self (entries_of held) _ c.args.prepared more was.whole was.writable c.bytes.ensures.writable was.count put.position put.breaks (λ failed. (c.put.ensures.refused failed).1)
    was.settled (λ modelled settled. put.stored modelled _ _ c.bytes.ensures.is settled)

pub returns-clause-stored : goal.returns-clause-stored
returns-clause-stored g c modelled =
    let sound = invariant_of-self-2 g c in
    all_stored g.D.Disk.moment g.D.Disk.left_since g.D.Disk.may_leave c.put.new.self _ sound.writable (sound.settled modelled c.in_ok-put.ensures.breaks)

pub returns-in_err-put-clause-reason : goal.returns-in_err-put-clause-reason
returns-in_err-put-clause-reason g c = rw (← c.self.view_is) (λ modelled is.
    let fault = c.in_err-put.field-0.0 in
    let told = same_error c.from_residual.result fault _ c.from_residual.ensures.1 is in
    let whole = was_whole c.self.inside.slots.records.broken fault (λ failed. (c.in_err-put.ensures.refused failed).0) told in
    put_fails g.D.Disk.seen g.D.Disk.may_fail _ c.args.prepared c.bytes.result.now c.bytes.ensures
    (c.in_err-put.ensures.reason modelled _ _ c.bytes.ensures.is (c.self.invariant.settled modelled whole) (ap Err told)))
