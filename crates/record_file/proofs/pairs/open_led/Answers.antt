use Rattle.std.proofs.Common.{[], inl, inr, ⊎_elim, refl, arith}
use Rattle.record_file.specs.Frames.{MayHold}
use Rattle.record_file.specs.Pairs.{IsBeside, LeftOfFirst, LeftOfSecond, MayFollow, MayLead, first, second, none}
use Rattle.record_file.specs.Slots.{IsInUse, header_of, generation_of, old_header}
use Rattle.record_file.specs.Walks.{IsBadRecord}
use Rattle.record_file.proofs.LookSteps.{front_used}
use Rattle.record_file.proofs.PairSteps.{bad_front, first_leads, first_ready, is_header, neither_leads, neither_refused, either_turned, old_version, opened_turned, reads_lead, second_leads, second_ready, surveyed_same, surveyed_unused, turned_foreign, turned_reads}
use Rattle.record_file.proofs.Steps.{if_err, if_ok, weaker}
use Rattle.record_file.proofs.pairs.open_led.Goals as goal

pub returns-in-First-clause-opened : goal.returns-in-First-clause-opened
returns-in-First-clause-opened g c modelled surveyed has =
    let leads = rw c.in-First.is at c.requires in
    let ready = first_ready g.D.Disk.seen g.D.Disk.may_leave g.D.Disk.moment g.D.Disk.left_since c.in-First.version c.args.one c.args.other c.args.first.now c.args.second.now leads.0 leads.1 surveyed in
    rw c.in-First.is (c.open_read.ensures.opened modelled ready has)

pub returns-in-First-clause-bad_record : goal.returns-in-First-clause-bad_record
returns-in-First-clause-bad_record g c modelled surveyed has =
    let leads = rw c.in-First.is at c.requires in
    let ready = first_ready g.D.Disk.seen g.D.Disk.may_leave g.D.Disk.moment g.D.Disk.left_since c.in-First.version c.args.one c.args.other c.args.first.now c.args.second.now leads.0 leads.1 surveyed in
    if_err c.open_read.result _ _ (λ fault bad i is. first (generation_of c.in-First.version) (header_of c.in-First.version) (is_header c.in-First.version) (bad i is) ready.below) (c.open_read.ensures.bad modelled ready has)

pub returns-in-First-clause-refused : goal.returns-in-First-clause-refused
returns-in-First-clause-refused g c modelled surveyed has refused =
    let leads = rw c.in-First.is at c.requires in
    let ready = first_ready g.D.Disk.seen g.D.Disk.may_leave g.D.Disk.moment g.D.Disk.left_since c.in-First.version c.args.one c.args.other c.args.first.now c.args.second.now leads.0 leads.1 surveyed in
    ⊎_elim (λ foreign. absurd (surveyed_same c.in-First.version c.args.one.version c.args.other.version (g.D.Disk.seen c.args.first.now) (g.D.Disk.seen c.args.second.now) leads.0 leads.1 surveyed.one_is.use_is surveyed.other_is.use_is foreign)) (λ bad. c.open_read.ensures.refused modelled ready has (bad.0, (reads_lead (λ h f. IsBadRecord h (g.B.Bodies.is_lawful h) bad.0 f) (λ h. bad_front (g.B.Bodies.is_lawful h) bad.0 h) c.in-First.version (g.D.Disk.seen c.args.first.now) (g.D.Disk.seen c.args.second.now) ready.front ready.below bad.1))) refused

pub returns-in-First-clause-reason : goal.returns-in-First-clause-reason
returns-in-First-clause-reason g c modelled surveyed has refused told =
    let leads = rw c.in-First.is at c.requires in
    let ready = first_ready g.D.Disk.seen g.D.Disk.may_leave g.D.Disk.moment g.D.Disk.left_since c.in-First.version c.args.one c.args.other c.args.first.now c.args.second.now leads.0 leads.1 surveyed in
    ⊎_elim (λ foreign. absurd (surveyed_same c.in-First.version c.args.one.version c.args.other.version (g.D.Disk.seen c.args.first.now) (g.D.Disk.seen c.args.second.now) leads.0 leads.1 surveyed.one_is.use_is surveyed.other_is.use_is foreign)) (λ bad. inl (c.open_read.ensures.reason modelled ready has (bad.0, (reads_lead (λ h f. IsBadRecord h (g.B.Bodies.is_lawful h) bad.0 f) (λ h. bad_front (g.B.Bodies.is_lawful h) bad.0 h) c.in-First.version (g.D.Disk.seen c.args.first.now) (g.D.Disk.seen c.args.second.now) ready.front ready.below bad.1)) told)) refused

pub returns-in-First-clause-any_moment : goal.returns-in-First-clause-any_moment
returns-in-First-clause-any_moment g c modelled surveyed has order had body put one other =
    let leads = rw c.in-First.is at c.requires in
    let ready = first_ready g.D.Disk.seen g.D.Disk.may_leave g.D.Disk.moment g.D.Disk.left_since c.in-First.version c.args.one c.args.other c.args.first.now c.args.second.now leads.0 leads.1 surveyed in
    let is = first_leads c.in-First.version had body (g.D.Disk.seen c.args.first.now) (g.D.Disk.seen c.args.second.now) ready.front ready.below order one other in
    record {
      one = weaker g.D.Disk.moment g.D.Disk.left_since c.args.first.now c.open_read.new.read (MayHold (header_of c.in-First.version) had body) (LeftOfFirst order had body) is.1.0 (c.open_read.ensures.any_moment modelled ready has had body put is.0);
      other = weaker g.D.Disk.moment g.D.Disk.left_since c.args.second.now c.open_read.new.other (IsBeside c.in-First.version (MayLead 1 had body) (g.D.Disk.seen c.args.second.now)) (LeftOfSecond order had body) is.1.1 (c.open_read.ensures.any_moment_beside modelled ready has had body put is.0);
    }

pub returns-in-First-clause-memory : goal.returns-in-First-clause-memory
returns-in-First-clause-memory g c modelled surveyed has out =
    let leads = rw c.in-First.is at c.requires in
    let ready = first_ready g.D.Disk.seen g.D.Disk.may_leave g.D.Disk.moment g.D.Disk.left_since c.in-First.version c.args.one c.args.other c.args.first.now c.args.second.now leads.0 leads.1 surveyed in
    first (generation_of c.in-First.version) (header_of c.in-First.version) (is_header c.in-First.version) (c.open_read.ensures.memory modelled ready has out) ready.below

pub returns-in-First-clause-old_first : goal.returns-in-First-clause-old_first
returns-in-First-clause-old_first g c modelled surveyed front =
    let leads = rw c.in-First.is at c.requires in
    let ready = first_ready g.D.Disk.seen g.D.Disk.may_leave g.D.Disk.moment g.D.Disk.left_since c.in-First.version c.args.one c.args.other c.args.first.now c.args.second.now leads.0 leads.1 surveyed in
    c.open_read.ensures.old modelled (old_version c.in-First.version (g.D.Disk.seen c.args.first.now) ready.front front)

pub returns-in-First-clause-old_second : goal.returns-in-First-clause-old_second
returns-in-First-clause-old_second g c modelled surveyed front =
    let leads = rw c.in-First.is at c.requires in
    let ready = first_ready g.D.Disk.seen g.D.Disk.may_leave g.D.Disk.moment g.D.Disk.left_since c.in-First.version c.args.one c.args.other c.args.first.now c.args.second.now leads.0 leads.1 surveyed in
    c.open_read.ensures.used modelled ready (front_used old_header (g.D.Disk.seen c.args.second.now) front)

pub returns-in-Second-clause-opened : goal.returns-in-Second-clause-opened
returns-in-Second-clause-opened g c modelled surveyed has =
    let leads = rw c.in-Second.is at c.requires in
    let ready = second_ready g.D.Disk.seen g.D.Disk.may_leave g.D.Disk.moment g.D.Disk.left_since c.in-Second.version c.args.one c.args.other c.args.first.now c.args.second.now leads.0 leads.1 surveyed in
    rw c.in-Second.is (if_ok c.open_read-in-Second.result _ _ (λ position opened. opened_turned _ _ _ _ _ _ c.in-Second.version _ _ _ _ opened) (c.open_read-in-Second.ensures.opened modelled ready has))

pub returns-in-Second-clause-bad_record : goal.returns-in-Second-clause-bad_record
returns-in-Second-clause-bad_record g c modelled surveyed has =
    let leads = rw c.in-Second.is at c.requires in
    let ready = second_ready g.D.Disk.seen g.D.Disk.may_leave g.D.Disk.moment g.D.Disk.left_since c.in-Second.version c.args.one c.args.other c.args.first.now c.args.second.now leads.0 leads.1 surveyed in
    if_err c.open_read-in-Second.result _ _ (λ fault bad i is. second (generation_of c.in-Second.version) (header_of c.in-Second.version) (is_header c.in-Second.version) (bad i is) ready.below) (c.open_read-in-Second.ensures.bad modelled ready has)

pub returns-in-Second-clause-unwritten : goal.returns-in-Second-clause-unwritten
returns-in-Second-clause-unwritten g c modelled =
    if_err c.open_read-in-Second.result _ _ (λ fault unwritten not. let both = unwritten not in record { one = both.other; other = both.one }) (c.open_read-in-Second.ensures.unwritten modelled)

pub returns-in-Second-clause-refused : goal.returns-in-Second-clause-refused
returns-in-Second-clause-refused g c modelled surveyed has refused =
    let leads = rw c.in-Second.is at c.requires in
    let ready = second_ready g.D.Disk.seen g.D.Disk.may_leave g.D.Disk.moment g.D.Disk.left_since c.in-Second.version c.args.one c.args.other c.args.first.now c.args.second.now leads.0 leads.1 surveyed in
    ⊎_elim (λ foreign. absurd (surveyed_same c.in-Second.version c.args.other.version c.args.one.version (g.D.Disk.seen c.args.second.now) (g.D.Disk.seen c.args.first.now) leads.0 leads.1 surveyed.other_is.use_is surveyed.one_is.use_is (turned_foreign _ _ foreign))) (λ bad. let both = c.open_read-in-Second.ensures.refused modelled ready has (bad.0, (reads_lead (λ h f. IsBadRecord h (g.B.Bodies.is_lawful h) bad.0 f) (λ h. bad_front (g.B.Bodies.is_lawful h) bad.0 h) c.in-Second.version (g.D.Disk.seen c.args.second.now) (g.D.Disk.seen c.args.first.now) ready.front ready.below (turned_reads _ _ _ bad.1))) in record { one = both.other; other = both.one }) refused

pub returns-in-Second-clause-reason : goal.returns-in-Second-clause-reason
returns-in-Second-clause-reason g c modelled surveyed has refused told =
    let leads = rw c.in-Second.is at c.requires in
    let ready = second_ready g.D.Disk.seen g.D.Disk.may_leave g.D.Disk.moment g.D.Disk.left_since c.in-Second.version c.args.one c.args.other c.args.first.now c.args.second.now leads.0 leads.1 surveyed in
    ⊎_elim (λ foreign. absurd (surveyed_same c.in-Second.version c.args.other.version c.args.one.version (g.D.Disk.seen c.args.second.now) (g.D.Disk.seen c.args.first.now) leads.0 leads.1 surveyed.other_is.use_is surveyed.one_is.use_is (turned_foreign _ _ foreign))) (λ bad. inr (c.open_read-in-Second.ensures.reason modelled ready has (bad.0, (reads_lead (λ h f. IsBadRecord h (g.B.Bodies.is_lawful h) bad.0 f) (λ h. bad_front (g.B.Bodies.is_lawful h) bad.0 h) c.in-Second.version (g.D.Disk.seen c.args.second.now) (g.D.Disk.seen c.args.first.now) ready.front ready.below (turned_reads _ _ _ bad.1))) told)) refused

pub returns-in-Second-clause-any_moment : goal.returns-in-Second-clause-any_moment
returns-in-Second-clause-any_moment g c modelled surveyed has order had body put one other =
    let leads = rw c.in-Second.is at c.requires in
    let ready = second_ready g.D.Disk.seen g.D.Disk.may_leave g.D.Disk.moment g.D.Disk.left_since c.in-Second.version c.args.one c.args.other c.args.first.now c.args.second.now leads.0 leads.1 surveyed in
    let is = second_leads c.in-Second.version had body (g.D.Disk.seen c.args.second.now) (g.D.Disk.seen c.args.first.now) ready.front ready.below order one other in
    record {
      one = weaker g.D.Disk.moment g.D.Disk.left_since c.args.first.now c.open_read-in-Second.new.other (IsBeside c.in-Second.version (MayLead 1 had body) (g.D.Disk.seen c.args.first.now)) (LeftOfFirst order had body) is.1.1 (c.open_read-in-Second.ensures.any_moment_beside modelled ready has had body put is.0);
      other = weaker g.D.Disk.moment g.D.Disk.left_since c.args.second.now c.open_read-in-Second.new.read (MayHold (header_of c.in-Second.version) had body) (LeftOfSecond order had body) is.1.0 (c.open_read-in-Second.ensures.any_moment modelled ready has had body put is.0);
    }

pub returns-in-Second-clause-memory : goal.returns-in-Second-clause-memory
returns-in-Second-clause-memory g c modelled surveyed has out =
    let leads = rw c.in-Second.is at c.requires in
    let ready = second_ready g.D.Disk.seen g.D.Disk.may_leave g.D.Disk.moment g.D.Disk.left_since c.in-Second.version c.args.one c.args.other c.args.first.now c.args.second.now leads.0 leads.1 surveyed in
    second (generation_of c.in-Second.version) (header_of c.in-Second.version) (is_header c.in-Second.version) (c.open_read-in-Second.ensures.memory modelled ready has out) ready.below

pub returns-in-Second-clause-old_second : goal.returns-in-Second-clause-old_second
returns-in-Second-clause-old_second g c modelled surveyed front =
    let leads = rw c.in-Second.is at c.requires in
    let ready = second_ready g.D.Disk.seen g.D.Disk.may_leave g.D.Disk.moment g.D.Disk.left_since c.in-Second.version c.args.one c.args.other c.args.first.now c.args.second.now leads.0 leads.1 surveyed in
    c.open_read-in-Second.ensures.old modelled (old_version c.in-Second.version (g.D.Disk.seen c.args.second.now) ready.front front)

pub returns-in-Second-clause-old_first : goal.returns-in-Second-clause-old_first
returns-in-Second-clause-old_first g c modelled surveyed front =
    let leads = rw c.in-Second.is at c.requires in
    let ready = second_ready g.D.Disk.seen g.D.Disk.may_leave g.D.Disk.moment g.D.Disk.left_since c.in-Second.version c.args.one c.args.other c.args.first.now c.args.second.now leads.0 leads.1 surveyed in
    c.open_read-in-Second.ensures.used modelled ready (front_used old_header (g.D.Disk.seen c.args.first.now) front)

pub returns-in-Second-clause-cause : goal.returns-in-Second-clause-cause
returns-in-Second-clause-cause g c = either_turned c.open_read-in-Second.result _ _ _ _ c.open_read-in-Second.ensures.cause

-- ---- neither is in use

pub returns-in-Neither-clause-opened : goal.returns-in-Neither-clause-opened
returns-in-Neither-clause-opened g c modelled surveyed has =
    let leads = rw c.in-Neither.is at c.requires in
    let one_unused = surveyed_unused c.args.one.version (g.D.Disk.seen c.args.first.now) leads.0 surveyed.one_is.use_is in
    let other_unused = surveyed_unused c.args.other.version (g.D.Disk.seen c.args.second.now) leads.1 surveyed.other_is.use_is in
    rw c.in-Neither.is (if_ok c.open_neither.result _ _ (λ position made. record {
      bodies = [];
      has = has;
      found = none refl one_unused other_unused;
      made = made;
    }) (c.open_neither.ensures.made modelled surveyed.one_is.size_is surveyed.one_only))

pub returns-in-Neither-clause-count : goal.returns-in-Neither-clause-count
returns-in-Neither-clause-count g c has =
    if_ok c.open_neither.result _ _ (λ position is. record { taken = []; has = has; count_is = is }) c.open_neither.ensures.count

pub returns-in-Neither-clause-refused : goal.returns-in-Neither-clause-refused
returns-in-Neither-clause-refused g c modelled surveyed has refused =
    let leads = rw c.in-Neither.is at c.requires in
    let one_unused = surveyed_unused c.args.one.version (g.D.Disk.seen c.args.first.now) leads.0 surveyed.one_is.use_is in
    let other_unused = surveyed_unused c.args.other.version (g.D.Disk.seen c.args.second.now) leads.1 surveyed.other_is.use_is in
    absurd (neither_refused g.B.Bodies.is_lawful (g.D.Disk.seen c.args.first.now) (g.D.Disk.seen c.args.second.now) one_unused other_unused refused)

pub returns-in-Neither-clause-reason : goal.returns-in-Neither-clause-reason
returns-in-Neither-clause-reason g c modelled surveyed has refused told =
    let leads = rw c.in-Neither.is at c.requires in
    let one_unused = surveyed_unused c.args.one.version (g.D.Disk.seen c.args.first.now) leads.0 surveyed.one_is.use_is in
    let other_unused = surveyed_unused c.args.other.version (g.D.Disk.seen c.args.second.now) leads.1 surveyed.other_is.use_is in
    absurd (neither_refused g.B.Bodies.is_lawful (g.D.Disk.seen c.args.first.now) (g.D.Disk.seen c.args.second.now) one_unused other_unused refused)

pub returns-in-Neither-clause-any_moment : goal.returns-in-Neither-clause-any_moment
returns-in-Neither-clause-any_moment g c modelled surveyed has order had body put one other =
    let leads = rw c.in-Neither.is at c.requires in
    let one_unused = surveyed_unused c.args.one.version (g.D.Disk.seen c.args.first.now) leads.0 surveyed.one_is.use_is in
    let other_unused = surveyed_unused c.args.other.version (g.D.Disk.seen c.args.second.now) leads.1 surveyed.other_is.use_is in
    let is = neither_leads had body (g.D.Disk.seen c.args.first.now) (g.D.Disk.seen c.args.second.now) order one_unused other_unused one other in
    record {
      one = weaker g.D.Disk.moment g.D.Disk.left_since c.args.first.now c.open_neither.new.first (λ f. IsInUse f → ⊥) (LeftOfFirst order had body) is.0 (c.open_neither.ensures.any_moment modelled surveyed.one_is.size_is one_unused surveyed.one_only);
      other = weaker g.D.Disk.moment g.D.Disk.left_since c.args.second.now c.open_neither.new.second (MayFollow 0 [] body) (LeftOfSecond order had body) is.1 (c.open_neither.ensures.any_moment_beside modelled surveyed.other_is.size_is other_unused surveyed.other_only body);
    }

pub returns-in-Neither-clause-old_first : goal.returns-in-Neither-clause-old_first
returns-in-Neither-clause-old_first g c modelled surveyed front =
    let leads = rw c.in-Neither.is at c.requires in
    let one_unused = surveyed_unused c.args.one.version (g.D.Disk.seen c.args.first.now) leads.0 surveyed.one_is.use_is in
    let other_unused = surveyed_unused c.args.other.version (g.D.Disk.seen c.args.second.now) leads.1 surveyed.other_is.use_is in
    absurd (one_unused (front_used old_header (g.D.Disk.seen c.args.first.now) front))

pub returns-in-Neither-clause-old_second : goal.returns-in-Neither-clause-old_second
returns-in-Neither-clause-old_second g c modelled surveyed front =
    let leads = rw c.in-Neither.is at c.requires in
    let one_unused = surveyed_unused c.args.one.version (g.D.Disk.seen c.args.first.now) leads.0 surveyed.one_is.use_is in
    let other_unused = surveyed_unused c.args.other.version (g.D.Disk.seen c.args.second.now) leads.1 surveyed.other_is.use_is in
    absurd (other_unused (front_used old_header (g.D.Disk.seen c.args.second.now) front))
