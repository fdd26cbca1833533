use Rattle.std.proofs.Common.{Err, inl, inr, ⊎_elim, sym, ap, subst}
use Rattle.host_disk.proofs.Runs.{and_then}
use Rattle.record_file.specs.Pairs.{AreRefused, LeftOfFirst, LeftOfSecond, ReadsBad, ReadsRecord}
use Rattle.record_file.specs.Slots.{HasFront, old_header}
use Rattle.record_file.proofs.PairSteps.{on_both, opened_on, same_foreign, surveyed_now}
use Rattle.record_file.proofs.Steps.{same_error, same_fault, weaker}
use Rattle.record_file.proofs.WalkSteps.{read_on}
use Rattle.record_file.proofs.pairs.open_both.Goals as goal

-- ---- the survey failed

pub returns-in_err-one-clause-bad_header : goal.returns-in_err-one-clause-bad_header
returns-in_err-one-clause-bad_header g c modelled bad =
    let told = same_error c.from_residual.result c.in_err-one.field-0.0 _ c.from_residual.ensures.1 bad in
    ⊎_elim (λ foreign. inl foreign) (λ foreign. inr (inl foreign)) (c.in_err-one.ensures.bad modelled (ap Err told))

pub returns-in_err-one-clause-bad_record : goal.returns-in_err-one-clause-bad_record
returns-in_err-one-clause-bad_record g c modelled has = same_fault c.from_residual.result c.in_err-one.field-0.0 _ c.from_residual.ensures.1 (λ i is. absurd (c.in_err-one.ensures.fault i is))

pub returns-in_err-one-clause-unwritten : goal.returns-in_err-one-clause-unwritten
returns-in_err-one-clause-unwritten g c modelled = same_fault c.from_residual.result c.in_err-one.field-0.0 _ c.from_residual.ensures.1 (λ not. record { one = (c.survey_both.ensures.same_first modelled); other = (c.survey_both.ensures.same_second modelled) })

pub returns-in_err-one-clause-refused : goal.returns-in_err-one-clause-refused
returns-in_err-one-clause-refused g c modelled has refused = record { one = (c.survey_both.ensures.same_first modelled); other = (c.survey_both.ensures.same_second modelled) }

pub returns-in_err-one-clause-any_moment : goal.returns-in_err-one-clause-any_moment
returns-in_err-one-clause-any_moment g c modelled has order had body put one other = record {
  one = weaker g.D.Disk.moment g.D.Disk.left_since c.args.first.now c.survey_both.new.first (g.D.Disk.may_leave c.args.first.now) (LeftOfFirst order had body) one (c.survey_both.ensures.same_first modelled).time;
  other = weaker g.D.Disk.moment g.D.Disk.left_since c.args.second.now c.survey_both.new.second (g.D.Disk.may_leave c.args.second.now) (LeftOfSecond order had body) other (c.survey_both.ensures.same_second modelled).time;
}

pub returns-in_err-one-clause-memory : goal.returns-in_err-one-clause-memory
returns-in_err-one-clause-memory g c modelled has out = absurd (c.in_err-one.ensures.memory (ap Err (same_error c.from_residual.result c.in_err-one.field-0.0 _ c.from_residual.ensures.1 out)))

pub returns-in_err-one-clause-reason : goal.returns-in_err-one-clause-reason
returns-in_err-one-clause-reason g c modelled has refused told = c.in_err-one.ensures.reason modelled (ap Err (same_error c.from_residual.result c.in_err-one.field-0.0 _ c.from_residual.ensures.1 told))

-- ---- both have one generation

pub returns-in_err-leader-clause-bad_header : goal.returns-in_err-leader-clause-bad_header
returns-in_err-leader-clause-bad_header g c modelled bad =
    let found = c.in_ok-one.ensures.found modelled in
    same_foreign c.in_ok-one.one.version c.in_ok-one.other.version (g.D.Disk.seen c.args.first.now) (g.D.Disk.seen c.args.second.now) c.in_err-leader.ensures.same.0 c.in_err-leader.ensures.same.1 found.0.use_is found.1.use_is

pub returns-in_err-leader-clause-bad_record : goal.returns-in_err-leader-clause-bad_record
returns-in_err-leader-clause-bad_record g c modelled has = same_fault c.from_residual-in_err-leader.result c.in_err-leader.field-0.0 _ c.from_residual-in_err-leader.ensures.1 (λ i is. absurd (cc (is, c.in_err-leader.ensures.fault)))

pub returns-in_err-leader-clause-unwritten : goal.returns-in_err-leader-clause-unwritten
returns-in_err-leader-clause-unwritten g c modelled = same_fault c.from_residual-in_err-leader.result c.in_err-leader.field-0.0 _ c.from_residual-in_err-leader.ensures.1 (λ not. record { one = (c.survey_both.ensures.same_first modelled); other = (c.survey_both.ensures.same_second modelled) })

pub returns-in_err-leader-clause-refused : goal.returns-in_err-leader-clause-refused
returns-in_err-leader-clause-refused g c modelled has refused = record { one = (c.survey_both.ensures.same_first modelled); other = (c.survey_both.ensures.same_second modelled) }

pub returns-in_err-leader-clause-any_moment : goal.returns-in_err-leader-clause-any_moment
returns-in_err-leader-clause-any_moment g c modelled has order had body put one other = record {
  one = weaker g.D.Disk.moment g.D.Disk.left_since c.args.first.now c.survey_both.new.first (g.D.Disk.may_leave c.args.first.now) (LeftOfFirst order had body) one (c.survey_both.ensures.same_first modelled).time;
  other = weaker g.D.Disk.moment g.D.Disk.left_since c.args.second.now c.survey_both.new.second (g.D.Disk.may_leave c.args.second.now) (LeftOfSecond order had body) other (c.survey_both.ensures.same_second modelled).time;
}

pub returns-in_err-leader-clause-memory : goal.returns-in_err-leader-clause-memory
returns-in_err-leader-clause-memory g c modelled has out = absurd (cc (same_error c.from_residual-in_err-leader.result c.in_err-leader.field-0.0 _ c.from_residual-in_err-leader.ensures.1 out, c.in_err-leader.ensures.fault))

pub returns-in_err-leader-clause-reason : goal.returns-in_err-leader-clause-reason
returns-in_err-leader-clause-reason g c modelled has refused told = absurd (cc (same_error c.from_residual-in_err-leader.result c.in_err-leader.field-0.0 _ c.from_residual-in_err-leader.ensures.1 told, c.in_err-leader.ensures.fault))

-- ---- one was read, or neither

pub returns-in_err-position-clause-bad_header : goal.returns-in_err-position-clause-bad_header
returns-in_err-position-clause-bad_header g c modelled bad = absurd (c.in_err-position.ensures.header (ap Err (same_error c.from_residual-in_err-position.result c.in_err-position.field-0.0 _ c.from_residual-in_err-position.ensures.1 bad)))

pub returns-in_err-position-clause-bad_record : goal.returns-in_err-position-clause-bad_record
returns-in_err-position-clause-bad_record g c modelled has =
    let one_reads = c.survey_both.ensures.same_first modelled in
    let other_reads = c.survey_both.ensures.same_second modelled in
    let only = c.in_ok-one.ensures.durable modelled in
    let found = c.in_ok-one.ensures.found modelled in
    let surveyed = surveyed_now g.D.Disk.seen g.D.Disk.may_leave g.D.Disk.moment g.D.Disk.left_since c.in_ok-one.one c.in_ok-one.other c.args.first.now c.args.second.now c.survey_both.new.first c.survey_both.new.second one_reads other_reads found.0 found.1 only.0 only.1 in
    same_fault c.from_residual-in_err-position.result c.in_err-position.field-0.0 _ c.from_residual-in_err-position.ensures.1 (λ i is. on_both (ReadsBad g.B.Bodies.is_lawful i) _ _ _ _ one_reads.same other_reads.same (c.in_err-position.ensures.bad_record modelled surveyed has i is))

pub returns-in_err-position-clause-unwritten : goal.returns-in_err-position-clause-unwritten
returns-in_err-position-clause-unwritten g c modelled =
    let one_reads = c.survey_both.ensures.same_first modelled in
    let other_reads = c.survey_both.ensures.same_second modelled in
    let only = c.in_ok-one.ensures.durable modelled in
    let found = c.in_ok-one.ensures.found modelled in
    let surveyed = surveyed_now g.D.Disk.seen g.D.Disk.may_leave g.D.Disk.moment g.D.Disk.left_since c.in_ok-one.one c.in_ok-one.other c.args.first.now c.args.second.now c.survey_both.new.first c.survey_both.new.second one_reads other_reads found.0 found.1 only.0 only.1 in
    same_fault c.from_residual-in_err-position.result c.in_err-position.field-0.0 _ c.from_residual-in_err-position.ensures.1 (λ not.
    let both = c.in_err-position.ensures.unwritten modelled not in
    record {
      one = read_on g.D.Disk.seen g.D.Disk.may_leave g.D.Disk.moment g.D.Disk.left_since c.args.first.now c.survey_both.new.first c.open_led.new.first one_reads both.one;
      other = read_on g.D.Disk.seen g.D.Disk.may_leave g.D.Disk.moment g.D.Disk.left_since c.args.second.now c.survey_both.new.second c.open_led.new.second other_reads both.other;
    })

pub returns-in_err-position-clause-memory : goal.returns-in_err-position-clause-memory
returns-in_err-position-clause-memory g c modelled has out =
    let one_reads = c.survey_both.ensures.same_first modelled in
    let other_reads = c.survey_both.ensures.same_second modelled in
    let only = c.in_ok-one.ensures.durable modelled in
    let found = c.in_ok-one.ensures.found modelled in
    let surveyed = surveyed_now g.D.Disk.seen g.D.Disk.may_leave g.D.Disk.moment g.D.Disk.left_since c.in_ok-one.one c.in_ok-one.other c.args.first.now c.args.second.now c.survey_both.new.first c.survey_both.new.second one_reads other_reads found.0 found.1 only.0 only.1 in
    on_both ReadsRecord _ _ _ _ one_reads.same other_reads.same (c.in_err-position.ensures.memory modelled surveyed has (ap Err (same_error c.from_residual-in_err-position.result c.in_err-position.field-0.0 _ c.from_residual-in_err-position.ensures.1 out)))

pub returns-in_err-position-clause-reason : goal.returns-in_err-position-clause-reason
returns-in_err-position-clause-reason g c modelled has refused told =
    let one_reads = c.survey_both.ensures.same_first modelled in
    let other_reads = c.survey_both.ensures.same_second modelled in
    let only = c.in_ok-one.ensures.durable modelled in
    let found = c.in_ok-one.ensures.found modelled in
    let surveyed = surveyed_now g.D.Disk.seen g.D.Disk.may_leave g.D.Disk.moment g.D.Disk.left_since c.in_ok-one.one c.in_ok-one.other c.args.first.now c.args.second.now c.survey_both.new.first c.survey_both.new.second one_reads other_reads found.0 found.1 only.0 only.1 in
    rw (← one_reads.same, ← other_reads.same) (c.in_err-position.ensures.reason modelled surveyed has (on_both (AreRefused g.B.Bodies.is_lawful) _ _ _ _ (sym one_reads.same) (sym other_reads.same) refused) (ap Err (same_error c.from_residual-in_err-position.result c.in_err-position.field-0.0 _ c.from_residual-in_err-position.ensures.1 told)))

pub returns-in_err-position-clause-refused : goal.returns-in_err-position-clause-refused
returns-in_err-position-clause-refused g c modelled has refused =
    let one_reads = c.survey_both.ensures.same_first modelled in
    let other_reads = c.survey_both.ensures.same_second modelled in
    let only = c.in_ok-one.ensures.durable modelled in
    let found = c.in_ok-one.ensures.found modelled in
    let surveyed = surveyed_now g.D.Disk.seen g.D.Disk.may_leave g.D.Disk.moment g.D.Disk.left_since c.in_ok-one.one c.in_ok-one.other c.args.first.now c.args.second.now c.survey_both.new.first c.survey_both.new.second one_reads other_reads found.0 found.1 only.0 only.1 in
    let both = c.open_led.ensures.refused modelled surveyed has (on_both (AreRefused g.B.Bodies.is_lawful) _ _ _ _ (sym one_reads.same) (sym other_reads.same) refused) in
    record {
      one = read_on g.D.Disk.seen g.D.Disk.may_leave g.D.Disk.moment g.D.Disk.left_since c.args.first.now c.survey_both.new.first c.open_led.new.first one_reads both.one;
      other = read_on g.D.Disk.seen g.D.Disk.may_leave g.D.Disk.moment g.D.Disk.left_since c.args.second.now c.survey_both.new.second c.open_led.new.second other_reads both.other;
    }

pub returns-in_err-position-clause-any_moment : goal.returns-in_err-position-clause-any_moment
returns-in_err-position-clause-any_moment g c modelled has order had body put one other =
    let one_reads = c.survey_both.ensures.same_first modelled in
    let other_reads = c.survey_both.ensures.same_second modelled in
    let only = c.in_ok-one.ensures.durable modelled in
    let found = c.in_ok-one.ensures.found modelled in
    let surveyed = surveyed_now g.D.Disk.seen g.D.Disk.may_leave g.D.Disk.moment g.D.Disk.left_since c.in_ok-one.one c.in_ok-one.other c.args.first.now c.args.second.now c.survey_both.new.first c.survey_both.new.second one_reads other_reads found.0 found.1 only.0 only.1 in
    let first_now = subst (LeftOfFirst order had body) (sym one_reads.same) (one _ (g.met.D.Disk.may_stay c.args.first.now modelled)) in
    let second_now = subst (LeftOfSecond order had body) (sym other_reads.same) (other _ (g.met.D.Disk.may_stay c.args.second.now modelled)) in
    let after = c.open_led.ensures.any_moment modelled surveyed has order had body put first_now second_now in
    record {
      one = and_then g.D.Disk.moment g.D.Disk.left_since c.args.first.now c.survey_both.new.first c.open_led.new.first (LeftOfFirst order had body) (weaker g.D.Disk.moment g.D.Disk.left_since c.args.first.now c.survey_both.new.first (g.D.Disk.may_leave c.args.first.now) (LeftOfFirst order had body) one one_reads.time) after.one;
      other = and_then g.D.Disk.moment g.D.Disk.left_since c.args.second.now c.survey_both.new.second c.open_led.new.second (LeftOfSecond order had body) (weaker g.D.Disk.moment g.D.Disk.left_since c.args.second.now c.survey_both.new.second (g.D.Disk.may_leave c.args.second.now) (LeftOfSecond order had body) other other_reads.time) after.other;
    }

pub returns-in_err-position-clause-old_first : goal.returns-in_err-position-clause-old_first
returns-in_err-position-clause-old_first g c modelled front =
    let one_reads = c.survey_both.ensures.same_first modelled in
    let other_reads = c.survey_both.ensures.same_second modelled in
    let only = c.in_ok-one.ensures.durable modelled in
    let found = c.in_ok-one.ensures.found modelled in
    let surveyed = surveyed_now g.D.Disk.seen g.D.Disk.may_leave g.D.Disk.moment g.D.Disk.left_since c.in_ok-one.one c.in_ok-one.other c.args.first.now c.args.second.now c.survey_both.new.first c.survey_both.new.second one_reads other_reads found.0 found.1 only.0 only.1 in
    read_on g.D.Disk.seen g.D.Disk.may_leave g.D.Disk.moment g.D.Disk.left_since c.args.first.now c.survey_both.new.first c.open_led.new.first one_reads (c.open_led.ensures.old_first modelled surveyed (subst (HasFront old_header) (sym one_reads.same) front))

pub returns-in_err-position-clause-old_second : goal.returns-in_err-position-clause-old_second
returns-in_err-position-clause-old_second g c modelled front =
    let one_reads = c.survey_both.ensures.same_first modelled in
    let other_reads = c.survey_both.ensures.same_second modelled in
    let only = c.in_ok-one.ensures.durable modelled in
    let found = c.in_ok-one.ensures.found modelled in
    let surveyed = surveyed_now g.D.Disk.seen g.D.Disk.may_leave g.D.Disk.moment g.D.Disk.left_since c.in_ok-one.one c.in_ok-one.other c.args.first.now c.args.second.now c.survey_both.new.first c.survey_both.new.second one_reads other_reads found.0 found.1 only.0 only.1 in
    read_on g.D.Disk.seen g.D.Disk.may_leave g.D.Disk.moment g.D.Disk.left_since c.args.second.now c.survey_both.new.second c.open_led.new.second other_reads (c.open_led.ensures.old_second modelled surveyed (subst (HasFront old_header) (sym other_reads.same) front))

pub returns-clause-opened : goal.returns-clause-opened
returns-clause-opened g c modelled has =
    let one_reads = c.survey_both.ensures.same_first modelled in
    let other_reads = c.survey_both.ensures.same_second modelled in
    let only = c.in_ok-one.ensures.durable modelled in
    let found = c.in_ok-one.ensures.found modelled in
    let surveyed = surveyed_now g.D.Disk.seen g.D.Disk.may_leave g.D.Disk.moment g.D.Disk.left_since c.in_ok-one.one c.in_ok-one.other c.args.first.now c.args.second.now c.survey_both.new.first c.survey_both.new.second one_reads other_reads found.0 found.1 only.0 only.1 in
    let made = c.in_ok-position.ensures.opened modelled surveyed has in
    rw c.is_turned.ensures (opened_on _ _ _ _ _ _ _ _ one_reads.same other_reads.same _ _ _ made)

pub returns-clause-refused : goal.returns-clause-refused
returns-clause-refused g c modelled has refused =
    let one_reads = c.survey_both.ensures.same_first modelled in
    let other_reads = c.survey_both.ensures.same_second modelled in
    let only = c.in_ok-one.ensures.durable modelled in
    let found = c.in_ok-one.ensures.found modelled in
    let surveyed = surveyed_now g.D.Disk.seen g.D.Disk.may_leave g.D.Disk.moment g.D.Disk.left_since c.in_ok-one.one c.in_ok-one.other c.args.first.now c.args.second.now c.survey_both.new.first c.survey_both.new.second one_reads other_reads found.0 found.1 only.0 only.1 in
    let both = c.open_led.ensures.refused modelled surveyed has (on_both (AreRefused g.B.Bodies.is_lawful) _ _ _ _ (sym one_reads.same) (sym other_reads.same) refused) in
    record {
      one = read_on g.D.Disk.seen g.D.Disk.may_leave g.D.Disk.moment g.D.Disk.left_since c.args.first.now c.survey_both.new.first c.open_led.new.first one_reads both.one;
      other = read_on g.D.Disk.seen g.D.Disk.may_leave g.D.Disk.moment g.D.Disk.left_since c.args.second.now c.survey_both.new.second c.open_led.new.second other_reads both.other;
    }

pub returns-clause-any_moment : goal.returns-clause-any_moment
returns-clause-any_moment g c modelled has order had body put one other =
    let one_reads = c.survey_both.ensures.same_first modelled in
    let other_reads = c.survey_both.ensures.same_second modelled in
    let only = c.in_ok-one.ensures.durable modelled in
    let found = c.in_ok-one.ensures.found modelled in
    let surveyed = surveyed_now g.D.Disk.seen g.D.Disk.may_leave g.D.Disk.moment g.D.Disk.left_since c.in_ok-one.one c.in_ok-one.other c.args.first.now c.args.second.now c.survey_both.new.first c.survey_both.new.second one_reads other_reads found.0 found.1 only.0 only.1 in
    let first_now = subst (LeftOfFirst order had body) (sym one_reads.same) (one _ (g.met.D.Disk.may_stay c.args.first.now modelled)) in
    let second_now = subst (LeftOfSecond order had body) (sym other_reads.same) (other _ (g.met.D.Disk.may_stay c.args.second.now modelled)) in
    let after = c.open_led.ensures.any_moment modelled surveyed has order had body put first_now second_now in
    record {
      one = and_then g.D.Disk.moment g.D.Disk.left_since c.args.first.now c.survey_both.new.first c.open_led.new.first (LeftOfFirst order had body) (weaker g.D.Disk.moment g.D.Disk.left_since c.args.first.now c.survey_both.new.first (g.D.Disk.may_leave c.args.first.now) (LeftOfFirst order had body) one one_reads.time) after.one;
      other = and_then g.D.Disk.moment g.D.Disk.left_since c.args.second.now c.survey_both.new.second c.open_led.new.second (LeftOfSecond order had body) (weaker g.D.Disk.moment g.D.Disk.left_since c.args.second.now c.survey_both.new.second (g.D.Disk.may_leave c.args.second.now) (LeftOfSecond order had body) other other_reads.time) after.other;
    }

pub returns-clause-old_first : goal.returns-clause-old_first
returns-clause-old_first g c modelled front =
    let one_reads = c.survey_both.ensures.same_first modelled in
    let other_reads = c.survey_both.ensures.same_second modelled in
    let only = c.in_ok-one.ensures.durable modelled in
    let found = c.in_ok-one.ensures.found modelled in
    let surveyed = surveyed_now g.D.Disk.seen g.D.Disk.may_leave g.D.Disk.moment g.D.Disk.left_since c.in_ok-one.one c.in_ok-one.other c.args.first.now c.args.second.now c.survey_both.new.first c.survey_both.new.second one_reads other_reads found.0 found.1 only.0 only.1 in
    read_on g.D.Disk.seen g.D.Disk.may_leave g.D.Disk.moment g.D.Disk.left_since c.args.first.now c.survey_both.new.first c.open_led.new.first one_reads (c.open_led.ensures.old_first modelled surveyed (subst (HasFront old_header) (sym one_reads.same) front))

pub returns-clause-old_second : goal.returns-clause-old_second
returns-clause-old_second g c modelled front =
    let one_reads = c.survey_both.ensures.same_first modelled in
    let other_reads = c.survey_both.ensures.same_second modelled in
    let only = c.in_ok-one.ensures.durable modelled in
    let found = c.in_ok-one.ensures.found modelled in
    let surveyed = surveyed_now g.D.Disk.seen g.D.Disk.may_leave g.D.Disk.moment g.D.Disk.left_since c.in_ok-one.one c.in_ok-one.other c.args.first.now c.args.second.now c.survey_both.new.first c.survey_both.new.second one_reads other_reads found.0 found.1 only.0 only.1 in
    read_on g.D.Disk.seen g.D.Disk.may_leave g.D.Disk.moment g.D.Disk.left_since c.args.second.now c.survey_both.new.second c.open_led.new.second other_reads (c.open_led.ensures.old_second modelled surveyed (subst (HasFront old_header) (sym other_reads.same) front))
