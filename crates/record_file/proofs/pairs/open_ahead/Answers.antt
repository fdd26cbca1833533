use Rattle.std.proofs.Common.{◌≡◌, ℕ, IfErr, IsTrue, inl, inr, ⊎_elim, sym, subst}
use Rattle.record_file.specs.declared.faults.OpenFault.TheVariants.{BadRecord}
use Rattle.record_file.specs.Failures.{MayFailReading}
use Rattle.record_file.specs.Pairs.{AreRefused, LeftOfFirst, LeftOfSecond, ReadsBad, ReadsRecord}
use Rattle.record_file.proofs.ReadsAhead.{ahead_fails, ahead_leaves, ahead_reads}
use Rattle.record_file.proofs.pairs.open_ahead.Goals as goal

pub returns-clause-any_moment : goal.returns-clause-any_moment
returns-clause-any_moment g c modelled has order had body put one other =
    let disk = g.D.Disk in
    let first = c.new-one.result in
    let second = c.new-other.result in
    let run = c.open_both-outcome.ensures.any_moment modelled has order had body put (λ f left. one f (subst (λ d. disk.may_leave d f) c.new-one.ensures left)) (λ f left. other f (subst (λ d. disk.may_leave d f) c.new-other.ensures left)) in
    record {
      one = ahead_leaves first c.open_both-outcome.new.first (λ a. a.disk) disk.moment disk.left_since (LeftOfFirst order had body) c.args.first c.into_disk.result c.new-one.ensures c.into_disk.ensures run.one;
      other = ahead_leaves second c.open_both-outcome.new.second (λ a. a.disk) disk.moment disk.left_since (LeftOfSecond order had body) c.args.second c.into_disk-2.result c.new-other.ensures c.into_disk-2.ensures run.other;
    }

pub returns-clause-refused : goal.returns-clause-refused
returns-clause-refused g c modelled has refused =
    let disk = g.D.Disk in
    let first = c.new-one.result in
    let second = c.new-other.result in
    let both = c.open_both-outcome.ensures.refused modelled has (subst (λ d. AreRefused g.B.Bodies.is_lawful (disk.seen d) (disk.seen second.disk)) (sym c.new-one.ensures) (subst (λ d. AreRefused g.B.Bodies.is_lawful (disk.seen c.args.first) (disk.seen d)) (sym c.new-other.ensures) refused)) in
    record {
      one = ahead_reads first c.open_both-outcome.new.first (λ a. a.disk) disk.moment disk.left_since disk.seen disk.may_leave c.args.first c.into_disk.result c.new-one.ensures c.into_disk.ensures both.one;
      other = ahead_reads second c.open_both-outcome.new.second (λ a. a.disk) disk.moment disk.left_since disk.seen disk.may_leave c.args.second c.into_disk-2.result c.new-other.ensures c.into_disk-2.ensures both.other;
    }

pub returns-clause-bad_record : goal.returns-clause-bad_record
returns-clause-bad_record g c modelled has =
    let disk = g.D.Disk in
    let second = c.new-other.result in
    subst (λ d. IfErr c.open_both-outcome.result (λ fault. (i : ℕ) → fault ≡ BadRecord i → ReadsBad g.B.Bodies.is_lawful i (disk.seen c.args.first) (disk.seen d))) c.new-other.ensures
    (subst (λ d. IfErr c.open_both-outcome.result (λ fault. (i : ℕ) → fault ≡ BadRecord i → ReadsBad g.B.Bodies.is_lawful i (disk.seen d) (disk.seen second.disk))) c.new-one.ensures (c.open_both-outcome.ensures.bad_record modelled has))

pub returns-clause-memory : goal.returns-clause-memory
returns-clause-memory g c modelled has out =
    let disk = g.D.Disk in
    let second = c.new-other.result in
    subst (λ d. ReadsRecord (disk.seen c.args.first) (disk.seen d)) c.new-other.ensures (subst (λ d. ReadsRecord (disk.seen d) (disk.seen second.disk)) c.new-one.ensures (c.open_both-outcome.ensures.memory modelled has out))

pub returns-clause-reason : goal.returns-clause-reason
returns-clause-reason g c modelled has refused out =
    let disk = g.D.Disk in
    let second = c.new-other.result in
    let fails = c.open_both-outcome.ensures.reason modelled has (subst (λ d. AreRefused g.B.Bodies.is_lawful (disk.seen d) (disk.seen second.disk)) (sym c.new-one.ensures) (subst (λ d. AreRefused g.B.Bodies.is_lawful (disk.seen c.args.first) (disk.seen d)) (sym c.new-other.ensures) refused)) out in
    ⊎_elim (λ one. inl (subst (λ d. MayFailReading disk.seen disk.may_fail (disk.seen d)) c.new-one.ensures (ahead_fails (λ a. a.disk) disk.seen disk.may_fail (IsTrue disk.is_modelled) modelled (disk.seen c.new-one.result.disk) one)))
    (λ other. inr (subst (λ d. MayFailReading disk.seen disk.may_fail (disk.seen d)) c.new-other.ensures (ahead_fails (λ a. a.disk) disk.seen disk.may_fail (IsTrue disk.is_modelled) modelled (disk.seen c.new-other.result.disk) other))) fails
