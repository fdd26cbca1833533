use Rattle.std.proofs.Common.{List, ℕ, subst}
use Rattle.host_disk.specs.Crashes.{LeavesOnly}
use Rattle.record_file.specs.Openings.{IsExactly}
use Rattle.record_file.specs.Slots.{IsReplacing}
use Rattle.record_file.proofs.SlotSteps.{on_ok}
use Rattle.record_file.proofs.Brought.{without_records}
use Rattle.record_file.proofs.migrations.begin.Goals as goal

pub returns-clause-made : goal.returns-clause-made
returns-clause-made g c modelled =
    on_ok c.replace.result _ _ (λ exactly. subst (λ (l : List ℕ). IsExactly l (g.D.Disk.seen c.replace.new.disk) (g.D.Disk.may_leave c.replace.new.disk)) without_records exactly) (c.replace.ensures.written modelled)

pub returns-clause-any_moment : goal.returns-clause-any_moment
returns-clause-any_moment g c modelled size unused only =
    subst (λ (l : List ℕ). LeavesOnly g.D.Disk.moment g.D.Disk.left_since c.args.disk.now c.replace.new.disk (IsReplacing l)) without_records (c.replace.ensures.any_moment modelled size unused only)
