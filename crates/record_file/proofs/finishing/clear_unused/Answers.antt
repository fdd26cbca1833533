use Rattle.std.proofs.Common.{sym, subst, rules}
use Rattle.host_disk.proofs.Runs.{started}
use Rattle.record_file.specs.declared.headers.Version.TheVariants.{Current}
use Rattle.record_file.specs.Pairs.{IsBeside, kept, unused}
use Rattle.record_file.specs.Slots.{IsInUse, IsStale}
use Rattle.record_file.proofs.Steps.{weaker}
use Rattle.record_file.proofs.SlotSteps.{on_ok, stale_more}
use Rattle.record_file.proofs.PairSteps.{found_none, found_some, surveyed_unused, used_stale}
use Rattle.record_file.proofs.WalkSteps.{nothing_read}
use Rattle.record_file.proofs.finishing.clear_unused.Goals as goal

pub returns-then-is_none-clause-stale : goal.returns-then-is_none-clause-stale
returns-then-is_none-clause-stale g c modelled surveyed only below =
    on_ok c.clear.result _ _ (λ cleared f left. stale_more 1 f (cleared f left)) (c.clear.ensures.cleared modelled surveyed.size_is only)

pub returns-then-is_none-clause-used : goal.returns-then-is_none-clause-used
returns-then-is_none-clause-used g c modelled surveyed used =
    absurd (surveyed_unused c.args.found.version (g.D.Disk.seen c.args.disk.now) (found_none c.args.found.version (search rules)) surveyed.use_is used)

pub returns-then-is_none-clause-unused : goal.returns-then-is_none-clause-unused
returns-then-is_none-clause-unused g c modelled surveyed only =
    let file = g.D.Disk.seen c.args.disk.now in
    let not_used = surveyed_unused c.args.found.version file (found_none c.args.found.version (search rules)) surveyed.use_is in
    weaker g.D.Disk.moment g.D.Disk.left_since c.args.disk.now c.clear.new.disk (λ f. IsInUse f → ⊥) (IsBeside Current (λ f. ⊥) file) (λ f still. unused not_used still) (c.clear.ensures.any_moment modelled surveyed.size_is not_used only)

pub returns-clause-stale : goal.returns-clause-stale
returns-clause-stale g c modelled surveyed only below =
    let file = g.D.Disk.seen c.args.disk.now in
    let used = found_some c.args.found.version file (search rules) surveyed.use_is in
    λ f left. subst (IsStale 1) (sym (only f left)) (used_stale 1 file used below)

pub returns-clause-used : goal.returns-clause-used
returns-clause-used g c modelled surveyed used =
    let old = c.args.disk.now in
    nothing_read g.D.Disk.seen g.D.Disk.may_leave g.D.Disk.moment g.D.Disk.left_since old (λ f left. g.met.D.Disk.only_now old f modelled left)

pub returns-clause-unused : goal.returns-clause-unused
returns-clause-unused g c modelled surveyed only =
    let old = c.args.disk.now in
    started g.D.Disk.moment g.D.Disk.left_since old (IsBeside Current (λ f. ⊥) (g.D.Disk.seen old)) (λ f left. kept (only f (g.met.D.Disk.only_now old f modelled left)))
