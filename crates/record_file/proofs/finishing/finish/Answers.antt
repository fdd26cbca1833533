use Rattle.std.proofs.Common.{◌≡◌, [], ◌∷◌, ◌++◌, inl}
use Rattle.record_file.specs.declared.headers.Version.TheVariants.{Current, Old}
use Rattle.record_file.specs.Frames.{opened}
use Rattle.record_file.specs.Openings.{IsMending}
use Rattle.record_file.specs.Pairs.{IsBeside}
use Rattle.record_file.specs.Slots.{IsReplacing, new_header, old_header}
use Rattle.record_file.proofs.MendSteps.{gate_stands}
use Rattle.record_file.proofs.PairSteps.{below_none, current_beside, replaced_beside}
use Rattle.record_file.proofs.Steps.{weaker}
use Rattle.record_file.proofs.finishing.finish.Goals as goal

pub returns-in-Old-clause-made : goal.returns-in-Old-clause-made
returns-in-Old-clause-made g c modelled bodies end ready =
    rw c.in-Old.is (c.finish_old.ensures.made modelled c.args.size bodies (rw c.in-Old.is at end) (rw c.in-Old.is at ready))

pub returns-in-Current-clause-made : goal.returns-in-Current-clause-made
returns-in-Current-clause-made g c modelled bodies end ready =
    rw c.in-Current.is (c.finish_current.ensures.made modelled bodies (rw c.in-Current.is at end) (rw c.in-Current.is at ready))

pub returns-in-Old-clause-any_moment : goal.returns-in-Old-clause-any_moment
returns-in-Old-clause-any_moment g c modelled bodies rest at is only =
    let old = c.args.read.now in
    let file = g.D.Disk.seen old in
    let at_old = rw c.in-Old.is at at in
    let is_old = rw c.in-Old.is at is in
    rw c.in-Old.is (weaker g.D.Disk.moment g.D.Disk.left_since old c.finish_old.new.read (g.D.Disk.may_leave old) (IsMending (opened old_header bodies) c.args.end.gate rest) (λ f left.
    inl (gate_stands (opened old_header bodies) rest file (g.D.Disk.may_leave old) c.args.end.position.gate at_old c.args.end.gate is_old only f left)) (c.finish_old.ensures.same modelled).time)

pub returns-in-Current-clause-any_moment : goal.returns-in-Current-clause-any_moment
returns-in-Current-clause-any_moment g c modelled bodies rest at is only =
    rw c.in-Current.is (c.finish_current.ensures.any_moment modelled bodies rest (rw c.in-Current.is at at) (rw c.in-Current.is at is) only)

pub returns-in-Old-clause-any_moment_beside : goal.returns-in-Old-clause-any_moment_beside
returns-in-Old-clause-any_moment_beside g c modelled bodies end ready =
    let old = c.args.other.now in
    let file = g.D.Disk.seen old in
    let not_used = below_none file (rw c.in-Old.is at ready).below in
    rw c.in-Old.is (weaker g.D.Disk.moment g.D.Disk.left_since old c.finish_old.new.other (IsReplacing (opened new_header bodies ++ 0 ∷ [])) (IsBeside Old (λ f. f ≡ opened new_header bodies ++ 0 ∷ []) file) (replaced_beside bodies file not_used)
    (c.finish_old.ensures.any_moment_beside modelled c.args.size bodies (rw c.in-Old.is at end) (rw c.in-Old.is at ready)))

pub returns-in-Current-clause-any_moment_beside : goal.returns-in-Current-clause-any_moment_beside
returns-in-Current-clause-any_moment_beside g c modelled bodies end ready =
    let old = c.args.other.now in
    let file = g.D.Disk.seen old in
    rw c.in-Current.is (weaker g.D.Disk.moment g.D.Disk.left_since old c.finish_current.new.other (IsBeside Current (λ f. ⊥) file) (IsBeside Current (λ f. f ≡ opened new_header bodies ++ 0 ∷ []) file) (current_beside bodies file)
    (c.finish_current.ensures.any_moment_beside modelled (rw c.in-Current.is at ready)))

pub returns-in-Old-clause-used : goal.returns-in-Old-clause-used
returns-in-Old-clause-used g c modelled ready used =
    absurd (below_none (g.D.Disk.seen c.args.other.now) (rw c.in-Old.is at ready).below used)

pub returns-in-Current-clause-used : goal.returns-in-Current-clause-used
returns-in-Current-clause-used g c modelled ready used = c.finish_current.ensures.used modelled (rw c.in-Current.is at ready) used
