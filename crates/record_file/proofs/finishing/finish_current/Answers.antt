use Rattle.std.proofs.Common.{inl}
use Rattle.host_disk.proofs.Runs.{started}
use Rattle.record_file.specs.Frames.{opened}
use Rattle.record_file.specs.Openings.{IsMending}
use Rattle.record_file.specs.Slots.{new_header}
use Rattle.record_file.proofs.MendSteps.{gate_stands}
use Rattle.record_file.proofs.finishing.finish_current.Goals as goal

pub returns-clause-made : goal.returns-clause-made
returns-clause-made g c modelled bodies end ready = record {
  gate_is = end.at_is;
  count_is = end.count_is;
  exactly = c.in_ok-mend.ensures.mended modelled (opened new_header bodies) end.ends.rest end.at_is ready.size_is end.ends.is ready.only;
  stale = c.in_ok-clear_unused.ensures.stale modelled ready.surveyed ready.only_beside ready.below;
}

pub returns-in_err-clear_unused-clause-any_moment : goal.returns-in_err-clear_unused-clause-any_moment
returns-in_err-clear_unused-clause-any_moment g c modelled bodies rest at is only =
    let old = c.args.read.now in
    started g.D.Disk.moment g.D.Disk.left_since old (IsMending (opened new_header bodies) c.args.end.gate rest) (λ f left.
    inl (gate_stands (opened new_header bodies) rest (g.D.Disk.seen old) (g.D.Disk.may_leave old) c.args.end.position.gate at c.args.end.gate is only f (g.met.D.Disk.only_now old f modelled left)))
