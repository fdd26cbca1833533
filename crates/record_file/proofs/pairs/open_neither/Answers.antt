use Rattle.std.proofs.Common.{[], ◌∷◌, ◌++◌, sym, ◌∙◌}
use Rattle.host_disk.proofs.Runs.{started}
use Rattle.record_file.specs.Frames.{opened}
use Rattle.record_file.specs.Pairs.{MayFollow}
use Rattle.record_file.specs.Slots.{IsReplacing, new_header}
use Rattle.record_file.proofs.Brought.{follows, unused_follows}
use Rattle.record_file.proofs.SlotSteps.{stale_more}
use Rattle.record_file.proofs.Steps.{weaker}
use Rattle.record_file.proofs.WalkSteps.{length-opened}
use Rattle.record_file.proofs.pairs.open_neither.Goals as goal

pub returns-clause-made : goal.returns-clause-made
returns-clause-made g c modelled size only = record {
  gate_is = c.first.ensures.0 ∙ sym (length-opened new_header);
  count_is = c.first.ensures.1;
  exactly = c.in_ok-begin.ensures.made modelled;
  stale = λ f left. stale_more 1 f (c.in_ok-clear.ensures.cleared modelled size only f left);
}

pub returns-in_err-clear-clause-any_moment_beside : goal.returns-in_err-clear-clause-any_moment_beside
returns-in_err-clear-clause-any_moment_beside g c modelled size unused only body =
    let old = c.args.second.now in
    started g.D.Disk.moment g.D.Disk.left_since old (MayFollow 0 [] body) (λ f left. unused_follows body (g.D.Disk.seen old) f unused (only f (g.met.D.Disk.only_now old f modelled left)))

pub returns-in_err-begin-clause-any_moment_beside : goal.returns-in_err-begin-clause-any_moment_beside
returns-in_err-begin-clause-any_moment_beside g c modelled size unused only body =
    weaker g.D.Disk.moment g.D.Disk.left_since c.args.second.now c.begin.new.disk (IsReplacing (opened new_header [] ++ 0 ∷ [])) (MayFollow 0 [] body) (follows body) (c.begin.ensures.any_moment modelled size unused only)

pub returns-clause-any_moment_beside : goal.returns-clause-any_moment_beside
returns-clause-any_moment_beside g c modelled size unused only body =
    weaker g.D.Disk.moment g.D.Disk.left_since c.args.second.now c.begin.new.disk (IsReplacing (opened new_header [] ++ 0 ∷ [])) (MayFollow 0 [] body) (follows body) (c.begin.ensures.any_moment modelled size unused only)
