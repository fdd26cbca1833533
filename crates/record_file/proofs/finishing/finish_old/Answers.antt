use Rattle.std.proofs.Common.{◌∷◌, sym, subst, ◌∙◌}
use Rattle.record_file.specs.Slots.{IsStale}
use Rattle.record_file.proofs.Brought.{moved_gate}
use Rattle.record_file.proofs.PairSteps.{below_none, old_stale}
use Rattle.record_file.proofs.finishing.finish_old.Goals as goal

pub returns-clause-made : goal.returns-clause-made
returns-clause-made g c modelled size bodies end ready =
    let read = c.bring_over.ensures.same modelled in
    record {
      gate_is = moved_gate bodies c.args.end.position.gate c.moved.result.gate end.at_is c.moved.ensures.0;
      count_is = c.moved.ensures.1 ∙ end.count_is;
      exactly = c.in_ok-bring_over.ensures.made modelled bodies (c.args.end.gate ∷ end.ends.rest) end.at_is end.count_is end.ends.is;
      stale = λ f left. subst (IsStale 1) (sym (ready.only f (read.crash f left))) (old_stale (g.D.Disk.seen c.args.read.now) ready.front);
    }

pub returns-clause-any_moment_beside : goal.returns-clause-any_moment_beside
returns-clause-any_moment_beside g c modelled size bodies end ready =
    c.bring_over.ensures.any_moment modelled bodies (c.args.end.gate ∷ end.ends.rest) end.at_is end.count_is end.ends.is ready.surveyed.size_is (below_none (g.D.Disk.seen c.args.other.now) ready.below) ready.only_beside

pub returns-in_err-bring_over-clause-any_moment_beside : goal.returns-in_err-bring_over-clause-any_moment_beside
returns-in_err-bring_over-clause-any_moment_beside g c modelled size bodies end ready =
    c.bring_over.ensures.any_moment modelled bodies (c.args.end.gate ∷ end.ends.rest) end.at_is end.count_is end.ends.is ready.surveyed.size_is (below_none (g.D.Disk.seen c.args.other.now) ready.below) ready.only_beside
