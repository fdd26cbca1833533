use Rattle.std.proofs.Common.{Err, length, sym, ◌∙◌, ap, subst, arith}
use Rattle.record_file.specs.Slots.{IsForeign, IsInUse}
use Rattle.record_file.proofs.LookSteps.{used_by_gate}
use Rattle.record_file.proofs.Steps.{same_error}
use Rattle.record_file.proofs.surveys.version_of.Goals as goal

pub returns-in_err-read_version-clause-bad : goal.returns-in_err-read_version-clause-bad
returns-in_err-read_version-clause-bad g c modelled size bad =
    let file = g.D.Disk.seen c.args.disk.now in
    let same = (c.in_ok-gate.ensures.same modelled).same in
    let told = same_error c.from_residual-in_err-read_version.result c.in_err-read_version.field-0.0 _ c.from_residual-in_err-read_version.ensures.1 bad in
    let none = c.in_err-read_version.ensures.bad modelled (size ∙ sym (ap length same)) (ap Err told) in
    subst IsForeign same (record {
      used = subst IsInUse (sym same) (used_by_gate file c.in_ok-gate.gate (c.in_ok-gate.ensures.gate modelled) (omega (arith, c.if-gate-ne1.false)) (omega (arith, size, c.if-size-lt2.false)));
      none = none;
    })
