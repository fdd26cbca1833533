use Rattle.std.proofs.Common.{None, sym, arith}
use Rattle.std.proofs.lemmas.Str.Pattern.{strip_prefix_char}
use Rattle.host_api.proofs.Cuts.{no_segment}
use Rattle.host_api.proofs.targets.take_segment.Goals as goal

pub returns-in_err-strip_prefix : goal.returns-in_err-strip_prefix
returns-in_err-strip_prefix c =
    let none = strip_prefix_char 47 c.args.text.now None c.in_err-strip_prefix.ensures.cases (omega arith) in
    rw c.from_residual.ensures (sym (no_segment c.args.text.now none))
