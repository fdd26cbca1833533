use Rattle.std.proofs.Common.{rules, ◌∙◌, subst, sym}
use Rattle.http_wire.specs.Scanning.{ScansTo}
use Rattle.http_wire.proofs.LineEnds.{scans_byte, scans_on}
use Rattle.http_wire.proofs.scans.scan.Goals as goal

pub loop-byte-preserved : goal.loop-byte-preserved
loop-byte-preserved c =
    let bytes = c.args.bytes.now in
    let others = c.in-Some.others.now in
    let before = subst (ScansTo c.args.state bytes c.loop-byte.state) (search rules) c.loop-byte.invariant in
    let stepped = scans_byte c.args.state c.loop-byte.state bytes others c.in-Some.byte.now before (sym c.is_done.ensures ∙ c.if-is_done.false) in
    let here = subst (λ s. ScansTo c.args.state bytes s others) (sym c.step-state.ensures) stepped in
    scans_on c.args.state c.step-state.result c.step-state.result bytes others c.after_text-rest.result.now here c.after_text-rest.ensures
