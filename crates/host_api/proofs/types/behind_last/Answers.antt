use Rattle.std.proofs.Common.{◌+◌, length, sym, ap, ◌∙◌, Some, arith}
use Rattle.std.proofs.lemmas.Slice.{between_to_end}
use Rattle.host_api.proofs.LastPlaces.{after_last-none, after_last-at}
use Rattle.host_api.proofs.types.behind_last.Goals as goal

pub returns-in_err-at : goal.returns-in_err-at
returns-in_err-at c = rw c.from_residual.ensures (sym (after_last-none c.args.byte c.args.text.now c.in_err-at.ensures))

pub returns : goal.returns
returns c =
    let text = c.args.text.now in
    let at = c.in_ok-at.at in
    let found = c.in_ok-at.ensures in
    ap Some (between_to_end text (at + 1) (length text) (omega arith)) ∙ sym (after_last-at c.args.byte text at found.0 found.1 found.2)
