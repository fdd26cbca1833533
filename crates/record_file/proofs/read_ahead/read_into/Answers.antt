use Rattle.std.proofs.Common.{rules, ◌≡◌, ◌≤◌, ◌++◌, length, take, drop, sym, ◌∙◌, subst}
use Rattle.std.proofs.lemmas.List.{take-take, take-append-le}
use Rattle.host_disk.specs.Crashes.{IsRead}
use Rattle.record_file.proofs.Steps.{both_on_ok}
use Rattle.record_file.proofs.read_ahead.read_into.Goals as goal

pub returns-clause-read : goal.returns-clause-read
returns-clause-read g c modelled =
    let new = c.read_front.new.buffer in
    let few : c.args.len ≤ c.args.buffer.now.len = search rules in
    let fits : c.args.len ≤ length new = search rules in
    let front : take c.args.len (take c.args.buffer.now.len (new ++ drop (length new) c.args.buffer.now.items)) ≡ take c.args.len new =
    take-take c.args.len c.args.buffer.now.len (new ++ drop (length new) c.args.buffer.now.items) few ∙ take-append-le c.args.len new (drop (length new) c.args.buffer.now.items) fits in
    both_on_ok c.read_front.result _ _ _ (λ is again. subst (IsRead (g.D.Disk.seen c.args.disk.now) c.args.at) (sym front) is) (c.read_front.ensures.read modelled) (c.read_front.ensures.read modelled)
