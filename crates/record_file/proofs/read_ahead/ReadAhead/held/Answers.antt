use Rattle.std.proofs.Common.{◌≡◌, ◌+◌, rules, sym, subst, take}
use Rattle.host_disk.specs.Crashes.{IsRead}
use Rattle.record_file.proofs.ReadsAhead.{both_if_some, part_read}
use Rattle.record_file.proofs.read_ahead.ReadAhead.held.Goals as goal

pub returns-clause-read : goal.returns-clause-read
returns-clause-read g c modelled =
    let was = c.args.self.now in
    let file = g.D.Disk.seen was.disk in
    let ahead = c.in_ok-ahead.ahead.now in
    let is_ahead : ahead ≡ take was.len was.buffer.items = search rules in
    let at_is : c.args.at ≡ was.start + c.in_ok-from.from = search rules in
    both_if_some c.part_of.result _ _ (λ bytes. IsRead file c.args.at bytes.now)
    (λ part is within. part_read file was.start c.args.at c.in_ok-from.from c.args.len ahead part.now (subst (IsRead file was.start) (sym is_ahead) (was.ahead modelled)) at_is within is)
    c.part_of.ensures.part c.part_of.ensures.within
