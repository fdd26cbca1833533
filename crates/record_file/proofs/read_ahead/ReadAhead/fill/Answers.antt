use Rattle.std.proofs.Common.{rules, ◌≡◌, ℕ, List, sym, subst, ap, take, length, min, ◌-◌, refl}
use Rattle.host_disk.specs.Crashes.{IsRead}
use Rattle.record_file.proofs.ReadsAhead.{all_ahead}
use Rattle.record_file.proofs.read_ahead.ReadAhead.fill.Goals as goal

pub invariant_of-self-2 : goal.invariant_of-self-2
invariant_of-self-2 g c = record { ahead = λ modelled. subst (λ f. IsRead f c.args.at (take c.min-len.result c.read_into.new.buffer.items)) (sym (c.read_into.ensures.seen modelled)) (c.in_ok-read_into.ensures.read modelled) }

pub returns-clause-ahead : goal.returns-clause-ahead
returns-clause-ahead g c modelled =
    let file : List ℕ = g.D.Disk.seen c.args.self.now.disk in
    let size_is : length c.read_into.new.buffer.items ≡ length c.args.self.now.buffer.items = search rules in
    let told : c.in_ok-size.size ≡ length file = subst (λ f. c.in_ok-size.size ≡ length f) (ap g.D.Disk.seen c.forget.ensures.disk) (c.in_ok-size.ensures.len modelled) in
    let len_is : c.min-len.result ≡ min (length c.args.self.now.buffer.items) (length file - c.args.at) = search rules in
    let read : IsRead file c.args.at (take c.min-len.result c.read_into.new.buffer.items) = search rules in
    (refl, all_ahead file c.read_into.new.buffer.items c.args.at (length c.args.self.now.buffer.items) c.min-len.result size_is len_is read)
