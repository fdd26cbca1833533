use Rattle.std.proofs.Common.{◌≡◌, ◌+◌, drop, ◌++◌, subst}
use Rattle.record_file.proofs.NotWhole.{framed_there}
use Rattle.record_file.proofs.Steps.{both_on_ok}
use Rattle.record_file.proofs.walks.read_record.Goals as goal

pub returns-clause-body : goal.returns-clause-body
returns-clause-body g c modelled =
    let file = g.D.Disk.seen c.args.disk.now in
    let at = c.args.position.gate in
    let told = c.in_ok-length.ensures.length modelled in
    let same = (c.in_ok-length.ensures.same modelled).same in
    both_on_ok c.read_body.result _ _ _ (λ there has. framed_there file at c.in_ok-length.length c.read_body.new.body.items has told (subst (λ f. drop (at + 5) f ≡ c.read_body.new.body.items ++ drop (at + 5 + c.in_ok-length.length) f) same there)) (c.read_body.ensures.body modelled) c.read_body.ensures.size
