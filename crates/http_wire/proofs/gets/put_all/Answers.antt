use Rattle.http_wire.proofs.Writes.{puts_flushed}
use Rattle.http_wire.proofs.gets.put_all.Goals as goal

pub returns-clause-ran : goal.returns-clause-ran
returns-clause-ran g c =
    puts_flushed g.D.Duplex.saw c.args.duplex.now c.put_pieces.new.duplex c.write.new.duplex c.write.result _ c.args.out.now c.put_pieces.new.out c.write.new.self
    c.in_ok-put_pieces.ensures.ran c.write.ensures.passed c.write.ensures.ran
