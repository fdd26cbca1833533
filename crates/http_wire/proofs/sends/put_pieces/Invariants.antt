use Rattle.std.proofs.Common.{Ok, take}
use Rattle.std.specs.List.{flat_map}
use Rattle.http_wire.specs.Gathering.{Puts}
use Rattle.http_wire.specs.Timing.{NoRead, Ran}
use Rattle.http_wire.proofs.sends.put_pieces.Given as goal

abbrev pub invariant-loop-piece : goal.invariant-loop-piece
invariant-loop-piece g l = Ran g.D.Duplex.saw NoRead l.fn.duplex l.duplex (Puts (Ok tt) (flat_map (λ p. p.now) (take l.piece-index l.pieces)) l.fn.out l.out)
