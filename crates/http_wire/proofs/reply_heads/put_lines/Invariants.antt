use Rattle.std.proofs.Common.{Ok, take}
use Rattle.std.specs.List.{flat_map}
use Rattle.http_wire.specs.Gathering.{Puts}
use Rattle.http_wire.specs.Replies.{text_of_line}
use Rattle.http_wire.specs.Timing.{NoRead, Ran}
use Rattle.http_wire.proofs.reply_heads.put_lines.Given as goal

abbrev pub invariant-loop-line : goal.invariant-loop-line
invariant-loop-line g l = Ran g.D.Duplex.saw NoRead l.fn.duplex l.duplex (Puts (Ok tt) (flat_map text_of_line (take l.line-index l.lines)) l.fn.out l.out)
