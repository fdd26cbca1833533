use Rattle.std.proofs.Common.{◌∙◌, ◌∷◌, ap}
use Rattle.http_wire.specs.Timing.{read_of}
use Rattle.tcp_socket.specs.Trails.{events_of}
use Rattle.tcp_socket.proofs.Noting.{tells_read}
use Rattle.tcp_socket.proofs.trails.Trail.note_read.Goals as goal

pub returns : goal.returns
returns c =
    let bytes = c.args.bytes.now in
    ap events_of c.of.ensures ∙ tells_read bytes c.self.inside.noted.numbers ∙ ap (λ past. read_of bytes ∷ past) c.self.view_is
