use Rattle.std.proofs.Common.{◌∙◌, ◌∷◌, ap}
use Rattle.http_wire.specs.Timing.{Put}
use Rattle.tcp_socket.specs.Trails.{events_of}
use Rattle.tcp_socket.proofs.Noting.{tells_write}
use Rattle.tcp_socket.proofs.trails.Trail.note_written.Goals as goal

pub returns : goal.returns
returns c =
    let bytes = c.args.bytes.now in
    ap events_of c.of.ensures ∙ tells_write bytes c.self.inside.noted.numbers ∙ ap (λ past. Put bytes ∷ past) c.self.view_is
