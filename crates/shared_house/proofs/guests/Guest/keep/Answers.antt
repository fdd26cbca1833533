use Rattle.std.proofs.Common.{subst, sym}
use Rattle.host_replies.specs.Bodies.{answer_of}
use Rattle.shared_house.specs.Desks.{shows}
use Rattle.shared_house.specs.Guests.{IsGuestAnswer}
use Rattle.shared_house.specs.Seeing.{Known}
use Rattle.shared_house.proofs.guests.Guest.keep.Goals as goal

pub kept_of-requires : goal.kept_of-requires
kept_of-requires g c =
    let request = c.args.request.now in
    (c.requires.0, subst (λ (k : Known). IsGuestAnswer (shows g.D.DeskAccess.did g.G.FileAccess.fails) c.requires.0 request.head request.body.items (answer_of c.args.reply.now) k) (sym c.self.view_is) c.requires.1)
