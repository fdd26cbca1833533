use Rattle.std.proofs.Common.{◌≡◌, ◌∙◌, ap, false, subst, sym}
use Rattle.change_log.specs.Logs.{Log}
use Rattle.host_replies.specs.Bodies.{answer_of}
use Rattle.host_replies.specs.Replies.{sent_text}
use Rattle.shared_house.specs.Desks.{shows}
use Rattle.shared_house.specs.GuestLaws as laws
use Rattle.shared_house.specs.Kept.{IsKept}
use Rattle.shared_house.specs.Seeing.{Known}
use Rattle.shared_house.proofs.KeptReplies.{kept}
use Rattle.shared_house.proofs.guests.Guest.kept_of.Goals as goal

pub small_text-requires : goal.small_text-requires
small_text-requires g c = λ held. (
    let request = c.args.request.now in
    c.is_head_only.ensures
    ∙ laws.withheld (shows g.D.DeskAccess.did g.G.FileAccess.fails) c.requires.0 request.head request.body.items (answer_of c.args.reply.now) c.args.self.now c.requires.1 held
    )

pub new-requires : goal.new-requires
new-requires g c =
    let request = c.args.request.now in
    let answer = answer_of c.args.reply.now in
    let head = c.text.result.now in
    let text = c.in_ok-text.text.items in
    let said = c.in_ok-text.ensures.text ∙ ap (λ h. sent_text false h answer) c.is_head_only.ensures in
    let opened : c.again-front.result ≡ c.self.inside.note.log = subst (λ x. c.again-front.result ≡ x.note.log) c.self-inside.view_is c.again-front.ensures in
    let note : c.again-front.result ≡ c.args.self.now.log = opened ∙ ap (λ (k : Known). k.log) c.self.view_is in
    subst (λ (l : Log). IsKept l head text) (sym note)
    (kept (shows g.D.DeskAccess.did g.G.FileAccess.fails) c.requires.0 c.args.self.now request.head request.body.items answer head text c.requires.1 (c.is_whole_by_head.ensures.body c.if-not-is_whole_by_head.false)
    (c.is_of_whole_file.ensures.0 c.if-not-is_of_whole_file.false).1 c.text.ensures (c.is_whole_by_head.ensures.whole c.if-not-is_whole_by_head.false) said)
