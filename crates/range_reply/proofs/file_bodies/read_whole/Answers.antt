use Rattle.std.proofs.Common.{[], refl, subst, sym}
use Rattle.range_spec.specs.declared.selection.Choice.TheVariants.{Whole}
use Rattle.range_reply.specs.Bodies.{AreFor}
use Rattle.range_reply.specs.Holding.{held_in}
use Rattle.range_reply.specs.Sending.{IsRead, SentFile}
use Rattle.range_reply.proofs.HeldInTurn.{nothing_held}
use Rattle.range_reply.proofs.Joined.{are_pure, pure-first}
use Rattle.range_reply.proofs.Sent.{sent-pure}
use Rattle.range_reply.proofs.file_bodies.read_whole.Goals as goal

pub returns-clause-read : goal.returns-clause-read
returns-clause-read g c =
    let gave = g.H.Holder.gave in
    let file = c.args.info.now.value in
    let content_type = c.args.content_type.text.now in
    let holds = held_in c.in_ok-holds.holds in
    let held = c.in_ok-holds.ensures.held in
    let are : AreFor holds file Whole = record { same_file = held.same_file; in_order = held.in_order } in
    let R : SentFile → Type 0 = λ body. IsRead gave c.args.holder.now file Whole content_type body c.hold_whole.new.holder in
    subst R (sym c.whole.ensures) (record {
      holds = holds;
      mid = c.hold_whole.new.holder;
      held = held;
      sent = (refl, refl);
      more = [];
      more_held = nothing_held gave file c.hold_whole.new.holder [] refl;
      bytes = refl;
      exact = λ pure. record {
        sent = (refl, refl);
        bytes = sent-pure [] content_type file holds Whole are held.lawful (are_pure file holds held.same_file (pure-first file holds [] pure));
      };
    })
