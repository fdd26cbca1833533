use Rattle.std.proofs.Common.{◌≡◌, List, ℕ, Option, Some, false, refl}
use Rattle.std.specs.Borrow.{Bor}
use Rattle.std.specs.Prelude.{⊤}
use Rattle.http_wire.specs.Timing.{Event, Moves}
use Rattle.http_wire.specs.declared.duplexes.Pair.{Pair}
use Rattle.host_replies.specs.Bodies.{answer_of}
use Rattle.host_replies.specs.Replies.{sent_text}
use Rattle.host_replies.specs.declared.replies.small_texts.Sheet.{Sheet}
use Rattle.host_replies.proofs.SmallTexts.{all_held}
use Rattle.host_replies.proofs.replies.Reply.write_to.Goals as goal

pub returns-in-Ok : goal.returns-in-Ok
returns-in-Ok c = λ is. (
    let S : Type 0 = Pair (Bor (List ℕ)) Sheet in
    let left : S → Option (List ℕ) = λ (p : S). Some p.source.now in
    let held : S → Option (List ℕ) = λ (p : S). Some p.sink.text.items in
    let saw : S → Event → S → Type 0 = λ (old : S) (event : Event) (new : S). Moves ⊥ ⊤ event (left old) (held old) (left new) (held new) in
    all_held saw left held ⊥ ⊤ (λ (old new : S) (event : Event) (seen : saw old event new). seen) c.args.sheet.now c.try_send.new.duplex
    (sent_text false c.args.head_only (answer_of c.args.self.now)) c.args.sheet.now.sink.text.items c.try_send.new.duplex.sink.text.items c.args.out.now c.try_send.new.out refl refl
    c.requires.fresh c.in-Ok.ensures.ran
    )
