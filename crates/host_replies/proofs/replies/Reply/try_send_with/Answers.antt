use Rattle.std.proofs.Common.{◌≡◌, [], List, ℕ, Bool, true, false, cond, length, ap, refl, sym, subst, ◌∙◌}
use Rattle.std.proofs.lemmas.Bool.{false≢true}
use Rattle.std.specs.List.{concat}
use Rattle.http_wire.specs.Gathering.{GoesOnFrom, IsAmid}
use Rattle.http_wire.specs.Replies.{HeadFields, fields_of, reply_text}
use Rattle.http_wire.specs.Timing.{NoRead, Ran}
use Rattle.host_replies.specs.Bodies.{answer_of}
use Rattle.host_replies.specs.Replies.{Answer, fields_for, sent_text}
use Rattle.host_replies.proofs.replies.Reply.try_send_with.Goals as goal

-- the body is sent where more than the head is wanted
is_sent : (withheld head_only : Bool) → (withheld ≡ true → head_only ≡ true) → head_only ≡ false → withheld ≡ false
is_sent false head_only from bare = refl
is_sent true head_only from bare = absurd (false≢true (sym bare ∙ from refl))

pub returns-then-head_only-clause-ran : goal.returns-then-head_only-clause-ran
returns-then-head_only-clause-ran g c =
    let a : Answer = answer_of c.args.self.now in
    let close : Bool = c.args.close in
    let size : c.length.result ≡ length a.body = c.length.ensures in
    let fields : fields_of c.head-head.result c.length.result ≡ fields_for close a = ap (λ n. fields_of c.head-head.result n) size ∙ c.head-head.ensures in
    let bare : [] ≡ cond c.args.head_only [] a.body = ap (λ (h : Bool). cond h [] a.body) (sym c.if-head_only.true) in
    let is : reply_text (fields_of c.head-head.result c.length.result) [] ≡ sent_text close c.args.head_only a =
    ap (λ (f : HeadFields). reply_text f []) fields ∙ ap (λ (b : List ℕ). reply_text (fields_for close a) b) bare in
    let P : List ℕ → Type 0 = λ t. (at : ℕ) → IsAmid t at c.args.out.now → Ran g.D.Duplex.saw NoRead c.args.duplex.now c.try_write_reply.new.duplex
    (GoesOnFrom c.try_write_reply.result t at c.try_write_reply.new.out) in
    subst P is c.try_write_reply.ensures.ran

pub returns-clause-ran : goal.returns-clause-ran
returns-clause-ran g c =
    let a : Answer = answer_of c.args.self.now in
    let close : Bool = c.args.close in
    let body : List ℕ = concat c.parts.result in
    let whole : body ≡ a.body = c.parts.ensures.sent (is_sent a.withheld c.args.head_only c.requires.sent c.if-head_only.false) in
    let fields : fields_of c.head-head.result (length body) ≡ fields_for close a = ap (λ (b : List ℕ). fields_of c.head-head.result (length b)) whole ∙ c.head-head.ensures in
    let all : a.body ≡ cond c.args.head_only [] a.body = ap (λ (h : Bool). cond h [] a.body) (sym c.if-head_only.false) in
    let is : reply_text (fields_of c.head-head.result (length body)) body ≡ sent_text close c.args.head_only a =
    ap (λ (f : HeadFields). reply_text f body) fields ∙ ap (λ (b : List ℕ). reply_text (fields_for close a) b) (whole ∙ all) in
    let P : List ℕ → Type 0 = λ t. (at : ℕ) → IsAmid t at c.args.out.now → Ran g.D.Duplex.saw NoRead c.args.duplex.now c.try_write_reply-2.new.duplex
    (GoesOnFrom c.try_write_reply-2.result t at c.try_write_reply-2.new.out) in
    subst P is c.try_write_reply-2.ensures.ran
