-- The texts of answers.
use Rattle.std.proofs.Common.{◌≡◌, ℕ, List, Result, Ok, Err, OnOk, length, ap, ◌∙◌}
use Rattle.http_wire.specs.declared.replies.ReplyHead.{ReplyHead}
use Rattle.http_wire.specs.Replies.{fields_of, reply_text}
use Rattle.peer_link.specs.Answers.{answer_head}

pub text_is : (head : ReplyHead) (status : ℕ) (sent body : List ℕ) → ((size : ℕ) → fields_of head size ≡ answer_head status size) → sent ≡ body
    → reply_text (fields_of head (length sent)) sent ≡ reply_text (answer_head status (length body)) body
text_is head status sent body head_is body_is =
    ap (λ (t : List ℕ). reply_text (fields_of head (length t)) t) body_is ∙ ap (λ h. reply_text h body) (head_is (length body))

pub on_ok : {A E P Q : Type 0} (result : Result A E) → (P → Q) → OnOk result P → OnOk result Q
on_ok (Ok value) f of = f of
on_ok (Err error) f of = tt
