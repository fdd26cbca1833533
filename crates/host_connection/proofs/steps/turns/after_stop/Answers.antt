use Rattle.std.proofs.Common.{true, refl, sym, ap}
use Rattle.host_replies.specs.Replies.{Answer, sent_text}
use Rattle.host_connection.proofs.Carried.{follows_told}
use Rattle.host_connection.proofs.steps.turns.after_stop.Goals as goal

pub returns-in-Refused : goal.returns-in-Refused
returns-in-Refused c =
    follows_told c.args.why _ _ c.in-Refused.is (ap (λ (a : Answer). sent_text true c.in-Refused.head_only a) (sym c.refusing.ensures), refl)

pub returns-in-OutOfMemory : goal.returns-in-OutOfMemory
returns-in-OutOfMemory c =
    follows_told c.args.why _ _ c.in-OutOfMemory.is (ap (λ (a : Answer). sent_text true c.in-OutOfMemory.head_only a) (sym c.out_of_memory.ensures), refl)
