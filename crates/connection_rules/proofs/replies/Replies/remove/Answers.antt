use Rattle.connection_rules.proofs.Counted.{forgotten, kept, removed}
use Rattle.connection_rules.proofs.replies.Replies.remove.Goals as goal
use Rattle.connection_rules.proofs.replies.Replies.remove.Goals.{then-after-eq0, else-after-eq0}

pub returns : goal.returns
returns c =
    let reply = c.args.reply.now in
    let old = c.args.self.now in
    let new = c.recount.new.self in
    let before = c.in-Some.file.now in
    let before_is = c.in-Some.ensures.value in
    let after = c.without-after.result in
    let after_is = c.without-after.ensures in
    let files = c.get_mut.follows.lender after in
    let writes = c.get_mut.follows.holds after in
    let is = rw (c.held.ensures, c.held-2.ensures) at c.recount.ensures in
    elim c.if-after-eq0.branch [
      | then-after-eq0 w ↦
          let all = w.remove.new.self in
          removed reply old new all before after (rw w.self-is at is) before_is after_is
          (forgotten old.files files reply.file before after before_is writes all w.if-after-eq0.true w.remove.ensures.updates)
      | else-after-eq0 w ↦
          removed reply old new files before after (rw w.self-is at is) before_is after_is
          (kept old.files files reply.file before after before_is writes w.if-after-eq0.false)
    ]
