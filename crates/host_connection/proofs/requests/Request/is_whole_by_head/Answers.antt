use Rattle.std.proofs.Common.{◌∙◌, ℕ, false, subst, sym}
use Rattle.std.proofs.lemmas.Bool.Decides.{Decides-eqb}
use Rattle.http_wire.specs.Fields.{AnnouncesBody}
use Rattle.host_connection.specs.Serving.{limit_of}
use Rattle.host_connection.proofs.Again.{open_still}
use Rattle.host_connection.proofs.requests.Request.is_whole_by_head.Goals as goal

pub returns-in-Ok-clause-whole : goal.returns-in-Ok-clause-whole
returns-in-Ok-clause-whole c = λ is. (
    let head = c.args.self.now.head in
    record {
      announced = subst (λ (n : ℕ). AnnouncesBody head.fields (limit_of head) n) ((Decides-eqb c.in-Ok.size 0).0 is) c.in-Ok.ensures;
      no_wait = λ expects. cc (c.if-expects_continue.false, c.expects_continue.ensures.1 expects);
      stays_open = open_still head c.args.self.now.is_last (sym c.closes.ensures ∙ c.if-closes.false);
    }
    )
