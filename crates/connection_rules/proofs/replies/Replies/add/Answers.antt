use Rattle.std.proofs.Common.{◌≡◌, Option, ap, rules, unwrap_or, ◌∙◌}
use Rattle.std.specs.BTreeMap.Entry.{map_with_value}
use Rattle.connection_rules.specs.Holding.{no_file, recounted}
use Rattle.connection_rules.specs.declared.replies.HeldFile.{HeldFile}
use Rattle.connection_rules.proofs.Counted.{added}
use Rattle.connection_rules.proofs.replies.Replies.add.Goals as goal

pub returns : goal.returns
returns c =
    let old = c.args.self.now in
    let new = c.recount.new.self in
    let before = c.or_insert-file.result.now in
    let before_is = c.or_insert-file.ensures.value ∙ ap (λ (found : Option HeldFile). unwrap_or found no_file) c.in_ok-self.ensures.value in
    let after = c.with-after.result in
    let files = map_with_value c.in_ok-self.field-0 after in
    let counted : new ≡ record { files = files; held = recounted c.held.result c.held-2.result old.held } = search rules in
    let is = rw (c.held.ensures, c.held-2.ensures) at counted in
    added c.args.reply.now old new files before after is before_is c.with-after.ensures (c.in_ok-self.ensures.update.0 after)
