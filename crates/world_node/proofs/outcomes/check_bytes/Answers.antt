use Rattle.std.proofs.Common.{rules, ◌≡◌, ◌∙◌, Some, None}
use Rattle.host_names.specs.Digests.{digest_of}
use Rattle.world_node.proofs.Reading.{checked_right, checked_wrong}
use Rattle.world_node.proofs.outcomes.check_bytes.Goals as goal

pub returns-in-Ok : goal.returns-in-Ok
returns-in-Ok c =
    let named : digest_of c.args.bytes.items ≡ c.args.key = search rules in
    let is : c.of.result ≡ Some c.args.bytes.items = search rules in
    is ∙ checked_right c.args.key c.args.bytes.items named

pub returns : goal.returns
returns c =
    let wrong : digest_of c.args.bytes.items ≡ c.args.key → ⊥ = search rules in
    let is : c.fault.result ≡ None = c.fault.ensures in
    is ∙ checked_wrong c.args.key c.args.bytes.items wrong
