use Rattle.http_wire.proofs.OneHead.{begins_with_one, says_one, is_not_bad, announces_one}
use Rattle.http_wire.proofs.ManyFields.{has_few_fields}
use Rattle.http_wire.proofs.laws.one_head.Goals as goal

pub returns : goal.returns
returns c = record { begins = begins_with_one; says = says_one; good = is_not_bad; fits = has_few_fields; announces = announces_one }
