use Rattle.std.proofs.Common.{rules, append_assoc}
use Rattle.std.proofs.lemmas.Result.{IfOk-equal}
use Rattle.host_api.proofs.JoinedTexts.{digest_list-cons}
use Rattle.host_api.proofs.digest_texts.push_digests.Goals as goal

pub returns : goal.returns
returns c = search (rules, IfOk-equal, append_assoc, digest_list-cons)
