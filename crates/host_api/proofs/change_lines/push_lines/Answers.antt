use Rattle.std.proofs.Common.{rules, append_assoc}
use Rattle.std.proofs.lemmas.Result.{IfOk-equal}
use Rattle.host_api.proofs.JoinedTexts.{line_texts-cons}
use Rattle.host_api.proofs.change_lines.push_lines.Goals as goal

pub returns : goal.returns
returns c = search (rules, IfOk-equal, append_assoc, line_texts-cons)
