use Rattle.std.proofs.Common.{Some, None, ◌∙◌, arith}
use Rattle.std.proofs.lemmas.Str.Pattern.{find_char}
use Rattle.host_api.proofs.Cuts.{cut, uncut, first_place}
use Rattle.host_api.proofs.targets.cut_at.Goals as goal

pub returns-in-Some-clause-front : goal.returns-in-Some-clause-front
returns-in-Some-clause-front c =
    let found = find_char c.args.mark c.args.text.now (Some c.in-Some.end) c.in-Some.ensures.cases c.requires in
    c.split_at.ensures.front ∙ (cut _ _ _ (first_place _ _ _ (omega arith) found.2 (λ _. found.1))).0

pub returns-in-Some-clause-back : goal.returns-in-Some-clause-back
returns-in-Some-clause-back c =
    let found = find_char c.args.mark c.args.text.now (Some c.in-Some.end) c.in-Some.ensures.cases c.requires in
    c.split_at.ensures.back ∙ (cut _ _ _ (first_place _ _ _ (omega arith) found.2 (λ _. found.1))).1

pub returns-in-None-clause-front : goal.returns-in-None-clause-front
returns-in-None-clause-front c =
    let absent = find_char c.args.mark c.args.text.now None c.in-None.ensures.cases c.requires in
    (uncut _ _ (first_place _ _ _ (omega arith) absent (λ past. absurd (omega arith)))).0

pub returns-in-None-clause-back : goal.returns-in-None-clause-back
returns-in-None-clause-back c =
    let absent = find_char c.args.mark c.args.text.now None c.in-None.ensures.cases c.requires in
    (uncut _ _ (first_place _ _ _ (omega arith) absent (λ past. absurd (omega arith)))).1
