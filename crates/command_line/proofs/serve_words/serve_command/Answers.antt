use Rattle.std.proofs.Common.{◌≡◌, ◌∙◌, ap, ap₂, codes}
use Rattle.std.proofs.lemmas.Result.{IfOk-weaker}
use Rattle.clap.specs.Words.{Rule, app_of, new_app, rule_of, with_rule}
use Rattle.command_line.specs.Options.{option_rule, required, with_default}
use Rattle.command_line.specs.Serving as spec
use Rattle.command_line.proofs.serve_words.serve_command.Goals as goal

pub returns-clause-app : goal.returns-clause-app
returns-clause-app c =
    let listen : rule_of c.required-listen.result ≡ spec.listen_rule = c.required-listen.ensures.rule ∙ ap required c.text_option.ensures.rule in
    let nodes : rule_of c.with_default-nodes.result ≡ spec.nodes_rule =
    c.with_default-nodes.ensures.rule ∙ ap (λ (r : Rule). with_default r (codes "1")) c.number_option.ensures.rule in
    let workers : rule_of c.with_default-workers.result ≡ spec.workers_rule =
    c.with_default-workers.ensures.rule ∙ ap (λ (r : Rule). with_default r (codes "2")) c.number_option-2.ensures.rule in
    let store : rule_of c.text_option-store.result ≡ option_rule (codes "store") = c.text_option-store.ensures.rule in
    let conns : rule_of c.number_option-conns.result ≡ spec.conns_rule = c.number_option-conns.ensures.rule in
    let one : app_of c.in_ok-command.command ≡ with_rule (new_app (codes "serve")) spec.listen_rule =
    c.in_ok-command.ensures.app ∙ ap₂ with_rule c.bare_command.ensures.app listen in
    let two = c.in_ok-command-2.ensures.app ∙ ap₂ with_rule one nodes in
    let three = c.in_ok-command-3.ensures.app ∙ ap₂ with_rule two workers in
    let four = c.in_ok-command-4.ensures.app ∙ ap₂ with_rule three store in
    IfOk-weaker c.with_option-5.result _ _ (λ r app. app ∙ ap₂ with_rule four conns) c.with_option-5.ensures.app
