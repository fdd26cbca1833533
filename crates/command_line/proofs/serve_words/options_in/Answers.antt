use Rattle.command_line.proofs.serve_words.options_in.Goals as goal

pub returns-in_default-clause-err : goal.returns-in_default-clause-err
returns-in_default-clause-err c = λ known options rows. c.in_default.ensures.none options.listen rows.listen
