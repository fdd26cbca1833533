use Rattle.entry_texts.proofs.NameTexts.{no_name}
use Rattle.entry_texts.proofs.fields.name_of.Goals as goal

pub returns-in-Err : goal.returns-in-Err
returns-in-Err c = no_name c.args.text.now c.in-Err.ensures.cases.0
