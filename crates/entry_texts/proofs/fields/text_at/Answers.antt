use Rattle.entry_texts.proofs.NameTexts.{text_found, no_text}
use Rattle.entry_texts.proofs.fields.text_at.Goals as goal

pub returns-in-Ok : goal.returns-in-Ok
returns-in-Ok c = rw (c.in-Ok.ensures.cases.0) (text_found c.args.bytes.now c.in_ok-len.len c.in_ok-len.rest.now c.in_ok-text.text.now c.in_ok-text.rest.now c.in_ok-len.ensures c.in_ok-text.ensures c.in-Ok.ensures.cases.1)

pub returns-in-Err : goal.returns-in-Err
returns-in-Err c = no_text c.args.bytes.now c.in_ok-len.len c.in_ok-len.rest.now c.in_ok-text.text.now c.in_ok-text.rest.now c.in_ok-len.ensures c.in_ok-text.ensures c.in-Err.ensures.cases.0
