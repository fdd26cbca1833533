use Rattle.std.proofs.lemmas.Str.{is_utf8-from_IsUtf8}
use Rattle.entry_texts.proofs.encoding.put_path.Goals as goal

pub returns-clause-lawful : goal.returns-clause-lawful
returns-clause-lawful c =
    (rw (← c.as_str-text.ensures.value) (is_utf8-from_IsUtf8 c.as_str-text.result.now c.as_str-text.utf8), c.as_str-text.ensures.lawful)
