use Rattle.std.proofs.Common.{◌≤◌, ℕ, List, ◌++◌, length, sym, ap, subst, ◌∙◌}
use Rattle.entry_texts.specs.Spells.{entry_text}
use Rattle.entry_texts.proofs.Entries.{entry_length}
use Rattle.entry_texts.proofs.encoding.encode.Goals as goal

pub returns-clause-bounded : goal.returns-clause-bounded
returns-clause-bounded c =
    subst (λ (b : List ℕ). length b ≤ 10470070) (sym (c.in_ok-put_entry.ensures.bytes ∙ ap (λ (b : List ℕ). b ++ entry_text c.args.entry.now) c.new-text.ensures.items)) (entry_length c.args.entry.now c.in_ok-put_entry.ensures.lawful)
