use Rattle.std.proofs.Common.{◌≡◌, rules, sym, ◌∙◌}
use Rattle.std.proofs.lemmas.List.Sorted.{answers_always}
use Rattle.entry_texts.proofs.Rising.{is_before, answered, by_path}
use Rattle.entry_texts.proofs.listings.is_rising.Goals as goal

pub returns-clause-value : goal.returns-clause-value
returns-clause-value c = answered c.args.files.now c.is_sorted_by.result (c.is_sorted_by.ensures.cases is_before (answers_always _ (λ a r. r ≡ is_before a.0.now a.1.0.now) _ (λ f a r f2 called. search rules)))

pub returns-clause-sorted : goal.returns-clause-sorted
returns-clause-sorted c = λ whole. by_path c.args.files.now (sym (returns-clause-value c) ∙ whole)
