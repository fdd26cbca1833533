use Rattle.std.proofs.Common.{[], ◌∷◌, ◌∙◌, refl, ap, ⊎_elim, arith}
use Rattle.change_journal.proofs.HeldLawful.{held_no_bad}
use Rattle.change_journal.proofs.Entrywise.{held_no_other, next_holds}
use Rattle.change_journal.proofs.HeldLists.{empty_foreign, empty_record, empty_stored, foreign_short, number_none}
use Rattle.change_journal.proofs.laws.wrong_answers_are_refused.Goals as goal

pub returns-clause-nothing_else : goal.returns-clause-nothing_else
returns-clause-nothing_else g c exactly = absurd (cc (exactly.only (0 ∷ []) tt))

pub returns-clause-no_journal : goal.returns-clause-no_journal
returns-clause-no_journal g c foreign = empty_foreign foreign

pub returns-clause-all_stored : goal.returns-clause-all_stored
returns-clause-all_stored g c all = empty_stored (all [] [] tt tt).shut

pub returns-clause-more : goal.returns-clause-more
returns-clause-more g c more =
    let file = 1 ∷ (5 ∷ []) in
    ⊎_elim (λ held. held_no_other _ file file held foreign_short) (λ held. held_no_other _ file file held foreign_short) (next_holds more.order [] more.next file file more.left.writable more.left.old (more.left.one file tt) (more.left.other file tt))

pub returns-clause-no_gate : goal.returns-clause-no_gate
returns-clause-no_gate g c has = empty_record has

pub returns-clause-bad_record : goal.returns-clause-bad_record
returns-clause-bad_record g c first second bad = number_none first second bad

pub returns-clause-kept : goal.returns-clause-kept
returns-clause-kept g c entries n first second held few bad = held_no_bad entries n first second few held bad

pub returns-clause-gap : goal.returns-clause-gap
returns-clause-gap g c front file n is = let wrong = is.1 in omega (arith, wrong)

pub returns-clause-over_the_front : goal.returns-clause-over_the_front
returns-clause-over_the_front g c front file n is = let wrong = is.0 in omega (arith, wrong)
