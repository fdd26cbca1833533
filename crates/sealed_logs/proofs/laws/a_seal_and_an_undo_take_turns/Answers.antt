use Rattle.std.proofs.Common.{[], ◌∷◌}
use Rattle.site_change.specs.declared.entries.Entry.TheVariants as line
use Rattle.sealed_logs.proofs.Seals.{sealed-more, split_number}
use Rattle.sealed_logs.proofs.laws.a_seal_and_an_undo_take_turns.Goals as goal

pub returns-clause-undo : goal.returns-clause-undo
returns-clause-undo c = λ uploads log n site k ok more. sealed-more uploads log n (line.Undo site k ∷ []) ok (more, tt)

pub returns-clause-split : goal.returns-clause-split
returns-clause-split c = split_number
