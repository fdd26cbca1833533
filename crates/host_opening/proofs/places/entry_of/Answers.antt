use Rattle.std.proofs.Common.{IsSome, sym, subst, ap}
use Rattle.host_opening.proofs.Taken.{some_copied, some_entry}
use Rattle.host_opening.proofs.places.entry_of.Goals as goal

pub unwrap-requires : goal.unwrap-requires
unwrap-requires c = some_copied c.entry.result (subst (λ o. IsSome o) (sym c.entry.ensures) (some_entry c.args.log.now c.args.number c.requires.some c.requires.within))
