use Rattle.std.proofs.Common.{[], ◌∷◌, ◌++◌, inl, inr, ⊎_elim, refl, length-append, arith}
use Rattle.change_journal.proofs.Entrywise.{one_each}
use Rattle.journal_stops.proofs.Puts.{left_now}
use Rattle.journal_stops.proofs.boots.open_and_put.Goals as goal

pub returns-in-Ok-clause-found : goal.returns-in-Ok-clause-found
returns-in-Ok-clause-found g c modelled order had next few left =
    let disk = g.D.Disk in
    let a = disk.seen c.args.first in
    let b = disk.seen c.args.second in
    rw c.put_after.ensures.found (⊎_elim (λ holds. inl (c.in-Ok.ensures.kept modelled had (omega (arith, few)) holds)) (λ holds. inr (c.in-Ok.ensures.kept modelled (had ++ next ∷ []) (omega (arith, few, length-append had (next ∷ []))) holds))
    (c.slots_hold_an_entry_whose_gate_is_open.ensures.left order had next a b (one_each order had next (disk.may_leave c.args.first) (disk.may_leave c.args.second) a b left (g.met.D.Disk.may_stay c.args.first modelled) (g.met.D.Disk.may_stay c.args.second modelled))))

pub returns-in-Err-clause-unopened : goal.returns-in-Err-clause-unopened
returns-in-Err-clause-unopened g c modelled order had next left none =
    let disk = g.D.Disk in (
      refl,
      left_now disk.moment disk.left_since disk.may_leave (λ d t f later image. g.met.D.Disk.counts_now d t f modelled later image) order had next c.args.first c.args.second c.in-Err.stop.first c.in-Err.stop.second (c.in-Err.ensures.any_moment modelled order had next left),
    )
