use Rattle.std.proofs.Common.{◌≡◌, ◌<◌, ℕ, Bool, true, false, arith}
use Rattle.connection_rules.specs.Standings.{counted, standing_of, turn_of}
use Rattle.connection_rules.specs.declared.standings.Standing.TheVariants as standing
use Rattle.connection_rules.proofs.Newcomers.{idle_stands, new_stands, numbered, numbered_as, served_goes, standing_when}
use Rattle.connection_rules.proofs.laws.a_new_one_goes_before_idle_ones_only_where_new_ones_crowd.Goals as goal

pub returns-clause-idle : goal.returns-clause-idle
returns-clause-idle c n m new idle is_new stage here answered h k =
    let of_new : turn_of standing.New new.came ≡ n = numbered_as false n new standing.New (new_stands false new is_new) h in
    let of_idle : turn_of standing.Idle idle.active ≡ m = numbered_as false m idle standing.Idle (idle_stands false idle stage here answered) k in
    let law = c.those_that_lose_least_go_first.ensures in
    omega (arith, of_new, of_idle, law.idle idle.active 0, law.busy 0 new.came)

pub returns-clause-crowding : goal.returns-clause-crowding
returns-clause-crowding c n m new other is_new answered stays h k =
    let of_new : turn_of standing.Crowding new.came ≡ n = numbered_as true n new standing.Crowding (new_stands true new is_new) h in
    omega (
      arith,
      of_new,
      (numbered true m other k).0,
      c.those_that_lose_least_go_first.ensures.crowding new.came 0,
      served_goes true (counted (standing_of true other) other) other answered stays,
    )

pub returns-clause-oldest : goal.returns-clause-oldest
returns-clause-oldest c crowds n m one other is_new is_other before fits h k =
    go crowds (numbered_as crowds n one (standing_when crowds) (new_stands crowds one is_new) h)
    (numbered_as crowds m other (standing_when crowds) (new_stands crowds other is_other) k)
  where
    go : (crowds : Bool) → turn_of (standing_when crowds) (counted (standing_when crowds) one) ≡ n
        → turn_of (standing_when crowds) (counted (standing_when crowds) other) ≡ m → n < m
    go true of_one of_other = omega (arith, of_one, of_other, c.those_that_lose_least_go_first.ensures.least standing.Crowding one.came other.came before fits)
    go false of_one of_other = omega (arith, of_one, of_other, c.those_that_lose_least_go_first.ensures.least standing.New one.came other.came before fits)
