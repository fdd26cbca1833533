use Rattle.std.proofs.Common.{◌≡◌, arith}
use Rattle.connection_rules.specs.Standings.{counted, keeps_place, standing_of, turn_of}
use Rattle.connection_rules.specs.declared.standings.Standing.TheVariants as standing
use Rattle.connection_rules.proofs.Newcomers.{goes, keeps, moves_less, moves_little, none_if, numbered, numbered_as, reply_stands, some_if}
use Rattle.connection_rules.proofs.laws.of_replies_the_one_that_moved_least_goes.Goals as goal

pub returns-clause-kept : goal.returns-clause-kept
returns-clause-kept c crowds stake reply enough =
    none_if (keeps_place stake.stage stake.moved) (turn_of (standing_of crowds stake) (counted (standing_of crowds stake) stake))
    (keeps stake.stage stake.moved reply enough)

pub returns-clause-others : goal.returns-clause-others
returns-clause-others c crowds stake other =
    some_if (keeps_place stake.stage stake.moved) (turn_of (standing_of crowds stake) (counted (standing_of crowds stake) stake))
    (goes stake.stage stake.moved other)

pub returns-clause-slow : goal.returns-clause-slow
returns-clause-slow c crowds stake few =
    some_if (keeps_place stake.stage stake.moved) (turn_of (standing_of crowds stake) (counted (standing_of crowds stake) stake))
    (moves_little stake.stage stake.moved few)

pub returns-clause-least : goal.returns-clause-least
returns-clause-least c crowds n m one other reply here answered other_reply other_here other_answered less h k =
    let of_one : turn_of standing.Busy one.moved ≡ n = numbered_as crowds n one standing.Busy (reply_stands crowds one reply here answered) h in
    let of_other : turn_of standing.Busy other.moved ≡ m
    = numbered_as crowds m other standing.Busy (reply_stands crowds other other_reply other_here other_answered) k in
    let few = moves_less other.stage other.moved other_reply (numbered crowds m other k).1 in
    omega (arith, of_one, of_other, c.those_that_lose_least_go_first.ensures.least standing.Busy one.moved other.moved less (omega (arith, few)))
