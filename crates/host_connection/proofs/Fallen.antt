-- How many phases of a connection are left.
use Rattle.std.proofs.Common.{◌≡◌, ℕ, ◌<◌, ◌≤◌, arith}
use Rattle.host_connection.specs.declared.phases.Phase.{Phase}
use Rattle.host_connection.specs.declared.phases.Phase.TheVariants as phase
use Rattle.host_connection.specs.declared.steps.Progress.{Progress}
use Rattle.host_connection.specs.declared.steps.Progress.TheVariants as progress
use Rattle.host_connection.specs.Advancing.{Falls, IsBody, left_of_turn, phases_left}

pub body_at_most : (p : Phase) → IsBody p → left_of_turn p ≤ 3
body_at_most phase.Head is = absurd is
body_at_most (phase.Invite i) is = omega arith
body_at_most (phase.Body b) is = omega arith
body_at_most (phase.Reply s) is = absurd is
body_at_most (phase.Ended result) is = absurd is

pub body_at_least : (p : Phase) → IsBody p → 2 ≤ left_of_turn p
body_at_least phase.Head is = absurd is
body_at_least (phase.Invite i) is = omega arith
body_at_least (phase.Body b) is = omega arith
body_at_least (phase.Reply s) is = absurd is
body_at_least (phase.Ended result) is = absurd is

is_body_where : (p : Phase) → 2 ≤ left_of_turn p → left_of_turn p ≤ 3 → IsBody p
is_body_where phase.Head least most = absurd (omega (arith, most))
is_body_where (phase.Invite i) least most = tt
is_body_where (phase.Body b) least most = tt
is_body_where (phase.Reply s) least most = absurd (omega (arith, least))
is_body_where (phase.Ended result) least most = absurd (omega (arith, least))

pub between : (n m k : ℕ) → n ≡ k → n ≤ m → m ≤ k → n ≡ m
between n m k is before after = omega (arith, is, before, after)

-- a phase between two in the body of one request is in it too
pub is_body_between : (n m k : ℕ) (p q r : Phase) → IsBody p → IsBody r → n ≡ k → phases_left m q < phases_left n p → phases_left k r ≤ phases_left m q → n ≤ m → m ≤ k
    → IsBody q
is_body_between n m k p q r first last is fell falls before after =
    let same : n ≡ m = between n m k is before after in
    let most = body_at_most p first in
    let least = body_at_least r last in
    is_body_where q (omega (arith, same, is, falls, least)) (omega (arith, same, is, fell, most))

-- ---- of the steps

pub falls_at_most : (result : Progress) (old new : ℕ) → Falls result old new → new ≤ old
falls_at_most (progress.Waits w) old new falls = falls
falls_at_most progress.More old new falls = omega (arith, falls)
falls_at_most (progress.Body size) old new falls = omega (arith, falls)
falls_at_most progress.Postponed old new falls = falls
falls_at_most (progress.Ended result) old new falls = falls

pub falls_twice : (result : Progress) (old mid new : ℕ) → mid < old → Falls result mid new → Falls result old new
falls_twice (progress.Waits w) old mid new fell falls = omega (arith, fell, falls)
falls_twice progress.More old mid new fell falls = omega (arith, fell, falls)
falls_twice (progress.Body size) old mid new fell falls = omega (arith, fell, falls)
falls_twice progress.Postponed old mid new fell falls = omega (arith, fell, falls)
falls_twice (progress.Ended result) old mid new fell falls = omega (arith, fell, falls)
