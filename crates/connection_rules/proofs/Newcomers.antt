-- What follows from the number of a connection among those that go if a place is needed.
use Rattle.std.proofs.Common.{◌≡◌, ◌≢◌, ◌≤◌, ◌<◌, ◌&&◌, ℕ, Bool, true, false, not, if◌then◌else◌, None, Some, arith, refl, sym, subst}
use Rattle.std.proofs.lemmas.Bool.Decides.{nat_tests}
use Rattle.std.specs.Option.{IsSome}
use Rattle.connection_rules.specs.Paces.{is_same}
use Rattle.connection_rules.specs.Standings.{counted, is_new, keeps_place, number_of, standing_in, standing_of, turn_of}
use Rattle.connection_rules.specs.declared.paces.Stage.{Stage}
use Rattle.connection_rules.specs.declared.paces.Stage.TheVariants.{Idle, Head, Body, Reply, Closing}
use Rattle.connection_rules.specs.declared.stakes.Stake.{Stake}
use Rattle.connection_rules.specs.declared.standings.Standing.{Standing}
use Rattle.connection_rules.specs.declared.standings.Standing.TheVariants as standing

-- a number is that of the standing, of one whose place isn't kept
numbered_in : (keeps : Bool) (turn n : ℕ) → (if keeps then None else Some turn) ≡ Some n → (turn ≡ n) × (keeps ≡ false)
numbered_in true turn n h = cc
numbered_in false turn n h = (cc, refl)

pub numbered : (crowds : Bool) (n : ℕ) (stake : Stake) → number_of crowds stake ≡ Some n
    → (turn_of (standing_of crowds stake) (counted (standing_of crowds stake) stake) ≡ n) × (keeps_place stake.stage stake.moved ≡ false)
numbered crowds n stake h =
    numbered_in (keeps_place stake.stage stake.moved) (turn_of (standing_of crowds stake) (counted (standing_of crowds stake) stake)) n h

-- with this standing
pub numbered_as : (crowds : Bool) (n : ℕ) (stake : Stake) (is : Standing) → standing_of crowds stake ≡ is → number_of crowds stake ≡ Some n
    → turn_of is (counted is stake) ≡ n
numbered_as crowds n stake is same h = subst (λ (s : Standing). turn_of s (counted s stake) ≡ n) same (numbered crowds n stake h).0

-- a reply keeps its place exactly if it moved so much, and nothing else does
pub keeps : (stage : Stage) (moved : ℕ) → stage ≡ Reply → 262144 ≤ moved → keeps_place stage moved ≡ true
keeps stage moved is enough = subst (λ (s : Stage). keeps_place s moved ≡ true) (sym is) (grind (arith, nat_tests))

pub moves_less : (stage : Stage) (moved : ℕ) → stage ≡ Reply → keeps_place stage moved ≡ false → moved < 262144
moves_less stage moved is h =
    let few : keeps_place Reply moved ≡ false = subst (λ (s : Stage). keeps_place s moved ≡ false) is h in
    grind (arith, nat_tests)

pub goes : (stage : Stage) (moved : ℕ) → stage ≢ Reply → keeps_place stage moved ≡ false
goes Idle moved other = refl
goes Head moved other = refl
goes Body moved other = refl
goes Reply moved other = absurd (other refl)
goes Closing moved other = refl

pub moves_little : (stage : Stage) (moved : ℕ) → moved < 262144 → keeps_place stage moved ≡ false
moves_little Idle moved few = refl
moves_little Head moved few = refl
moves_little Body moved few = refl
moves_little Reply moved few = grind (arith, nat_tests)
moves_little Closing moved few = refl

pub none_if : (keeps : Bool) (turn : ℕ) → keeps ≡ true → (if keeps then None else Some turn) ≡ None
none_if true turn h = refl
none_if false turn h = cc

pub some_if : (keeps : Bool) (turn : ℕ) → keeps ≡ false → IsSome (if keeps then None else Some turn)
some_if true turn h = cc
some_if false turn h = refl

abbrev pub standing_when : Bool → Standing
standing_when true = standing.Crowding
standing_when false = standing.New

-- the standing of a new one
new_in : (stage : Stage) (away served young crowds : Bool) → (not (is_same stage Closing) && (not away && (not served && young))) ≡ true
    → standing_in stage away served young crowds ≡ standing_when crowds
new_in Closing away served young crowds h = cc
new_in Idle true served young crowds h = cc
new_in Idle false true young crowds h = cc
new_in Idle false false false crowds h = cc
new_in Idle false false true true h = refl
new_in Idle false false true false h = refl
new_in Head true served young crowds h = cc
new_in Head false true young crowds h = cc
new_in Head false false false crowds h = cc
new_in Head false false true true h = refl
new_in Head false false true false h = refl
new_in Body true served young crowds h = cc
new_in Body false true young crowds h = cc
new_in Body false false false crowds h = cc
new_in Body false false true true h = refl
new_in Body false false true false h = refl
new_in Reply true served young crowds h = cc
new_in Reply false true young crowds h = cc
new_in Reply false false false crowds h = cc
new_in Reply false false true true h = refl
new_in Reply false false true false h = refl

pub new_stands : (crowds : Bool) (stake : Stake) → is_new stake ≡ true → standing_of crowds stake ≡ standing_when crowds
new_stands crowds stake h = new_in stake.stage stake.is_at_work stake.is_answered stake.is_young crowds h

-- the standing of one that was answered, and is idle or in a reply
pub idle_stands : (crowds : Bool) (stake : Stake) → stake.stage ≡ Idle → stake.is_at_work ≡ false → stake.is_answered ≡ true
    → standing_of crowds stake ≡ standing.Idle
idle_stands crowds stake stage here answered = rw (stage, here, answered) refl

pub reply_stands : (crowds : Bool) (stake : Stake) → stake.stage ≡ Reply → stake.is_at_work ≡ false → stake.is_answered ≡ true
    → standing_of crowds stake ≡ standing.Busy
reply_stands crowds stake stage here answered = rw (stage, here, answered) refl

-- the number of one that was answered and doesn't close is at least that of an idle one
served_in : (stage : Stage) (away served young crowds : Bool) (by : ℕ) → served ≡ true → stage ≢ Closing
    → turn_of standing.Idle 0 ≤ turn_of (standing_in stage away served young crowds) by
served_in Closing away served young crowds by h k = absurd (k refl)
served_in Idle true served young crowds by h k = omega arith
served_in Idle false true young crowds by h k = omega arith
served_in Idle false false young crowds by h k = cc
served_in Head true served young crowds by h k = omega arith
served_in Head false true young crowds by h k = omega arith
served_in Head false false young crowds by h k = cc
served_in Body true served young crowds by h k = omega arith
served_in Body false true young crowds by h k = omega arith
served_in Body false false young crowds by h k = cc
served_in Reply true served young crowds by h k = omega arith
served_in Reply false true young crowds by h k = omega arith
served_in Reply false false young crowds by h k = cc

pub served_goes : (crowds : Bool) (by : ℕ) (stake : Stake) → stake.is_answered ≡ true → stake.stage ≢ Closing
    → turn_of standing.Idle 0 ≤ turn_of (standing_of crowds stake) by
served_goes crowds by stake = served_in stake.stage stake.is_at_work stake.is_answered stake.is_young crowds by
