use Rattle.std.proofs.Common.{rules, arith, ◌≡◌, ◌++◌, ◌∙◌, List, ℕ, ap, length, refl}
use Rattle.byte_slices.proofs.Joined.{nothing_in}
use Rattle.byte_slices.proofs.slices.Slices.front.Goals as goal

pub returns-then-not-is_empty-clause-front : goal.returns-then-not-is_empty-clause-front
returns-then-not-is_empty-clause-front c =
    let s = c.args.self.now in
    (s.second.now ++ (s.third.now ++ s.fourth.now), refl)

pub returns-then-not-is_empty-2-clause-front : goal.returns-then-not-is_empty-2-clause-front
returns-then-not-is_empty-2-clause-front c =
    let s = c.args.self.now in
    let none : length s.first.now ≡ 0 = search (rules, arith) in
    (s.third.now ++ s.fourth.now, ap (λ (u : List ℕ). u ++ (s.second.now ++ (s.third.now ++ s.fourth.now))) (nothing_in s.first.now none))

pub returns-then-not-is_empty-3-clause-front : goal.returns-then-not-is_empty-3-clause-front
returns-then-not-is_empty-3-clause-front c =
    let s = c.args.self.now in
    let none : length s.first.now ≡ 0 = search (rules, arith) in
    let nor_there : length s.second.now ≡ 0 = search (rules, arith) in (
      s.fourth.now,
      ap (λ (u : List ℕ). u ++ (s.second.now ++ (s.third.now ++ s.fourth.now))) (nothing_in s.first.now none)
          ∙ ap (λ (u : List ℕ). u ++ (s.third.now ++ s.fourth.now)) (nothing_in s.second.now nor_there),
    )
