use Rattle.std.proofs.Common.{◌++◌, ◌∙◌, List, ℕ, ap, drop}
use Rattle.byte_slices.proofs.Joined.{drop_four}
use Rattle.byte_slices.proofs.slices.Slices.skip.Goals as goal

pub returns-clause-joined : goal.returns-clause-joined
returns-clause-joined c =
    let s = c.args.self.now in
    let a : List ℕ = c.skip-count.new.slice.now in
    let b : List ℕ = c.skip-count-2.new.slice.now in
    let d : List ℕ = c.skip-count-3.new.slice.now in
    let e : List ℕ = c.skip.new.slice.now in
    let n = c.args.count in
    ap (λ (u : List ℕ). u ++ (b ++ (d ++ e))) c.skip-count.ensures.slice
    ∙ ap (λ (u : List ℕ). drop n s.first.now ++ (u ++ (d ++ e))) c.skip-count-2.ensures.slice
    ∙ ap (λ (u : List ℕ). drop n s.first.now ++ (drop c.skip-count.result s.second.now ++ (u ++ e))) c.skip-count-3.ensures.slice
    ∙ ap (λ (u : List ℕ). drop n s.first.now ++ (drop c.skip-count.result s.second.now ++ (drop c.skip-count-2.result s.third.now ++ u))) c.skip.ensures.slice
    ∙ drop_four n c.skip-count.result c.skip-count-2.result c.skip-count-3.result s.first.now s.second.now s.third.now s.fourth.now
    c.skip-count.ensures.left c.skip-count-2.ensures.left c.skip-count-3.ensures.left
