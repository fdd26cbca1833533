use Rattle.std.proofs.Common.{◌++◌, ◌∙◌, List, ℕ, ap, take}
use Rattle.byte_slices.proofs.Joined.{take_four}
use Rattle.byte_slices.proofs.slices.Slices.up_to.Goals as goal

pub returns : goal.returns
returns c =
    let s = c.args.self.now in
    let a : List ℕ = c.limit-most.new.slice.now in
    let b : List ℕ = c.limit-most-2.new.slice.now in
    let d : List ℕ = c.limit-most-3.new.slice.now in
    let e : List ℕ = c.limit.new.slice.now in
    let n = c.args.most in
    ap (λ (u : List ℕ). u ++ (b ++ (d ++ e))) c.limit-most.ensures.slice
    ∙ ap (λ (u : List ℕ). take n s.first.now ++ (u ++ (d ++ e))) c.limit-most-2.ensures.slice
    ∙ ap (λ (u : List ℕ). take n s.first.now ++ (take c.limit-most.result s.second.now ++ (u ++ e))) c.limit-most-3.ensures.slice
    ∙ ap (λ (u : List ℕ). take n s.first.now ++ (take c.limit-most.result s.second.now ++ (take c.limit-most-2.result s.third.now ++ u))) c.limit.ensures.slice
    ∙ take_four n c.limit-most.result c.limit-most-2.result c.limit-most-3.result s.first.now s.second.now s.third.now s.fourth.now
    c.limit-most.ensures.left c.limit-most-2.ensures.left c.limit-most-3.ensures.left
