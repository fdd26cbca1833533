-- What the workers of a node share, where one of them changes.
use Rattle.std.proofs.Common.{◌≡◌, ◌+◌, ◌<◌, ◌≤◌, ◌∷◌, [], ℕ, zero, suc, List, ap, arith, length, refl, slice_index_or, slice_set}
use Rattle.std.proofs.lemmas.List.Sums.{sum_by-cons}
use Rattle.worker_connections.specs.Shares.{one_back, one_more, taken, with_share}
use Rattle.worker_connections.specs.declared.shares.Share.{Share}

pub set_with : (workers : List Share) (at : ℕ) (x : Share) (f : Share → Share) → at < length workers → x ≡ slice_index_or workers at x
    → slice_set workers at (f x) ≡ with_share at f workers
set_with [] at x f h e = refl
set_with (w ∷ ws) zero x f h e = ap (λ y. f y ∷ ws) e
set_with (w ∷ ws) (suc at) x f h e = ap (λ r. w ∷ r) (set_with ws at x f (omega (arith, h)) e)

pub past_with : (workers : List Share) (at : ℕ) (f : Share → Share) → length workers ≤ at → with_share at f workers ≡ workers
past_with [] at f h = refl
past_with (w ∷ ws) zero f h = absurd (omega (arith, h))
past_with (w ∷ ws) (suc at) f h = ap (λ r. w ∷ r) (past_with ws at f (omega (arith, h)))

-- one place more at most is taken
pub taken_more : (workers : List Share) (at : ℕ) → taken (with_share at one_more workers) ≤ taken workers + 1
taken_more [] at = omega arith
taken_more (w ∷ ws) zero = omega (arith, sum_by-cons (λ share. share.taken) (one_more w) ws, sum_by-cons (λ share. share.taken) w ws)
taken_more (w ∷ ws) (suc at) =
    omega (arith, taken_more ws at, sum_by-cons (λ share. share.taken) w (with_share at one_more ws), sum_by-cons (λ share. share.taken) w ws)

pub taken_back : (workers : List Share) (at : ℕ) → taken (with_share at one_back workers) ≤ taken workers
taken_back [] at = omega arith
taken_back (w ∷ ws) zero = omega (arith, sum_by-cons (λ share. share.taken) (one_back w) ws, sum_by-cons (λ share. share.taken) w ws)
taken_back (w ∷ ws) (suc at) =
    omega (arith, taken_back ws at, sum_by-cons (λ share. share.taken) w (with_share at one_back ws), sum_by-cons (λ share. share.taken) w ws)

-- what a worker says takes no place
pub taken_same : (workers : List Share) (at : ℕ) (f : Share → Share) → ((share : Share) → (f share).taken ≡ share.taken)
    → taken (with_share at f workers) ≡ taken workers
taken_same [] at f h = refl
taken_same (w ∷ ws) zero f h = omega (arith, h w, sum_by-cons (λ share. share.taken) (f w) ws, sum_by-cons (λ share. share.taken) w ws)
taken_same (w ∷ ws) (suc at) f h =
    omega (arith, taken_same ws at f h, sum_by-cons (λ share. share.taken) w (with_share at f ws), sum_by-cons (λ share. share.taken) w ws)
