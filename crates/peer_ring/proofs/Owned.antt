-- The first point of a ring from a hash on.
use Rattle.std.proofs.Common.{◌≡◌, inl, inr, ℕ, ◌<◌, ◌≤◌, List, length, true, false, sym, subst, ◌∙◌, arith, slice_index_or, nat_lt}
use Rattle.std.specs.Prelude.{Contains}
use Rattle.std.specs.Cmp.{IsTotalOrder}
use Rattle.std.specs.List.Sorted.{IsPartitionPoint, IsPartitionedBy, IsPermutation, IsSorted}
use Rattle.std.specs.Ordering.{is_lt}
use Rattle.std.proofs.lemmas.Bool.Decides.{nat_tests}
use Rattle.std.proofs.lemmas.Cmp.{back_total, nat_cmp_total, on_total, then_total}
use Rattle.std.proofs.lemmas.List.{get_or_default}
use Rattle.std.proofs.lemmas.List.Elements.{Contains-get_or}
use Rattle.std.proofs.lemmas.List.Sorted.{Contains-permutation, IsPermutation-sym, ranks_by, sorted_far}
use Rattle.peer_ring.specs.declared.points.Point.{Point}
use Rattle.peer_ring.specs.Points.{point_cmp}
use Rattle.peer_ring.specs.Owners.{ComesFirst, IsNext, IsOwner}

points_total : IsTotalOrder point_cmp
points_total = then_total (on_total (λ p. p.hash) nat_cmp_total) (on_total (λ p. p.peer.0) (back_total nat_cmp_total))

-- what isn't after a point comes first of the two
comes_first : (p q : Point) → is_lt (point_cmp q p) ≡ false → ComesFirst p q
comes_first p q not_less = grind (arith, nat_tests)

-- of sorted points the earlier comes first
pub sorted_comes_first : (points : List Point) → IsSorted point_cmp points → (i j : ℕ) (d : Point) → i ≤ j → j < length points → ComesFirst (slice_index_or points i d) (slice_index_or points j d)
sorted_comes_first points sorted i j d le lt =
    comes_first _ _ (sorted_far (λ a b. is_lt (point_cmp a b)) (ranks_by points_total (λ p. p)) points sorted i j d le lt)

-- two points that each come first have one peer
same_peer : (p q : Point) → ComesFirst p q → ComesFirst q p → p.peer.0 ≡ q.peer.0
same_peer p q a b = grind arith

one_next : (points : List Point) (hash : ℕ) (p q : Point) → IsNext points hash p → IsNext points hash q → p.peer.0 ≡ q.peer.0
one_next points hash p q a b = same_peer p q (a.first q b.is_point b.not_below) (b.first p a.is_point a.not_below)

-- a point is next, and each is below
next_or_none : {G : Type 0} (points : List Point) (hash : ℕ) (p : Point) → IsNext points hash p → ((q : Point) → Contains points q → q.hash < hash) → G
next_or_none points hash p a none = absurd (let below = none p a.is_point in let above = a.not_below in omega arith)

pub one_owner : (points : List Point) (hash p q : ℕ) → IsOwner points hash p → IsOwner points hash q → p ≡ q
one_owner points hash p q (a, pa, inl na) (b, qb, inl nb) = sym pa ∙ (one_next points hash a b na nb ∙ qb)
one_owner points hash p q (a, pa, inl na) (b, qb, inr nb) = next_or_none points hash a na nb.0
one_owner points hash p q (a, pa, inr na) (b, qb, inl nb) = next_or_none points hash b nb na.0
one_owner points hash p q (a, pa, inr na) (b, qb, inr nb) = sym pa ∙ (one_next points 0 a b na.1 nb.1 ∙ qb)

-- where the points below a hash end, which are those before place i
abbrev pub Parts : List Point → ℕ → ℕ → Type 0
Parts points hash i = IsPartitionPoint (λ p. nat_lt p.hash hash ≡ true) (λ p. nat_lt p.hash hash ≡ false) points i

-- the points below a hash come before the others
pub sorted_parts : (points : List Point) → IsSorted point_cmp points → (hash : ℕ) → IsPartitionedBy (λ p. nat_lt p.hash hash) points
sorted_parts points sorted hash i j d le lt below =
    let first = sorted_comes_first points sorted i j d le lt in
    grind (arith, nat_tests)

below_at : (points : List Point) (hash k : ℕ) (d : Point) → nat_lt (slice_index_or points k d).hash hash ≡ true → hash ≤ (slice_index_or points k d).hash → ⊥
below_at points hash k d below not_below = grind (arith, nat_tests)

-- a point that isn't below the hash is at that place or after it
not_before : (points : List Point) (hash i k : ℕ) (d : Point) → Parts points hash i → hash ≤ (slice_index_or points k d).hash → i ≤ k
not_before points hash i k d parts not_below =
    let early : k < i → ⊥ = λ lt. below_at points hash k d (parts.0 k d (omega arith) lt) not_below in
    omega arith

-- a point at that place is not below the hash
at_least : (points : List Point) (hash i k : ℕ) (d : Point) → Parts points hash i → i ≤ k → k < length points → hash ≤ (slice_index_or points k d).hash
at_least points hash i k d parts le lt = let above = parts.1 k d le lt in grind (arith, nat_tests)

-- the point at that place is the next one
pub found_next : (points : List Point) → IsSorted point_cmp points → (hash i : ℕ) (d : Point) → i < length points → Parts points hash i → IsNext points hash (slice_index_or points i d)
found_next points sorted hash i d lt parts = record {
  is_point = Contains-get_or points i d lt;
  not_below = at_least points hash i i d parts (omega arith) lt;
  first = λ q at not_below.
      let k = at.0 in
      let le = not_before points hash i k q parts (subst (λ (p : Point). hash ≤ p.hash) (sym at.2) not_below) in
      subst (ComesFirst (slice_index_or points i d)) (get_or_default points k d q at.1 ∙ at.2) (sorted_comes_first points sorted i k d le at.1);
}

-- where there is no point from that place on, each is below the hash
pub all_below : (points : List Point) (hash i : ℕ) → length points ≤ i → Parts points hash i → (q : Point) → Contains points q → q.hash < hash
all_below points hash i past parts q at =
    subst (λ (p : Point). p.hash < hash) at.2 (let below = parts.0 at.0 q (omega arith) (let lt = at.1 in omega arith) in grind (arith, nat_tests))

-- and the first point is the next from 0 on
pub first_next : (points : List Point) → IsSorted point_cmp points → (d : Point) → 0 < length points → IsNext points 0 (slice_index_or points 0 d)
first_next points sorted d some = record {
  is_point = Contains-get_or points 0 d some;
  not_below = omega arith;
  first = λ q at _. subst (ComesFirst (slice_index_or points 0 d)) (get_or_default points at.0 d q at.1 ∙ at.2) (sorted_comes_first points sorted 0 at.0 d (omega arith) at.1);
}

-- what a read outside the points would give
abbrev pub no_point : Point
no_point = record { hash = 0; peer = record { 0 = 0 } }

-- points in another order have the same next point
next_moves : (points others : List Point) → IsPermutation points others → (hash : ℕ) (p : Point) → IsNext points hash p → IsNext others hash p
next_moves points others moved hash p next = record {
  is_point = Contains-permutation points others p moved next.is_point;
  not_below = next.not_below;
  first = λ q at. next.first q (Contains-permutation others points q (IsPermutation-sym points others moved) at);
}

pub owner_moves : (points others : List Point) (hash peer : ℕ) → IsPermutation points others → IsOwner points hash peer → IsOwner others hash peer
owner_moves points others hash peer moved (p, is, inl next) = (p, is, inl (next_moves points others moved hash p next))
owner_moves points others hash peer moved (p, is, inr none) =
    (p, is, inr ((λ q at. none.0 q (Contains-permutation others points q (IsPermutation-sym points others moved) at)), next_moves points others moved 0 p none.1))
