-- Which bytes begin with no whole record.
use Rattle.std.proofs.Common.{◌≡◌, ◌⊎◌, ℕ, ◌+◌, ◌<◌, ◌≤◌, ◌^◌, List, ◌∷◌, ◌++◌, length, take, drop, inl, inr, refl, sym, ◌∙◌, ap, subst, arith, append_assoc, length-append}
use Rattle.std.proofs.lemmas.List.{take_at, append_cancel_left}
use Rattle.std.proofs.lemmas.Nat.{from_be_bytes-to_be_bytes_4}
use Rattle.std.specs.Int.{w32, to_be_bytes, from_be_bytes}
use Rattle.record_file.specs.Frames.{framed}
use Rattle.record_file.specs.Walks.{IsNoRecord, IsNotWhole, IsShort}

-- a length that bytes begin with is the only one
pub same_length : (n m : ℕ) (xs ys : List ℕ) → n < 2 ^ 32 → m < 2 ^ 32 → to_be_bytes w32 n ++ xs ≡ to_be_bytes w32 m ++ ys → (n ≡ m) × (xs ≡ ys)
same_length n m xs ys small less same =
    let front : to_be_bytes w32 n ≡ to_be_bytes w32 m = ap (take 4) same in (
      sym (from_be_bytes-to_be_bytes_4 n small) ∙ ap (from_be_bytes w32) front ∙ from_be_bytes-to_be_bytes_4 m less,
      ap (drop 4) same,
    )

-- a frame begins with its length
pub framed_with : (body rest : List ℕ) → framed body ++ rest ≡ to_be_bytes w32 (length body) ++ (body ++ rest)
unfolding framed
framed_with body rest = append_assoc (to_be_bytes w32 (length body)) body rest

pub framed_size : (body rest : List ℕ) → length (framed body ++ rest) ≡ 4 + length (body ++ rest)
framed_size body rest = omega (arith, ap length (framed_with body rest))

-- too few bytes for a length and a gate
pub too_few : (bytes : List ℕ) → length bytes < 5 → IsNotWhole bytes
too_few bytes few body gate rest is short =
    let all : length bytes ≡ 4 + length (body ++ gate ∷ rest) = ap length is ∙ framed_size body (gate ∷ rest) in
    omega (arith, length-append body (gate ∷ rest))

-- the length is too great, or there are too few bytes for the body and a gate
pub too_long : (bytes after : List ℕ) (n : ℕ) → n < 2 ^ 32 → bytes ≡ to_be_bytes w32 n ++ after → (10470070 < n) ⊎ (length bytes < n + 5) → IsNotWhole bytes
too_long bytes after n fits told long body gate rest is short =
    let told_here : (n ≡ length body) × (after ≡ body ++ gate ∷ rest) =
    same_length n (length body) after (body ++ gate ∷ rest) fits (omega (arith, short)) (sym told ∙ is ∙ framed_with body (gate ∷ rest)) in
    let all : length bytes ≡ 4 + length (body ++ gate ∷ rest) = ap length is ∙ framed_size body (gate ∷ rest) in
    by_size long told_here.0 (omega (arith, length-append body (gate ∷ rest)))
  where
    by_size : (10470070 < n) ⊎ (length bytes < n + 5) → n ≡ length body → length body + 5 ≤ length bytes → ⊥
    by_size (inl great) same room = omega (arith, short)
    by_size (inr few) same room = omega arith

-- the body behind its length
pub framed_there : (file : List ℕ) (at n : ℕ) (body : List ℕ) → length body ≡ n → drop (at + 1) file ≡ to_be_bytes w32 n ++ drop (at + 5) file → drop (at + 5) file ≡ body ++ drop (at + 5 + n) file → drop (at + 1) file ≡ framed body ++ drop (at + 5 + length body) file
framed_there file at n body has told there =
    told
    ∙ ap (λ (l : List ℕ). to_be_bytes w32 n ++ l) there
    ∙ ap (λ (k : ℕ). to_be_bytes w32 k ++ (body ++ drop (at + 5 + k) file)) (sym has)
    ∙ sym (framed_with body (drop (at + 5 + length body) file))

-- a frame that bytes begin with is the only one
pub same_frame : (body other xs ys : List ℕ) → IsShort body → IsShort other → framed body ++ xs ≡ framed other ++ ys → (body ≡ other) × (xs ≡ ys)
same_frame body other xs ys short less same =
    let told = same_length (length body) (length other) (body ++ xs) (other ++ ys) (omega (arith, short)) (omega (arith, less)) (sym (framed_with body xs) ∙ same ∙ framed_with other ys) in
    let bodies : body ≡ other = sym (take_at body xs (length body) refl) ∙ ap (take (length body)) told.1 ∙ take_at other ys (length body) (sym told.0) in (
      bodies,
      append_cancel_left other xs ys (ap (λ (l : List ℕ). l ++ xs) (sym bodies) ∙ told.1),
    )

-- where the one body is none, there is no record
pub unlawful : (IsLawful : List ℕ → Type 0) (bytes body rest : List ℕ) → bytes ≡ framed body ++ rest → IsShort body → (IsLawful body → ⊥) → IsNoRecord IsLawful bytes
unlawful IsLawful bytes body rest is short none other gate after spelled less lawful =
    let same = same_frame body other rest (gate ∷ after) short less (sym is ∙ spelled) in
    none (subst IsLawful (sym same.0) lawful)
