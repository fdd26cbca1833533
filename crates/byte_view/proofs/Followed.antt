-- Chunks as long as pieces that follow one another.
use Rattle.std.proofs.Common.{◌≡◌, ℕ, ◌+◌, ◌-◌, ◌*◌, ◌<◌, ◌≤◌, List, [], ◌∷◌, ◌++◌, length, take, drop, zero, suc, refl, sym, ap, ◌∙◌, arith, map, All}
use Rattle.std.proofs.Math.Seq.{take-nil, drop-nil, drop-append-add, take-append-add}
use Rattle.std.proofs.lemmas.List.{length-drop, length-take, length-append, take_all, drop_all}
use Rattle.std.proofs.lemmas.List.Elements.{All-nil, All-cons}
use Rattle.std.specs.Prelude.{slice_range}
use Rattle.std.specs.List.{concat}
use Rattle.byte_view.specs.Cuts.{cut_into}
use Rattle.byte_view.specs.Parts.{parts}
use Rattle.byte_view.proofs.Slices.{slice_range-append, slice_range-nil, slice_range-within}
use Rattle.byte_view.proofs.CutPieces.{concat-cut_into}

-- a chunk after which there is a byte has 65,536 bytes, and none has more
pub Followed : List (List ℕ) → Type 0
Followed [] = Unit {0}
Followed (c ∷ cs) = (length c ≤ 65536) × (0 < length (concat cs) → length c ≡ 65536) × Followed cs

pub length-concat : (xs ys : List (List ℕ)) → map length xs ≡ map length ys → length (concat xs) ≡ length (concat ys)
length-concat [] [] e = refl
length-concat [] (y ∷ ys) e = absurd (cc)
length-concat (x ∷ xs) [] e = absurd (cc)
length-concat (x ∷ xs) (y ∷ ys) e =
    let first : length x ≡ length y = cc in
    let rest : length (concat xs) ≡ length (concat ys) = length-concat xs ys (cc) in
    omega (arith, length-append x (concat xs), length-append y (concat ys), first, rest)

pub followed : (n : ℕ) (file : List ℕ) (cs : List (List ℕ)) → map length cs ≡ map length (cut_into n file) → Followed cs
unfolding Followed
followed n file [] e = tt
followed zero file (c ∷ cs) e = absurd (cc)
followed (suc n) file (c ∷ cs) e =
    let first : length c ≡ length (take 65536 file) = cc in
    let rest : map length cs ≡ map length (cut_into n (drop 65536 file)) = cc in
    let size = length-take 65536 file in
    let after = length-concat cs (cut_into n (drop 65536 file)) rest ∙ ap length (concat-cut_into n (drop 65536 file)) ∙ length-take (n * 65536) (drop 65536 file) in
    let left = length-drop 65536 file in
    (omega (arith, first, size), (λ some. omega (arith, first, size, after, left, some)), followed n (drop 65536 file) cs rest)

followed-drop : (i : ℕ) (cs : List (List ℕ)) → Followed cs → Followed (drop i cs)
unfolding Followed
followed-drop zero cs f = f
followed-drop (suc i) [] f = tt
followed-drop (suc i) (c ∷ cs) f = followed-drop i cs f.2

-- ---- the seam after a chunk

drop_seam : (n : ℕ) (c rest : List ℕ) → length c ≤ 65536 → (0 < length rest → length c ≡ 65536) → drop (65536 + n) (c ++ rest) ≡ drop n rest
drop_seam n c [] small full =
    let size = length-append c [] in drop_all (65536 + n) (c ++ []) (omega (arith, size)) ∙ sym (drop-nil n)
drop_seam n c (x ∷ xs) small full =
    let e : 65536 + n ≡ length c + n = omega (arith, full (omega arith)) in ap (λ k. drop k (c ++ x ∷ xs)) e ∙ drop-append-add c (x ∷ xs) n

take_seam : (n : ℕ) (c rest : List ℕ) → length c ≤ 65536 → (0 < length rest → length c ≡ 65536) → take (65536 + n) (c ++ rest) ≡ c ++ take n rest
take_seam n c [] small full =
    let size = length-append c [] in take_all (65536 + n) (c ++ []) (omega (arith, size)) ∙ ap (λ l. c ++ l) (sym (take-nil n))
take_seam n c (x ∷ xs) small full =
    let e : 65536 + n ≡ length c + n = omega (arith, full (omega arith)) in ap (λ k. take k (c ++ x ∷ xs)) e ∙ take-append-add c (x ∷ xs) n

slice_seam : (a b : ℕ) (c rest : List ℕ) → (0 < length rest → length c ≡ 65536) → slice_range (c ++ rest) a b ≡ slice_range c a b ++ slice_range rest (a - 65536) (b - 65536)
slice_seam a b c [] full =
    slice_range-append c [] a b
    ∙ ap (λ l. slice_range c a b ++ l) (slice_range-nil (a - length c) (b - length c) ∙ sym (slice_range-nil (a - 65536) (b - 65536)))
slice_seam a b c (x ∷ xs) full =
    slice_range-append c (x ∷ xs) a b ∙ ap (λ k. slice_range c a b ++ slice_range (x ∷ xs) (a - k) (b - k)) (full (omega arith))

concat-drop : (i : ℕ) (cs : List (List ℕ)) → Followed cs → concat (drop i cs) ≡ drop (i * 65536) (concat cs)
unfolding Followed
concat-drop zero cs f = refl
concat-drop (suc i) [] f = sym (drop-nil (suc i * 65536))
concat-drop (suc i) (c ∷ cs) f =
    let e : 65536 + i * 65536 ≡ suc i * 65536 = omega arith in
    concat-drop i cs f.2 ∙ sym (drop_seam (i * 65536) c (concat cs) f.0 f.1) ∙ ap (λ k. drop k (c ++ concat cs)) e

concat-take : (i : ℕ) (cs : List (List ℕ)) → Followed cs → concat (take i cs) ≡ take (i * 65536) (concat cs)
unfolding Followed
concat-take zero cs f = refl
concat-take (suc i) [] f = sym (take-nil (suc i * 65536))
concat-take (suc i) (c ∷ cs) f =
    let e : 65536 + i * 65536 ≡ suc i * 65536 = omega arith in
    ap (λ l. c ++ l) (concat-take i cs f.2) ∙ sym (take_seam (i * 65536) c (concat cs) f.0 f.1) ∙ ap (λ k. take k (c ++ concat cs)) e

-- a part of some chunks, joined, is a part of all chunks, joined
pub concat-slice_range : (cs : List (List ℕ)) (i j a b : ℕ) → Followed cs → b ≤ (j - i) * 65536
    → slice_range (concat (slice_range cs i j)) a b ≡ slice_range (concat cs) (i * 65536 + a) (i * 65536 + b)
concat-slice_range cs i j a b f le =
    ap (λ l. slice_range l a b) (concat-take (j - i) (drop i cs) (followed-drop i cs f) ∙ ap (take ((j - i) * 65536)) (concat-drop i cs f))
    ∙ slice_range-within (concat cs) (i * 65536) ((j - i) * 65536) a b le

-- ---- what a stretch has of each

-- joined it is the stretch
pub concat-parts : (cs : List (List ℕ)) (from to : ℕ) → Followed cs → concat (parts cs from to) ≡ slice_range (concat cs) from to
unfolding Followed
concat-parts [] from to f = sym (slice_range-nil from to)
concat-parts (c ∷ cs) from to f =
    ap (λ l. slice_range c from to ++ l) (concat-parts cs (from - 65536) (to - 65536) f.2) ∙ sym (slice_seam from to c (concat cs) f.1)

-- there is a byte of each, if the stretch begins in the first and ends in the last
pub filled : (n : ℕ) (file : List ℕ) (cs : List (List ℕ)) (from to : ℕ) → map length cs ≡ map length (cut_into n file)
    → from < 65536 → (0 < n → from < to) → n * 65536 < to + 65536 → to ≤ length file → All (λ piece. 0 < length piece) (parts cs from to)
filled n file [] from to e starts some ends within = All-nil (λ piece. 0 < length piece)
filled zero file (c ∷ cs) from to e starts some ends within = absurd (cc)
filled (suc n) file (c ∷ cs) from to e starts some ends within =
    let rest : map length cs ≡ map length (cut_into n (drop 65536 file)) = cc in
    let first : length c ≡ length (take 65536 file) = cc in
    let size = length-take 65536 file in
    let left = length-drop 65536 file in
    let taken = length-take (to - from) (drop from c) in
    let dropped = length-drop from c in
    let more : from < to = some (omega arith) in
    All-cons (λ piece. 0 < length piece) (slice_range c from to) (parts cs (from - 65536) (to - 65536))
    (omega (arith, first, size, taken, dropped, more))
    (filled n (drop 65536 file) cs (from - 65536) (to - 65536) rest (omega arith) (λ one. omega arith) (omega arith) (omega (arith, left)))
