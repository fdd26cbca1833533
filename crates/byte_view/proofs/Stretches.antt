-- Stretches of a hold.
use Rattle.std.proofs.Common.{◌≡◌, ℕ, ◌+◌, ◌-◌, ◌*◌, ◌<◌, ◌≤◌, List, [], ◌∷◌, length, drop, sym, ap, ◌∙◌, arith, map, All}
use Rattle.std.proofs.lemmas.List.{length-drop, length-map, get_or-map, ext_get_or}
use Rattle.std.proofs.lemmas.List.Elements.{All-head, All-tail, All-take, All-drop, All-contains_itself}
use Rattle.std.specs.Prelude.{Contains, slice_range}
use Rattle.std.specs.List.{concat}
use Rattle.host_names.specs.Digests.{digest_of}
use Rattle.byte_view.specs.Cuts.{IsPure, cut, cut_into, pieces_met, place_of, slice}
use Rattle.byte_view.specs.Parts.{HaveSizes, parts}
use Rattle.byte_view.specs.Holds.{Held, IsHeld, LiesIn, chunks_met, held_part, lent}
use Rattle.byte_view.proofs.Slices.{slice_range-map, slice_range-slice_range, slice_range-within}
use Rattle.byte_view.proofs.CutPieces.{concat-cut_into, length-cut_into, met-cut_into, size_at}
use Rattle.byte_view.proofs.Followed.{concat-parts, concat-slice_range, filled, followed}

-- ---- the sizes of chunks

-- as many chunks as pieces have the sizes of these exactly where their lengths are the same
long_exactly : (n : ℕ) (file : List ℕ) (cs : List (List ℕ)) → length cs ≡ n
    → (HaveSizes cs (length file) → map length cs ≡ map length (cut_into n file)) × (map length cs ≡ map length (cut_into n file) → HaveSizes cs (length file))
long_exactly n file cs count =
    let pieces = length-cut_into n file in
    let ours = length-map cs (length {A = ℕ}) in
    let theirs = length-map (cut_into n file) (length {A = ℕ}) in (
      (λ sizes. ext_get_or 0 (map length cs) (map length (cut_into n file)) (omega (arith, pieces, ours, theirs, count))
          (λ i lt. get_or-map length cs i [] 0 (omega (arith, ours, lt)) ∙ sizes i (omega (arith, ours, lt))
          ∙ sym (get_or-map length (cut_into n file) i [] 0 (omega (arith, ours, count, pieces, lt)) ∙ size_at n i file (omega (arith, ours, count, lt))))),
      (λ e k lt. sym (get_or-map length cs k [] 0 lt) ∙ ap (λ l. lib.ListN.get_or l k 0) e
          ∙ get_or-map length (cut_into n file) k [] 0 (omega (arith, count, pieces, lt)) ∙ size_at n k file (omega (arith, count, lt))),
    )

-- how many pieces a stretch meets
met_count : (file : List ℕ) (first last : ℕ) → first ≤ last → last < length file → length (pieces_met file first last) ≡ place_of last + 1 - place_of first
met_count file first last ordered within = ap length (met-cut_into file first last ordered within) ∙ length-cut_into _ _

-- chunks with the names of the pieces that a stretch meets
module _ (file : List ℕ) (first last : ℕ) (cs : List (List ℕ)) (ordered : first ≤ last) (within : last < length file)
    (named : map digest_of cs ≡ map digest_of (pieces_met file first last)) where
  count : length cs ≡ place_of last + 1 - place_of first
  count =
      sym (length-map cs digest_of) ∙ ap length named ∙ length-map (pieces_met file first last) digest_of
      ∙ met_count file first last ordered within

  pub long_from_sizes : HaveSizes cs (length file - place_of first * 65536) → map length cs ≡ map length (pieces_met file first last)
  long_from_sizes sizes =
      let n = place_of last + 1 - place_of first in let rest = drop (place_of first * 65536) file in
      let left : length rest ≡ length file - place_of first * 65536 = length-drop (place_of first * 65536) file in
      (long_exactly n rest cs count).0 (λ k lt. rw left (sizes k lt)) ∙ sym (ap (map length) (met-cut_into file first last ordered within))

  pub sizes_from_long : map length cs ≡ map length (pieces_met file first last) → HaveSizes cs (length file - place_of first * 65536)
  sizes_from_long e k lt =
      let n = place_of last + 1 - place_of first in let rest = drop (place_of first * 65536) file in
      let left : length rest ≡ length file - place_of first * 65536 = length-drop (place_of first * 65536) file in
      rw (← left) ((long_exactly n rest cs count).1 (e ∙ ap (map length) (met-cut_into file first last ordered within)) k lt)

-- ---- a stretch of a hold

-- chunks that have what the pieces have whose names and lengths were compared
met_same : {Y : Type 0} (f : List ℕ → Y) (h : Held) (first last : ℕ) → LiesIn h first last → map f h.chunks ≡ map f (pieces_met h.file h.first h.last)
    → map f (chunks_met h first last) ≡ map f (pieces_met h.file first last)
met_same f h first last lies same =
    let i = place_of first - place_of h.first in let j = place_of last + 1 - place_of h.first in
    sym (slice_range-map f h.chunks i j) ∙ ap (λ l. slice_range l i j) same ∙ slice_range-map f (pieces_met h.file h.first h.last) i j
    ∙ ap (map f) (slice_range-slice_range (cut h.file) (place_of h.first) (place_of h.last + 1) (place_of first) (place_of last + 1)
    (omega (arith, lies.from)) (omega (arith, lies.from, lies.ordered)) (omega (arith, lies.to)))

-- bytes that differ from no piece of the same digest are the piece whose name they have
same_pieces : (file : List ℕ) (cs ps : List (List ℕ)) → map digest_of cs ≡ map digest_of ps → All (IsPure file) cs → All (Contains (cut file)) ps → cs ≡ ps
same_pieces file [] [] e pure of_file = cc
same_pieces file [] (p ∷ ps) e pure of_file = absurd (cc)
same_pieces file (c ∷ cs) [] e pure of_file = absurd (cc)
same_pieces file (c ∷ cs) (p ∷ ps) e pure of_file =
    let first : digest_of c ≡ digest_of p = cc in
    let rest : map digest_of cs ≡ map digest_of ps = cc in
    let one : c ≡ p = All-head (IsPure file) c cs pure p (All-head (Contains (cut file)) p ps of_file) first in
    let others : cs ≡ ps = same_pieces file cs ps rest (All-tail (IsPure file) c cs pure) (All-tail (Contains (cut file)) p ps of_file) in
    cc

module _ (h : Held) (held : IsHeld h) (first last : ℕ) (lies : LiesIn h first last) where
  within : last < length h.file
  within = omega (arith, lies.to, held.within)

  met_long : map length (chunks_met h first last) ≡ map length (cut_into (place_of last + 1 - place_of first) (drop (place_of first * 65536) h.file))
  met_long =
      met_same length h first last lies held.long ∙ ap (map length) (met-cut_into h.file first last lies.ordered (omega (arith, lies.to, held.within)))

  pub lent-filled : All (λ piece. 0 < length piece) (lent h first last)
  lent-filled =
      let left = length-drop (place_of first * 65536) h.file in
      filled (place_of last + 1 - place_of first) (drop (place_of first * 65536) h.file) (chunks_met h first last)
      (first - place_of first * 65536) (last + 1 - place_of first * 65536) met_long
      (omega arith) (λ some. omega (arith, lies.ordered)) (omega arith) (omega (arith, left, lies.to, held.within))

  met_joined : concat (lent h first last) ≡ slice_range (concat (chunks_met h first last)) (first - place_of first * 65536) (last + 1 - place_of first * 65536)
  met_joined = concat-parts (chunks_met h first last) (first - place_of first * 65536) (last + 1 - place_of first * 65536)
      (followed (place_of last + 1 - place_of first) (drop (place_of first * 65536) h.file) (chunks_met h first last) met_long)

  pub lent-joined : concat (lent h first last) ≡ held_part h first last
  lent-joined =
      let all : map length h.chunks ≡ map length (cut_into (place_of h.last + 1 - place_of h.first) (drop (place_of h.first * 65536) h.file)) =
      held.long ∙ ap (map length) (met-cut_into h.file h.first h.last held.ordered held.within) in
      let i = place_of first - place_of h.first in
      let begins : i * 65536 + (first - place_of first * 65536) ≡ first - place_of h.first * 65536 = omega (arith, lies.from) in
      let ends : i * 65536 + (last + 1 - place_of first * 65536) ≡ last - place_of h.first * 65536 + 1 = omega (arith, lies.from, lies.ordered) in
      met_joined
      ∙ concat-slice_range h.chunks i (place_of last + 1 - place_of h.first) (first - place_of first * 65536) (last + 1 - place_of first * 65536)
      (followed (place_of h.last + 1 - place_of h.first) (drop (place_of h.first * 65536) h.file) h.chunks all) (omega (arith, lies.from, lies.ordered))
      ∙ ap (λ a. slice_range (concat h.chunks) a (i * 65536 + (last + 1 - place_of first * 65536))) begins
      ∙ ap (slice_range (concat h.chunks) (first - place_of h.first * 65536)) ends

  pub lent-pure : All (IsPure h.file) (chunks_met h first last) → concat (lent h first last) ≡ slice h.file first last
  lent-pure pure =
      let p = place_of first in let q = place_of last + 1 in
      let of_file = All-take (Contains (cut h.file)) (q - p) (drop p (cut h.file)) (All-drop (Contains (cut h.file)) p (cut h.file) (All-contains_itself (cut h.file))) in
      let same : chunks_met h first last ≡ pieces_met h.file first last =
      same_pieces h.file (chunks_met h first last) (pieces_met h.file first last) (met_same digest_of h first last lies held.named) pure of_file in
      let begins : p * 65536 + (first - p * 65536) ≡ first = omega arith in
      let ends : p * 65536 + (last + 1 - p * 65536) ≡ last + 1 = omega (arith, lies.ordered) in
      met_joined
      ∙ ap (λ l. slice_range (concat l) (first - p * 65536) (last + 1 - p * 65536)) (same ∙ met-cut_into h.file first last lies.ordered within)
      ∙ ap (λ l. slice_range l (first - p * 65536) (last + 1 - p * 65536)) (concat-cut_into (q - p) (drop (p * 65536) h.file))
      ∙ slice_range-within h.file (p * 65536) ((q - p) * 65536) (first - p * 65536) (last + 1 - p * 65536) (omega (arith, lies.ordered))
      ∙ ap (λ a. slice_range h.file a (p * 65536 + (last + 1 - p * 65536))) begins ∙ ap (slice_range h.file first) ends

-- how many chunks there are
pub length-held : (h : Held) → IsHeld h → length h.chunks ≡ place_of h.last + 1 - place_of h.first
length-held h held = count h.file h.first h.last h.chunks held.ordered held.within held.named

-- what is lent of a part of a list of chunks, whose bytes f shows
pub parts-shown : {C : Type 0} (f : C → List ℕ) (cs ds : List C) (i j from to : ℕ) → cs ≡ ds → parts (map f (slice_range cs i j)) from to ≡ parts (slice_range (map f ds) i j) from to
parts-shown f cs ds i j from to e =
    ap (λ l. parts l from to) (sym (slice_range-map f cs i j)) ∙ ap (λ l. parts (slice_range (map f l) i j) from to) e
