-- The next piece of a file.
use Rattle.std.proofs.Common.{◌≡◌, ℕ, ◌+◌, ◌*◌, ◌/◌, ◌%◌, ◌<◌, ◌≤◌, List, [], ◌∷◌, ◌++◌, length, get_or, take, drop, map, zero, suc, refl, sym, ap, ◌∙◌, arith}
use Rattle.std.proofs.lemmas.List.{length-append, length-drop, length-take-le, map-append, take_all, take-append-le, drop-append-le, nil_from_length}
use Rattle.std.proofs.Math.Seq.{get_or-append_seam, take-append_seam}
use Rattle.std.specs.List.{concat}
use Rattle.sha1.specs.Sha1.{sha1, digest_bytes}
use Rattle.host_names.specs.Digests.{digest_of}
use Rattle.byte_view.specs.Cuts.{Follows, cut, cut_into, names_of}
use Rattle.byte_view.proofs.CutPieces.{concat-cut, concat-cut_into, length-cut, size_at, take-cut_into}

-- whole pieces, and then one that isn't empty
cut_into-next : (n : ℕ) (before piece : List ℕ) → length before ≡ n * 65536 → length piece ≤ 65536 → cut_into (suc n) (before ++ piece) ≡ cut_into n before ++ piece ∷ []
cut_into-next zero before piece size small =
    let none : before ≡ [] = nil_from_length before size in
    let all : take 65536 piece ≡ piece = take_all 65536 piece small in
    rw none (ap (λ l. l ∷ []) all)
cut_into-next (suc n) before piece size small =
    let left = length-drop 65536 before in
    let long : 65536 ≤ length before = omega (arith, size) in
    let front : take 65536 (before ++ piece) ≡ take 65536 before = take-append-le 65536 before piece long in
    let back : drop 65536 (before ++ piece) ≡ drop 65536 before ++ piece = drop-append-le 65536 before piece long in
    ap (λ l. l ∷ cut_into (suc n) (drop 65536 (before ++ piece))) front
    ∙ ap (λ l. take 65536 before ∷ cut_into (suc n) l) back
    ∙ ap (λ l. take 65536 before ∷ l) (cut_into-next n (drop 65536 before) piece (omega (arith, left, size)) small)

pub cut-next : (before piece : List ℕ) → length before % 65536 ≡ 0 → 0 < length piece → length piece ≤ 65536 → cut (before ++ piece) ≡ cut before ++ piece ∷ []
cut-next before piece whole some small =
    let n = (length before + 65535) / 65536 in
    let sum = length-append before piece in
    let more : (length (before ++ piece) + 65535) / 65536 ≡ suc n = omega (arith, sum, whole, some, small) in
    ap (λ k. cut_into k (before ++ piece)) more ∙ cut_into-next n before piece (omega (arith, whole)) small

pub names-next : (before piece : List ℕ) → cut (before ++ piece) ≡ cut before ++ piece ∷ [] → names_of (before ++ piece) ≡ names_of before ++ digest_of piece ∷ []
names-next before piece e = ap (map digest_of) e ∙ map-append digest_of (cut before) (piece ∷ [])

-- which bytes are the next piece
pub next_fits : (before piece : List ℕ) → cut (before ++ piece) ≡ cut before ++ piece ∷ [] → (length before % 65536 ≡ 0) × (0 < length piece) × (length piece ≤ 65536)
next_fits before piece e =
    let n = (length before + 65535) / 65536 in
    let sum = length-append before piece in
    let counts : length (cut (before ++ piece)) ≡ length (cut before) + 1 = ap length e ∙ length-append (cut before) (piece ∷ []) in
    let all = length-cut (before ++ piece) in
    let some = length-cut before in
    let last : length (get_or (cut (before ++ piece)) n []) ≡ length piece =
    ap (λ l. length (get_or l n [])) e ∙ ap (λ k. length (get_or (cut before ++ piece ∷ []) k [])) (sym some) ∙ ap length (get_or-append_seam (cut before) piece [] []) in
    let size = size_at ((length (before ++ piece) + 65535) / 65536) n (before ++ piece) (omega (arith, counts, all, some)) in
    (omega (arith, counts, all, some, last, size, sum), omega (arith, counts, all, some, last, size, sum), omega (arith, last, size))

-- what is known of a length tells whether the bytes are the next piece
pub follows_by : (before piece : List ℕ) (size count : ℕ) → size ≡ length before → count ≡ length piece
    → (size % 65536 ≡ 0) × (0 < count) × (count ≤ 65536) × (size + count ≤ 16777216) → Follows before piece
follows_by before piece size count whole long fits =
    let sum = length-append before piece in (
      cut-next before piece (omega (arith, whole, fits.0)) (omega (arith, long, fits.1)) (omega (arith, long, fits.2)),
      omega (arith, sum, whole, long, fits.3),
    )

pub fits_by : (before piece : List ℕ) (size count : ℕ) → size ≡ length before → count ≡ length piece
    → Follows before piece → (size % 65536 ≡ 0) × (0 < count) × (count ≤ 65536) × (size + count ≤ 16777216)
fits_by before piece size count whole long follows =
    let sum = length-append before piece in
    let fits = next_fits before piece follows.0 in
    (omega (arith, whole, fits.0), omega (arith, long, fits.1), omega (arith, long, fits.2), omega (arith, sum, whole, long, follows.1))

-- a file whose pieces begin with those of these bytes, and then this one
pub follows_in : (file before piece : List ℕ) (rest : List (List ℕ)) → length file ≤ 16777216 → cut file ≡ cut before ++ piece ∷ rest → Follows before piece
follows_in file before piece rest small e =
    let n = length (cut before) in
    let all = length-cut file in
    let counts : length (cut file) ≡ n + suc (length rest) = ap length e ∙ length-append (cut before) (piece ∷ rest) in
    let within : n < (length file + 65535) / 65536 = omega (arith, counts, all) in
    let here : get_or (cut file) n [] ≡ piece = ap (λ l. get_or l n []) e ∙ get_or-append_seam (cut before) piece rest [] in
    let size : length piece ≡ _ = sym (ap length here) ∙ size_at ((length file + 65535) / 65536) n file within in
    let front : before ≡ take (n * 65536) file =
    sym (concat-cut before) ∙ ap concat (sym (take-append_seam (cut before) (piece ∷ rest)) ∙ ap (take n) (sym e)
    ∙ take-cut_into n ((length file + 65535) / 65536) file (omega (arith, within))) ∙ concat-cut_into n file in
    let whole : length before ≡ n * 65536 = ap length front ∙ length-take-le (n * 65536) file (omega (arith, within)) in
    let sum = length-append before piece in (
      cut-next before piece (omega (arith, whole)) (omega (arith, size, within)) (omega (arith, size)),
      omega (arith, sum, whole, size, within, small),
    )

-- a digest has 20 bytes
pub length-digest : (bytes : List ℕ) → length (digest_of bytes).0 ≡ 20
unfolding sha1 digest_bytes
length-digest bytes = refl
