-- The pieces of a file.
use Rattle.std.proofs.Common.{◌≡◌, ℕ, ◌+◌, ◌-◌, ◌*◌, ◌/◌, ◌%◌, ◌<◌, ◌≤◌, List, [], ◌∷◌, ◌++◌, length, get_or, take, drop, zero, suc, refl, sym, ap, ◌∙◌, arith, min, map}
use Rattle.std.proofs.Math.Seq.{take-add}
use Rattle.std.proofs.lemmas.List.{length-drop, length-take, length-append, drop-drop, take_at, drop_at, take_min, drop_min, take_all, get_or-take, get_or-drop}
use Rattle.std.specs.List.{concat}
use Rattle.host_names.specs.Digests.{digest_of}
use Rattle.byte_view.specs.Cuts.{cut, cut_into, names_of, pieces_met}

pub length-cut_into : (n : ℕ) (file : List ℕ) → length (cut_into n file) ≡ n
length-cut_into zero file = refl
length-cut_into (suc n) file = ap suc (length-cut_into n (drop 65536 file))

pub length-cut : (file : List ℕ) → length (cut file) ≡ (length file + 65535) / 65536
length-cut file = length-cut_into ((length file + 65535) / 65536) file

pub take-cut_into : (m n : ℕ) (file : List ℕ) → m ≤ n → take m (cut_into n file) ≡ cut_into m file
take-cut_into zero n file le = refl
take-cut_into (suc m) zero file le = absurd (omega arith)
take-cut_into (suc m) (suc n) file le = ap (λ l. take 65536 file ∷ l) (take-cut_into m n (drop 65536 file) (omega arith))

drop-cut_into : (m n : ℕ) (file : List ℕ) → m ≤ n → drop m (cut_into n file) ≡ cut_into (n - m) (drop (m * 65536) file)
drop-cut_into zero n file le = ap (λ k. cut_into k file) (omega arith)
drop-cut_into (suc m) zero file le = absurd (omega arith)
drop-cut_into (suc m) (suc n) file le =
    drop-cut_into m n (drop 65536 file) (omega arith) ∙ ap (cut_into (n - m)) (drop-drop (m * 65536) 65536 file)
    ∙ ap (λ k. cut_into (n - m) (drop k file)) (omega arith) ∙ ap (λ k. cut_into k (drop (suc m * 65536) file)) (omega arith)

-- they are the file's front
pub concat-cut_into : (n : ℕ) (file : List ℕ) → concat (cut_into n file) ≡ take (n * 65536) file
concat-cut_into zero file = refl
concat-cut_into (suc n) file =
    ap (λ l. take 65536 file ++ l) (concat-cut_into n (drop 65536 file)) ∙ sym (take-add 65536 (n * 65536) file)
    ∙ ap (λ k. take k file) (omega arith)

pub concat-cut : (file : List ℕ) → concat (cut file) ≡ file
concat-cut file = concat-cut_into ((length file + 65535) / 65536) file ∙ take_all _ file (omega arith)

pub size_at : (n k : ℕ) (file : List ℕ) → k < n → length (get_or (cut_into n file) k []) ≡ min 65536 (length file - k * 65536)
size_at zero k file lt = absurd (omega arith)
size_at (suc n) zero file lt = length-take 65536 file ∙ ap (min 65536) (omega arith)
size_at (suc n) (suc k) file lt =
    let rest = length-drop 65536 file in
    size_at n k (drop 65536 file) (omega arith) ∙ ap (min 65536) (omega (arith, rest))

-- the byte at a place of a piece
pub byte_at : (n k i : ℕ) (file : List ℕ) (d : ℕ) → k < n → i < 65536 → get_or (get_or (cut_into n file) k []) i d ≡ get_or file (k * 65536 + i) d
byte_at zero k i file d lt small = absurd (omega arith)
byte_at (suc n) zero i file d lt small = get_or-take 65536 file i d small ∙ ap (λ j. get_or file j d) (omega arith)
byte_at (suc n) (suc k) i file d lt small =
    byte_at n k i (drop 65536 file) d (omega arith) small ∙ get_or-drop 65536 file (k * 65536 + i) d
    ∙ ap (λ j. get_or file j d) (omega arith)

-- the pieces that a stretch meets
pub met-cut_into : (file : List ℕ) (first last : ℕ) → first ≤ last → last < length file
    → pieces_met file first last ≡ cut_into (last / 65536 + 1 - first / 65536) (drop (first / 65536 * 65536) file)
met-cut_into file first last ordered within =
    let n = (length file + 65535) / 65536 in let p = first / 65536 in let q = last / 65536 + 1 in
    ap (take (q - p)) (drop-cut_into p n file (omega arith)) ∙ take-cut_into (q - p) (n - p) (drop (p * 65536) file) (omega arith)

-- one more piece
pub names_of-piece : (file piece rest : List ℕ) → file ≡ piece ++ rest → length piece ≡ min 65536 (length file) → 0 < length file → names_of file ≡ digest_of piece ∷ names_of rest
names_of-piece file piece rest is size some =
    let sum : length file ≡ length piece + length rest = ap length is ∙ length-append piece rest in
    let more : (length file + 65535) / 65536 ≡ suc ((length rest + 65535) / 65536) = omega arith in
    let front : take 65536 file ≡ piece = sym (take_min 65536 file) ∙ ap (λ k. take k file) (sym size) ∙ ap (take (length piece)) is ∙ take_at piece rest (length piece) refl in
    let back : drop 65536 file ≡ rest = sym (drop_min 65536 file) ∙ ap (λ k. drop k file) (sym size) ∙ ap (drop (length piece)) is ∙ drop_at piece rest (length piece) refl in
    ap (λ k. map digest_of (cut_into k file)) more
    ∙ ap (λ l. digest_of l ∷ map digest_of (cut_into ((length rest + 65535) / 65536) (drop 65536 file))) front
    ∙ ap (λ l. digest_of piece ∷ map digest_of (cut_into ((length rest + 65535) / 65536) l)) back

-- a piece of a file, and the byte at its place
pub size_in : (file : List ℕ) (k : ℕ) → k < length (cut file) → length (get_or (cut file) k []) ≡ min 65536 (length file - k * 65536)
size_in file k lt = let count = length-cut file in size_at ((length file + 65535) / 65536) k file (omega (arith, count, lt))

pub byte_in : (file : List ℕ) (i : ℕ) → i < length file → get_or (get_or (cut file) (i / 65536) []) (i % 65536) 0 ≡ get_or file i 0
byte_in file i lt =
    let e : i / 65536 * 65536 + i % 65536 ≡ i = omega arith in
    byte_at ((length file + 65535) / 65536) (i / 65536) (i % 65536) file 0 (omega arith) (omega arith) ∙ ap (λ k. get_or file k 0) e
