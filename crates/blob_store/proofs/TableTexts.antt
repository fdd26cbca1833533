-- The text of a table, and what it is read as.
use Rattle.std.proofs.Common.{◌≡◌, ℕ, ◌+◌, ◌*◌, ◌≤◌, List, [], ◌∷◌, ◌++◌, length, map, take, drop, zero, suc, refl, sym, ap, subst, ◌∙◌, arith, All}
use Rattle.std.proofs.lemmas.List.{take-append-drop, length-drop, length-append, length-take, nil_from_length}
use Rattle.std.proofs.lemmas.List.{drop_at, take_at}
use Rattle.std.proofs.lemmas.List.Elements.{All-from_recursion, recursion_from_All}
use Rattle.std.specs.List.{AllByRecursion}
use Rattle.std.proofs.lemmas.Nat.{from_be_bytes-to_be_bytes_8}
use Rattle.std.specs.List.{concat}
use Rattle.std.specs.Simd.{first_chunks}
use Rattle.std.specs.Int.{w64, to_be_bytes, from_be_bytes}
use Rattle.host_names.specs.declared.digests.Digest.{Digest}
use Rattle.blob_store.specs.Tables.{IsTable, Spells, pieces_of, size_of, text_of}

-- lists of 20 bytes, joined again
pub concat-first_chunks : (k : ℕ) (bytes : List ℕ) → length bytes ≡ k * 20 → concat (first_chunks 20 k bytes) ≡ bytes
concat-first_chunks zero bytes size = sym (nil_from_length bytes size)
concat-first_chunks (suc k) bytes size =
    let left = length-drop 20 bytes in
    ap (λ l. take 20 bytes ++ l) (concat-first_chunks k (drop 20 bytes) (omega (arith, left, size))) ∙ take-append-drop 20 bytes

-- a text that begins with a size, and has the names after it
pub text_with : (text : List ℕ) (size : ℕ) (names : List Digest) → to_be_bytes w64 size ≡ take 8 text → concat (map (λ name. name.0) names) ≡ drop 8 text → text ≡ text_of size names
text_with text size names front back =
    sym (take-append-drop 8 text) ∙ ap (λ l. l ++ drop 8 text) (sym front) ∙ ap (λ l. to_be_bytes w64 size ++ l) (sym back)

-- the size is read back
pub size_told : (size : ℕ) (names : List Digest) → size ≤ 16777216 → size_of (text_of size names) ≡ size
size_told size names small =
    let rest = concat (map (λ name. name.0) names) in
    let front : take 8 (text_of size names) ≡ to_be_bytes w64 size = take_at (to_be_bytes w64 size) rest 8 refl in
    ap (from_be_bytes w64) front ∙ from_be_bytes-to_be_bytes_8 size (omega arith)

length-names : (names : List Digest) → AllByRecursion (λ name. length name.0 ≡ 20) names → length (concat (map (λ name. name.0) names)) ≡ length names * 20
length-names [] each = refl
length-names (name ∷ names) each =
    let rest = length-names names each.1 in
    omega (arith, length-append name.0 (concat (map (λ n. n.0) names)), each.0, rest)

-- what is written is a table
pub is_table : (size : ℕ) (names : List Digest) → size ≤ 16777216 → length names ≡ pieces_of size → All (λ name. length name.0 ≡ 20) names → IsTable (text_of size names)
is_table size names small count each =
    let rest = concat (map (λ name. name.0) names) in
    let told = size_told size names small in
    let all : length (text_of size names) ≡ 8 + length rest = length-append (to_be_bytes w64 size) rest in
    let after = length-names names (recursion_from_All (λ name. length name.0 ≡ 20) names each) in
    record {
      long = omega (arith, all);
      small = omega (arith, told, small);
      room = omega (arith, all, after, count, told);
    }

-- each name that is read has 20 bytes
chunks_sized : (k : ℕ) (bytes : List ℕ) → length bytes ≡ k * 20 → AllByRecursion (λ (b : List ℕ). length b ≡ 20) (first_chunks 20 k bytes)
chunks_sized zero bytes size = tt
chunks_sized (suc k) bytes size =
    let left = length-drop 20 bytes in
    let front = length-take 20 bytes in
    (omega (arith, front, size), chunks_sized k (drop 20 bytes) (omega (arith, left, size)))

names_sized : (names : List Digest) → AllByRecursion (λ (b : List ℕ). length b ≡ 20) (map (λ (name : Digest). name.0) names) → AllByRecursion (λ (name : Digest). length name.0 ≡ 20) names
names_sized [] each = tt
names_sized (name ∷ names) each = (each.0, names_sized names each.1)

pub all_sized : (k : ℕ) (bytes : List ℕ) (names : List Digest) → length bytes ≡ k * 20 → map (λ (name : Digest). name.0) names ≡ first_chunks 20 k bytes
    → All (λ (name : Digest). length name.0 ≡ 20) names
all_sized k bytes names size are =
    let P : List (List ℕ) → Type 0 = AllByRecursion (λ (b : List ℕ). length b ≡ 20) in
    All-from_recursion (λ (name : Digest). length name.0 ≡ 20) names (names_sized names (subst P (sym are) (chunks_sized k bytes size)))

-- bytes as names
abbrev as_names : List (List ℕ) → List Digest
as_names parts = map (λ (bytes : List ℕ). record { 0 = bytes }) parts

names_back : (parts : List (List ℕ)) → map (λ (name : Digest). name.0) (as_names parts) ≡ parts
names_back [] = refl
names_back (part ∷ parts) = ap (λ l. part ∷ l) (names_back parts)

length-as_names : (k : ℕ) (bytes : List ℕ) → length (as_names (first_chunks 20 k bytes)) ≡ k
length-as_names zero bytes = refl
length-as_names (suc k) bytes =
    let rest = length-as_names k (drop 20 bytes) in
    omega (arith, rest)

-- a table names what follows its size
pub names_behind : (text : List ℕ) (size : ℕ) → IsTable text → size ≡ size_of text → to_be_bytes w64 size ≡ take 8 text → (names : List Digest) × Spells text size names
names_behind text size table told front =
    let k = pieces_of size in
    let bytes = drop 8 text in
    let names = as_names (first_chunks 20 k bytes) in
    let back = names_back (first_chunks 20 k bytes) in
    let left = length-drop 8 text in
    let room : length bytes ≡ k * 20 = omega (arith, left, table.room, table.long, ap pieces_of told) in (
      names,
      record {
        small = omega (arith, told, table.small);
        count = length-as_names k bytes;
        named = all_sized k bytes names room back;
        spelled = text_with text size names front (ap concat back ∙ concat-first_chunks k bytes room);
      },
    )

-- the names are read back
concat_told : (names others : List Digest) → AllByRecursion (λ (name : Digest). length name.0 ≡ 20) names → AllByRecursion (λ (name : Digest). length name.0 ≡ 20) others
    → concat (map (λ (name : Digest). name.0) names) ≡ concat (map (λ (name : Digest). name.0) others) → names ≡ others
concat_told [] [] each of_others e = refl
concat_told [] (o ∷ others) each of_others e =
    let counted = ap length e ∙ length-append o.0 (concat (map (λ (name : Digest). name.0) others)) in
    absurd (omega (arith, counted, of_others.0))
concat_told (n ∷ names) [] each of_others e =
    let counted = sym (length-append n.0 (concat (map (λ (name : Digest). name.0) names))) ∙ ap length e in
    absurd (omega (arith, counted, each.0))
concat_told (n ∷ names) (o ∷ others) each of_others e =
    let one = concat (map (λ (name : Digest). name.0) names) in
    let two = concat (map (λ (name : Digest). name.0) others) in
    let front : n.0 ≡ o.0 = sym (take_at n.0 one 20 each.0) ∙ ap (take 20) e ∙ take_at o.0 two 20 of_others.0 in
    let back : one ≡ two = sym (drop_at n.0 one 20 each.0) ∙ ap (drop 20) e ∙ drop_at o.0 two 20 of_others.0 in
    let same : n ≡ o = ap (λ (bytes : List ℕ). record { 0 = bytes }) front in
    ap (λ (d : Digest). d ∷ names) same ∙ ap (λ l. o ∷ l) (concat_told names others each.1 of_others.1 back)

pub names_told : (size other : ℕ) (names others : List Digest) → AllByRecursion (λ (name : Digest). length name.0 ≡ 20) names
    → AllByRecursion (λ (name : Digest). length name.0 ≡ 20) others → text_of size names ≡ text_of other others → names ≡ others
names_told size other names others each of_others e =
    concat_told names others each of_others
    (sym (drop_at (to_be_bytes w64 size) (concat (map (λ (name : Digest). name.0) names)) 8 refl) ∙ ap (drop 8) e
    ∙ drop_at (to_be_bytes w64 other) (concat (map (λ (name : Digest). name.0) others)) 8 refl)
