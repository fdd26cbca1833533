-- The pieces of a file, and their names.
use Rattle.std.proofs.Common.{◌≡◌, ◌+◌, ◌-◌, ℕ, List, [], ◌∷◌, ◌++◌, Contains, drop, length, map, refl, ap, ◌∙◌}
use Rattle.std.proofs.lemmas.List.Elements.{All-contains, All-contains_itself, All-drop, All-from_recursion, All-take, recursion_from_All}
use Rattle.std.specs.List.{AllByRecursion}
use Rattle.host_names.specs.declared.digests.Digest.{Digest}
use Rattle.host_names.specs.Digests.{digest_of}
use Rattle.byte_view.specs.Cuts.{IsPure, cut, names_of, pieces_met, place_of}
use Rattle.blob_store.specs.declared.shelves.ShelfName.TheVariants.{Part, Table}
use Rattle.blob_store.specs.Calls.{things_of}
use Rattle.blob_store.specs.Keeping.{Thing}
use Rattle.blob_store.specs.Tables.{text_of}

-- a piece of a file has this name
abbrev pub IsOfFile : List ℕ → Digest → Type 0
IsOfFile file name = (piece : List ℕ) × (name ≡ digest_of piece) × Contains (cut file) piece

module _ (file : List ℕ) where
  -- those that a stretch meets are of the file
  met : (first last : ℕ) → AllByRecursion (Contains (cut file)) (pieces_met file first last)
  met first last =
      let C = Contains (cut file) in
      let from = drop (place_of first) (cut file) in
      let among = All-drop C (place_of first) (cut file) (All-contains_itself (cut file)) in
      recursion_from_All C (pieces_met file first last) (All-take C (place_of last + 1 - place_of first) from among)

  named : (pieces : List (List ℕ)) → AllByRecursion (Contains (cut file)) pieces → AllByRecursion (IsOfFile file) (map digest_of pieces)
  named [] among = tt
  named (piece ∷ pieces) among = ((piece, refl, among.0), named pieces among.1)

  pub names_met : (first last : ℕ) → AllByRecursion (IsOfFile file) (map digest_of (pieces_met file first last))
  names_met first last = named (pieces_met file first last) (met first last)

  -- chunks that differ from no piece are those whose names they have
  same_pieces : (chunks pieces : List (List ℕ)) → map digest_of chunks ≡ map digest_of pieces → AllByRecursion (IsPure file) chunks
      → AllByRecursion (Contains (cut file)) pieces → chunks ≡ pieces
  same_pieces [] [] names pure among = refl
  same_pieces [] (p ∷ pieces) names pure among = absurd (cc names)
  same_pieces (c ∷ chunks) [] names pure among = absurd (cc names)
  same_pieces (c ∷ chunks) (p ∷ pieces) names pure among =
      let first : digest_of c ≡ digest_of p = cc names in
      let rest : map digest_of chunks ≡ map digest_of pieces = cc names in
      ap (λ piece. piece ∷ chunks) (pure.0 p among.0 first) ∙ ap (λ others. p ∷ others) (same_pieces chunks pieces rest pure.1 among.1)

  pub are_met : (chunks : List (List ℕ)) (first last : ℕ) → map digest_of chunks ≡ map digest_of (pieces_met file first last) → AllByRecursion (IsPure file) chunks
      → chunks ≡ pieces_met file first last
  are_met chunks first last names pure = same_pieces chunks (pieces_met file first last) names pure (met first last)

  parts_among : (things : List Thing) (pieces : List (List ℕ)) (table : Thing)
      → AllByRecursion (Contains things) (map (λ piece. (Part (digest_of piece), piece)) pieces ++ table ∷ [])
      → AllByRecursion (λ piece. Contains things (Part (digest_of piece), piece)) pieces
  parts_among things [] table among = tt
  parts_among things (piece ∷ pieces) table among = (among.0, parts_among things pieces table among.1)

  -- a piece is among what is put on a shelf of the file
  pub among_things : (piece : List ℕ) → Contains (cut file) piece → Contains (things_of file) (Part (digest_of piece), piece)
  among_things piece of =
      let things = things_of file in
      let table : Thing = (Table (digest_of file), text_of (length file) (names_of file)) in
      let P : List ℕ → Type 0 = λ p. Contains things (Part (digest_of p), p) in
      let each = parts_among things (cut file) table (recursion_from_All (Contains things) things (All-contains_itself things)) in
      All-contains P (cut file) piece (All-from_recursion P (cut file) each) of
