-- What shows that the device failed while a file was put on a shelf.
use Rattle.std.proofs.Common.{◌≡◌, inl, inr, List, ℕ, [], ◌∷◌, ◌++◌, Some, Contains, map, subst}
use Rattle.std.proofs.lemmas.List.Elements.{Contains-append_left, Contains-append_right}
use Rattle.std.specs.List.{AllByRecursion}
use Rattle.byte_view.specs.Contents.{Contents}
use Rattle.byte_view.specs.Cuts.{cut}
use Rattle.blob_store.specs.declared.shelves.ShelfName.{ShelfName}
use Rattle.blob_store.specs.declared.shelves.ShelfFault.{ShelfFault}
use Rattle.blob_store.specs.declared.shelves.ShelfFault.TheVariants.{Device}
use Rattle.blob_store.specs.Calls.{Call, PutFails, PutsFile, PutsInTurn, part_of, table_of, things_of}
use Rattle.blob_store.specs.Receipts.{HasFailedPut}
use Rattle.blob_store.proofs.Once.{contains_here, contains_more, contains_none, first_or}

-- each of some pieces is among the things of their file
part_among : (pieces : List (List ℕ)) (piece : List ℕ) → Contains pieces piece → Contains (map part_of pieces) (part_of piece)
part_among [] piece there = absurd (contains_none piece there)
part_among (first ∷ pieces) piece there = elim (first_or first pieces there) [
  | inl is ↦ subst (λ (p : List ℕ). Contains (map part_of (first ∷ pieces)) (part_of p)) is (contains_here (part_of first) (map part_of pieces))
  | inr later ↦ contains_more (part_of first) (part_of piece) (map part_of pieces) (part_among pieces piece later)
]

all_among : (file : List ℕ) (pieces : List (List ℕ)) → AllByRecursion (Contains (cut file)) pieces
    → AllByRecursion (Contains (things_of file)) (map part_of pieces ++ table_of file ∷ [])
all_among file [] all =
    (Contains-append_right (map part_of (cut file)) (table_of file ∷ []) (table_of file) (contains_here (table_of file) []), tt)
all_among file (piece ∷ pieces) all =
    (Contains-append_left (map part_of (cut file)) (table_of file ∷ []) (part_of piece) (part_among (cut file) piece all.0), all_among file pieces all.1)

module _ {S : Type 0} (did : S → Call → S → Type 0) (failed : Call → Type 0) (file : List ℕ)
    (shows : (old new : S) (name : ShelfName) (bytes : List ℕ) (why : ShelfFault) → did old (PutFails name bytes why) new → failed (PutFails name bytes why)) where
  in_turn : (things : List (ShelfName × List ℕ)) (old new : S) → AllByRecursion (Contains (things_of file)) things
      → PutsInTurn did old things (Some Device) new → HasFailedPut failed file
  in_turn [] old new all puts = absurd (cc puts.0)
  in_turn (thing ∷ things) old new all (inl (why, same, is)) =
      let device : why ≡ Device = cc same in
      (thing.0, thing.1, all.0, subst (λ (w : ShelfFault). failed (PutFails thing.0 thing.1 w)) device (shows old new thing.0 thing.1 why is))
  in_turn (thing ∷ things) old new all (inr (mid, put, rest)) = in_turn things mid new all.1 rest

  pub has_failed : (known : Contents) (old new : S) → PutsFile did known old file (Some Device) new → HasFailedPut failed file
  has_failed known old new (stored, are, (pieces, once, puts)) =
      in_turn (map part_of pieces ++ table_of file ∷ []) old new (all_among file pieces once.among) puts
