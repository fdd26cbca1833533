-- What a shelf answers where a file is read from it.
use Rattle.std.specs.Prelude.{◌≡◌, ◌≢◌, ◌⊎◌, ℕ, ◌≤◌, List, [], ◌∷◌, ◌++◌, Option, Some, None, length, map}
use Rattle.host_names.specs.declared.digests.Digest.{Digest}
use Rattle.host_names.specs.Digests.{digest_of}
use Rattle.byte_view.specs.Cuts.{Follows, cut, names_of}
use Rattle.blob_store.specs.declared.shelves.ShelfName.{ShelfName}
use Rattle.blob_store.specs.declared.shelves.ShelfName.TheVariants.{Part, Table}
use Rattle.blob_store.specs.declared.shelves.ShelfFault.{ShelfFault}
use Rattle.blob_store.specs.declared.shelves.ShelfFault.TheVariants as shelf_fault
use Rattle.chunk_reads.specs.declared.faults.ReadFault.{ReadFault}
use Rattle.chunk_reads.specs.declared.faults.ReadFault.TheVariants as read_fault
use Rattle.blob_store.specs.Calls.{Call, Got, GetFails}
use Rattle.blob_store.specs.Tables.{Spells, text_of}

-- names that a shelf is asked for, and what it answers to each
abbrev pub Answers : Type 0
Answers = List (ShelfName × Option (List ℕ))

-- the pieces of a file, each under its name
abbrev pub pieces_given : List ℕ → Answers
pieces_given file = map (λ piece. (Part (digest_of piece), Some piece)) (cut file)

-- what a shelf answers that has the whole file: its table, and then each of its pieces in order
abbrev pub answers_of : List ℕ → Answers
answers_of file = (Table (digest_of file), Some (text_of (length file) (names_of file))) ∷ pieces_given file

-- a shelf is asked for these names one after another, gives these answers, and nothing else is done with it
abbrev pub GivesInTurn : {S : Type 0} → (did : S → Call → S → Type 0) → S → Answers → S → Type 0
GivesInTurn did old [] new = new ≡ old
GivesInTurn {S} did old (answer ∷ answers) new = (mid : S) × did old (Got answer.0 answer.1) mid × GivesInTurn did mid answers new

-- these answers are the first that are given for no file of this digest that is whole, and of at most 16,777,216 bytes
abbrev pub AreOfNone : Digest → Answers → Type 0
AreOfNone digest answers = (file : List ℕ) (rest : Answers) → length file ≤ 16777216 → digest_of file ≡ digest → answers_of file ≡ answers ++ rest → ⊥

-- these are asked for: of the pieces of these names the first ones, in order, and nothing after one that isn't what a file has there
abbrev pub AreAsked : List Digest → Answers → Type 0
AreAsked names answers =
    (file : List ℕ) × (last : Answers) × (later : List Digest) × (answers ≡ pieces_given file ++ last) × (length last ≤ 1)
    × (map Part names ≡ map (λ answer. answer.0) answers ++ map Part later)

-- the shelf failed at a piece of these names, after it gave those before it, and it was asked for nothing else
abbrev pub FailsAtPiece : {S : Type 0} → (did : S → Call → S → Type 0) → S → List Digest → ShelfFault → S → Type 0
FailsAtPiece {S} did old names fault new =
    (file : List ℕ) × (name : Digest) × (later : List Digest) × (mid : S) × (names_of file ++ name ∷ later ≡ names)
    × GivesInTurn did old (pieces_given file) mid × did mid (GetFails (Part name) fault) new

-- it failed at the table of a file, or gave it and failed at a piece that it names
abbrev pub FailsAtFile : {S : Type 0} → (did : S → Call → S → Type 0) → S → Digest → ShelfFault → S → Type 0
FailsAtFile {S} did old digest fault new =
    did old (GetFails (Table digest) fault) new
    ⊎ ((text : List ℕ) × (size : ℕ) × (names : List Digest) × (mid : S) × Spells text size names × did old (Got (Table digest) (Some text)) mid
    × FailsAtPiece did mid names fault new)

-- nothing is asked for after a table; or it has this text, and of the pieces that it names the first ones are
abbrev pub AreNamedBy : List ℕ → Answers → Type 0
AreNamedBy text answers = (answers ≡ []) ⊎ ((size : ℕ) × (names : List Digest) × Spells text size names × AreAsked names answers)

-- it gave each piece of a file, whose names are the first of these, and was asked for nothing else; an empty file has none
abbrev pub GivesFirst : {S : Type 0} → (did : S → Call → S → Type 0) → S → List Digest → S → Type 0
GivesFirst did old names new = (file : List ℕ) × (later : List Digest) × (names_of file ++ later ≡ names) × GivesInTurn did old (pieces_given file) new

-- why a file of this digest and of at most 16,777,216 bytes can't be read: the shelf has no table of it, or its answers are of no such file, or
-- it failed; or it gave a table that names pieces, and of these the first ones or none, and then there was no memory
abbrev pub IsFileFault : {S : Type 0} → (did : S → Call → S → Type 0) → S → Digest → ReadFault → S → Type 0
IsFileFault did old digest read_fault.Missing new = did old (Got (Table digest) None) new
IsFileFault did old digest read_fault.Damaged new =
    (text : List ℕ) × (answers : Answers) × AreNamedBy text answers × GivesInTurn did old ((Table digest, Some text) ∷ answers) new
    × AreOfNone digest ((Table digest, Some text) ∷ answers)
IsFileFault did old digest read_fault.Device new = FailsAtFile did old digest shelf_fault.Device new
IsFileFault {S} did old digest read_fault.OutOfMemory new =
    FailsAtFile did old digest shelf_fault.OutOfMemory new
    ⊎ ((text : List ℕ) × (size : ℕ) × (names : List Digest) × (mid : S) × Spells text size names × (size ≢ 0)
    × did old (Got (Table digest) (Some text)) mid × GivesFirst did mid names new)

-- a file of this digest is read whole, and isn't too large
abbrev pub IsFileRead : {S : Type 0} → (did : S → Call → S → Type 0) → S → Digest → List ℕ → S → Type 0
IsFileRead did old digest file new = (digest_of file ≡ digest) × (length file ≤ 16777216) × GivesInTurn did old (answers_of file) new

-- ---- what private functions say

-- these are no table of a file
abbrev pub IsTableFault : {S : Type 0} → (did : S → Call → S → Type 0) → S → Digest → ReadFault → S → Type 0
IsTableFault did old digest read_fault.Missing new = did old (Got (Table digest) None) new
IsTableFault did old digest read_fault.Damaged new =
    (text : List ℕ) × did old (Got (Table digest) (Some text)) new × ((file : List ℕ) → length file ≤ 16777216 → text_of (length file) (names_of file) ≡ text → ⊥)
IsTableFault did old digest read_fault.Device new = did old (GetFails (Table digest) shelf_fault.Device) new
IsTableFault did old digest read_fault.OutOfMemory new =
    did old (GetFails (Table digest) shelf_fault.OutOfMemory) new
    ⊎ ((text : List ℕ) × (size : ℕ) × (names : List Digest) × Spells text size names × (size ≢ 0) × did old (Got (Table digest) (Some text)) new)

-- a shelf gives the next piece of a file, which has this name
abbrev pub IsNextRead : {S : Type 0} → (did : S → Call → S → Type 0) → S → Digest → (before after : List ℕ) → S → Type 0
IsNextRead did old name before after new =
    (piece : List ℕ) × (name ≡ digest_of piece) × (after ≡ before ++ piece) × Follows before piece × did old (Got (Part name) (Some piece)) new

-- it is no next piece of that name
abbrev pub IsNoPiece : Digest → List ℕ → Option (List ℕ) → Type 0
IsNoPiece name before None = Unit {0}
IsNoPiece name before (Some bytes) = name ≡ digest_of bytes → ¬ (Follows before bytes)

-- why none is added: what it gives is no next piece, or the device failed; or there was no memory, on the shelf, or for the name of the piece it gave
abbrev pub IsNextFault : {S : Type 0} → (did : S → Call → S → Type 0) → S → Digest → List ℕ → ReadFault → S → Type 0
IsNextFault did old name before read_fault.Missing new = ⊥
IsNextFault did old name before read_fault.Damaged new = (answer : Option (List ℕ)) × IsNoPiece name before answer × did old (Got (Part name) answer) new
IsNextFault did old name before read_fault.Device new = did old (GetFails (Part name) shelf_fault.Device) new
IsNextFault did old name before read_fault.OutOfMemory new =
    did old (GetFails (Part name) shelf_fault.OutOfMemory) new
    ⊎ ((piece : List ℕ) × (name ≡ digest_of piece) × Follows before piece × did old (Got (Part name) (Some piece)) new)

-- these answers are the first of the pieces of no file
abbrev pub AreNoPieces : Answers → Type 0
AreNoPieces answers = (file : List ℕ) (rest : Answers) → length file ≤ 16777216 → pieces_given file ≡ answers ++ rest → ⊥

-- why no file is read by these names: what was given begins none; or the shelf failed at a piece, after those before it; or there was no memory,
-- after the first pieces or before any. Of no names there is no reason
abbrev pub ArePiecesFault : {S : Type 0} → (did : S → Call → S → Type 0) → S → List Digest → ReadFault → S → Type 0
ArePiecesFault did old names read_fault.Missing new = ⊥
ArePiecesFault did old names read_fault.Damaged new = (answers : Answers) × AreAsked names answers × GivesInTurn did old answers new × AreNoPieces answers
ArePiecesFault did old names read_fault.Device new = FailsAtPiece did old names shelf_fault.Device new
ArePiecesFault did old names read_fault.OutOfMemory new =
    FailsAtPiece did old names shelf_fault.OutOfMemory new ⊎ ((names ≢ []) × GivesFirst did old names new)
