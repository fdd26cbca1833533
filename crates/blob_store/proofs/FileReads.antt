-- What a shelf answers where a file is read from it.
use Rattle.std.proofs.Common.{◌≡◌, ◌≢◌, inl, inr, ℕ, ◌+◌, ◌≤◌, List, [], ◌∷◌, ◌++◌, Option, Some, None, length, map, refl, sym, ap, subst, ◌∙◌, arith}
use Rattle.std.specs.List.{AllByRecursion, concat}
use Rattle.std.proofs.lemmas.List.{append-nil, append_assoc, length-append, length-map, map-append, nil_from_length}
use Rattle.std.proofs.lemmas.List.Elements.{All-from_recursion}
use Rattle.host_names.specs.declared.digests.Digest.{Digest}
use Rattle.host_names.specs.Digests.{digest_of}
use Rattle.byte_view.specs.Cuts.{Follows, cut, names_of}
use Rattle.byte_view.proofs.CutPieces.{concat-cut, length-cut}
use Rattle.byte_view.proofs.NextPieces.{follows_in, length-digest, names-next}
use Rattle.blob_store.specs.declared.shelves.ShelfName.{ShelfName}
use Rattle.blob_store.specs.declared.shelves.ShelfName.TheVariants.{Part, Table}
use Rattle.chunk_reads.specs.declared.faults.ReadFault.{ReadFault}
use Rattle.chunk_reads.specs.declared.faults.ReadFault.TheVariants as read_fault
use Rattle.blob_store.specs.Calls.{Call, Got}
use Rattle.blob_store.specs.Reads.{Answers, AreAsked, AreNoPieces, ArePiecesFault, GivesInTurn, IsFileFault, IsNextFault, IsNextRead, IsNoPiece, IsTableFault, answers_of, pieces_given}
use Rattle.blob_store.specs.Tables.{IsTable, Spells, pieces_of, size_of, text_of}
use Rattle.blob_store.proofs.TableTexts.{is_table, size_told}

-- ---- answers in turn

module _ {S : Type 0} (did : S → Call → S → Type 0) where
  pub gives_then : (old mid new : S) (answers : Answers) (name : ShelfName) (answer : Option (List ℕ)) → GivesInTurn did old answers mid
      → did mid (Got name answer) new → GivesInTurn did old (answers ++ (name, answer) ∷ []) new
  gives_then old mid new [] name answer gives got = (new, subst (λ s. did s (Got name answer) new) gives got, refl)
  gives_then old mid new (a ∷ answers) name answer gives got = (gives.0, gives.1, gives_then gives.0 mid new answers name answer gives.2 got)

-- ---- pieces

abbrev pub given : List ℕ → ShelfName × Option (List ℕ)
given piece = (Part (digest_of piece), Some piece)

abbrev piece_of : ShelfName × Option (List ℕ) → List ℕ
piece_of answer = elim answer.1 [
  | None ↦ []
  | Some bytes ↦ bytes
]

abbrev first_bytes : Answers → List ℕ
first_bytes [] = []
first_bytes (answer ∷ answers) = piece_of answer

abbrev first_answer : Answers → Option (List ℕ)
first_answer [] = None
first_answer (answer ∷ answers) = answer.1

abbrev pub digest_in : ShelfName → Digest
digest_in (Part digest) = digest
digest_in (Table digest) = digest

abbrev first_digest : Answers → Digest
first_digest [] = record { 0 = [] }
first_digest (answer ∷ answers) = digest_in answer.0

abbrev later : Answers → Answers
later [] = []
later (answer ∷ answers) = answers

-- pieces whose answers begin with those of other pieces
pub record Split (xs ys : List (List ℕ)) (rest : Answers) : Type 0 where
  pub more : List (List ℕ)
  pub pieces : xs ≡ ys ++ more
  pub answers : rest ≡ map given more

pub split : (xs ys : List (List ℕ)) (rest : Answers) → map given xs ≡ map given ys ++ rest → Split xs ys rest
split xs [] rest e = record { more = xs; pieces = refl; answers = sym e }
split [] (y ∷ ys) rest e = absurd (cc e)
split (x ∷ xs) (y ∷ ys) rest e =
    let first : given x ≡ given y = cc e in
    let same : x ≡ y = ap piece_of first in
    let others : map given xs ≡ map given ys ++ rest = cc e in
    let s = split xs ys rest others in
    record { more = s.more; pieces = ap (λ l. x ∷ l) s.pieces ∙ ap (λ p. p ∷ ys ++ s.more) same; answers = s.answers }

pub given-next : (before piece : List ℕ) → Follows before piece → pieces_given (before ++ piece) ≡ pieces_given before ++ given piece ∷ []
given-next before piece follows = ap (map given) follows.0 ∙ map-append given (cut before) (piece ∷ [])

-- the answer to the next name is that of the piece there
not_there : (file before : List ℕ) (name : Digest) (answer : Option (List ℕ)) (rest : Answers) (more : List (List ℕ)) → length file ≤ 16777216
    → cut file ≡ cut before ++ more → (Part name, answer) ∷ rest ≡ map given more → IsNoPiece name before answer → ⊥
not_there file before name answer rest [] small pieces e misfits = absurd (cc e)
not_there file before name None rest (z ∷ more) small pieces e misfits =
    let wrong : None ≡ Some z = ap first_answer e in
    absurd (cc wrong)
not_there file before name (Some bytes) rest (z ∷ more) small pieces e misfits =
    let same : bytes ≡ z = ap first_bytes e in
    let named : name ≡ digest_of z = ap first_digest e in
    misfits (named ∙ ap digest_of (sym same)) (subst (Follows before) (sym same) (follows_in file before z more small pieces))

pub no_piece : (before : List ℕ) (name : Digest) (answer : Option (List ℕ)) → IsNoPiece name before answer → AreNoPieces (pieces_given before ++ (Part name, answer) ∷ [])
no_piece before name answer misfits file rest small e =
    let s = split (cut file) (cut before) ((Part name, answer) ∷ rest) (e ∙ append_assoc (pieces_given before) ((Part name, answer) ∷ []) rest) in
    not_there file before name answer rest s.more small s.pieces s.answers misfits

-- ---- the names that are asked for

parts_asked : (pieces : List (List ℕ)) → map Part (map digest_of pieces) ≡ map (λ answer. answer.0) (map given pieces)
parts_asked [] = refl
parts_asked (piece ∷ pieces) = ap (λ l. Part (digest_of piece) ∷ l) (parts_asked pieces)

-- all pieces of a file
pub all_asked : (names : List Digest) (file : List ℕ) → names_of file ≡ names → AreAsked names (pieces_given file)
all_asked names file named = (
  file,
  [],
  [],
  sym (append-nil (pieces_given file)),
  omega (arith),
  ap (map Part) (sym named) ∙ parts_asked (cut file) ∙ sym (append-nil (map (λ (answer : ShelfName × Option (List ℕ)). answer.0) (pieces_given file))),
)

-- those of a file, and one more
pub one_asked : (names rest : List Digest) (file : List ℕ) (name : Digest) (answer : Option (List ℕ)) → names_of file ++ name ∷ rest ≡ names
    → AreAsked names (pieces_given file ++ (Part name, answer) ∷ [])
one_asked names rest file name answer named =
    let asked : Answers → List ShelfName = map (λ a. a.0) in (
      file,
      (Part name, answer) ∷ [],
      rest,
      refl,
      omega (arith),
      ap (map Part) (sym named) ∙ map-append Part (names_of file) (name ∷ rest) ∙ ap (λ l. l ++ Part name ∷ map Part rest) (parts_asked (cut file))
          ∙ sym (append_assoc (asked (pieces_given file)) (Part name ∷ []) (map Part rest))
          ∙ ap (λ l. l ++ map Part rest) (sym (map-append (λ (a : ShelfName × Option (List ℕ)). a.0) (pieces_given file) ((Part name, answer) ∷ []))),
    )

-- where one is named after others, some are
some_names : (before : List Digest) (name : Digest) (rest : List Digest) → before ++ name ∷ rest ≢ []
some_names [] name rest none = absurd (cc none)
some_names (b ∷ before) name rest none = absurd (cc none)

-- ---- a piece is read

pub record PiecesSoFar {S : Type 0} (did : S → Call → S → Type 0) (old now : S) (joined : List ℕ) (left names : List Digest) : Type 0 where
  pub gives : GivesInTurn did old (pieces_given joined) now
  pub named : names_of joined ++ left ≡ names

pub none_yet : {S : Type 0} (did : S → Call → S → Type 0) (old : S) (joined : List ℕ) (left names : List Digest) → joined ≡ [] → left ≡ names → PiecesSoFar did old old joined left names
none_yet did old joined left names none all =
    subst (λ file. PiecesSoFar did old old file left names) (sym none) (record { gives = refl; named = all })

module _ {S : Type 0} (did : S → Call → S → Type 0) (old now new : S) (joined : List ℕ) (left names : List Digest) (name : Digest) where
  pub one_more : (after : List ℕ) (rest : List Digest) → left ≡ name ∷ rest → PiecesSoFar did old now joined left names → IsNextRead did now name joined after new
      → PiecesSoFar did old new after rest names
  one_more after rest more so next =
      let piece = next.0 in
      let P : List ℕ → Type 0 = λ file. PiecesSoFar did old new file rest names in
      let got = subst (λ d. did now (Got (Part d) (Some piece)) new) next.1 next.4 in
      subst P (sym next.2) (record {
        gives = subst (λ answers. GivesInTurn did old answers new) (sym (given-next joined piece next.3))
            (gives_then did old now new (pieces_given joined) (Part (digest_of piece)) (Some piece) so.gives got);
        named = ap (λ l. l ++ rest) (names-next joined piece next.3.0) ∙ append_assoc (names_of joined) (digest_of piece ∷ []) rest
            ∙ ap (λ d. names_of joined ++ d ∷ rest) (sym next.1) ∙ ap (λ l. names_of joined ++ l) (sym more) ∙ so.named;
      })

  pub no_more : (why : ReadFault) (rest : List Digest) → left ≡ name ∷ rest → PiecesSoFar did old now joined left names → IsNextFault did now name joined why new
      → ArePiecesFault did old names why new
  no_more read_fault.Missing rest more so fault = fault
  no_more read_fault.Damaged rest more so fault = (
    pieces_given joined ++ (Part name, fault.0) ∷ [],
    one_asked names rest joined name fault.0 (ap (λ l. names_of joined ++ l) (sym more) ∙ so.named),
    gives_then did old now new (pieces_given joined) (Part name) fault.0 so.gives fault.2,
    no_piece joined name fault.0 fault.1,
  )
  no_more read_fault.Device rest more so fault = (joined, name, rest, now, ap (λ l. names_of joined ++ l) (sym more) ∙ so.named, so.gives, fault)
  no_more read_fault.OutOfMemory rest more so (inl fault) = inl (joined, name, rest, now, ap (λ l. names_of joined ++ l) (sym more) ∙ so.named, so.gives, fault)
  no_more read_fault.OutOfMemory rest more so (inr fault) =
      let piece = fault.0 in
      let after = one_more (joined ++ piece) rest more so (piece, fault.1, refl, fault.2, fault.3) in
      let named : names_of joined ++ name ∷ rest ≡ names = ap (λ l. names_of joined ++ l) (sym more) ∙ so.named in
      inr ((λ none. some_names (names_of joined) name rest (named ∙ none)), (joined ++ piece, rest, after.named, after.gives))

-- ---- a table is read

-- each name has 20 bytes
pub all_named : (pieces : List (List ℕ)) → AllByRecursion (λ (name : Digest). length name.0 ≡ 20) (map digest_of pieces)
all_named [] = tt
all_named (piece ∷ pieces) = (length-digest piece, all_named pieces)

length-names_of : (file : List ℕ) → length (names_of file) ≡ pieces_of (length file)
length-names_of file = length-map (cut file) digest_of ∙ length-cut file

-- what is no table is that of no file
pub no_table : (text : List ℕ) → (¬ (IsTable text)) → (file : List ℕ) → length file ≤ 16777216 → text_of (length file) (names_of file) ≡ text → ⊥
no_table text none file small e =
    none (subst IsTable e (is_table (length file) (names_of file) small (length-names_of file) (All-from_recursion (λ (name : Digest). length name.0 ≡ 20) (names_of file) (all_named (cut file)))))

-- the empty file has no pieces
no_names : (names : List Digest) → names_of [] ++ names ≡ names
no_names names = refl

pub table_fails : {S : Type 0} (did : S → Call → S → Type 0) (old new : S) (digest : Digest) (why : ReadFault) → IsTableFault did old digest why new → IsFileFault did old digest why new
table_fails did old new digest read_fault.Missing fault = fault
table_fails did old new digest read_fault.Damaged fault = (
  fault.0,
  [],
  inl refl,
  (new, fault.1, refl),
  λ file rest small named e. (
      let text : text_of (length file) (names_of file) ≡ fault.0 = ap first_bytes e in
      fault.2 file small text
      ),
)
table_fails did old new digest read_fault.Device fault = inl fault
table_fails did old new digest read_fault.OutOfMemory (inl fault) = inl (inl fault)
table_fails did old new digest read_fault.OutOfMemory (inr fault) =
    inr (fault.0, fault.1, fault.2, new, fault.3, fault.4, fault.5, ([], fault.2, no_names fault.2, refl))

pub pieces_fail : {S : Type 0} (did : S → Call → S → Type 0) (old mid new : S) (digest : Digest) (text : List ℕ) (size : ℕ) (names : List Digest) (why : ReadFault)
    → Spells text size names → did old (Got (Table digest) (Some text)) mid → ArePiecesFault did mid names why new → IsFileFault did old digest why new
pieces_fail did old mid new digest text size names read_fault.Missing spells got fault = absurd fault
pieces_fail did old mid new digest text size names read_fault.Damaged spells got fault = (
  text,
  fault.0,
  inr (size, names, spells, fault.1),
  (mid, got, fault.2),
  λ file rest small named e. (
      let pieces : pieces_given file ≡ fault.0 ++ rest = ap later e in
      fault.3 file rest small pieces
      ),
)
pieces_fail did old mid new digest text size names read_fault.Device spells got fault = inr (text, size, names, mid, spells, got, fault)
pieces_fail did old mid new digest text size names read_fault.OutOfMemory spells got (inl fault) = inl (inr (text, size, names, mid, spells, got, fault))
pieces_fail did old mid new digest text size names read_fault.OutOfMemory spells got (inr fault) =
    inr (text, size, names, mid, spells, (λ none. fault.0 (nil_from_length names (omega (arith, none, spells.count)))), got, fault.1)

-- ---- a file is read

none_more : (n : ℕ) (more : List (List ℕ)) → n + length more ≡ n → more ≡ []
none_more n [] e = refl
none_more n (m ∷ more) e = absurd (omega (arith, e))

-- a file whose answers begin with a table and the pieces of its names is the one of these pieces
known_file : (file joined text : List ℕ) (size : ℕ) (names : List Digest) (rest : Answers) → length file ≤ 16777216 → Spells text size names → names_of joined ≡ names
    → text_of (length file) (names_of file) ≡ text → pieces_given file ≡ pieces_given joined ++ rest → (file ≡ joined) × (length file ≡ size)
known_file file joined text size names rest small spells named e pieces =
    let told : length file ≡ size = sym (size_told (length file) (names_of file) small) ∙ ap size_of (e ∙ spells.spelled) ∙ size_told size names spells.small in
    let s = split (cut file) (cut joined) rest pieces in
    let joined_count : length (cut joined) ≡ length names = sym (length-map (cut joined) digest_of) ∙ ap length named in
    let counts : length (cut file) ≡ length (cut joined) + length s.more = ap length s.pieces ∙ length-append (cut joined) s.more in
    let count : length (cut file) ≡ pieces_of size = length-cut file ∙ ap pieces_of told in
    let none = none_more (length (cut joined)) s.more (omega (arith, counts, count, joined_count, spells.count)) in
    let same : cut file ≡ cut joined = s.pieces ∙ ap (λ l. cut joined ++ l) none ∙ append-nil (cut joined) in
    (sym (concat-cut file) ∙ ap concat same ∙ concat-cut joined, told)

pub other_file : {S : Type 0} (did : S → Call → S → Type 0) (old mid new : S) (digest : Digest) (joined text : List ℕ) (size : ℕ) (names : List Digest)
    → Spells text size names → did old (Got (Table digest) (Some text)) mid → names_of joined ≡ names → GivesInTurn did mid (pieces_given joined) new
    → (length joined ≡ size → digest_of joined ≡ digest → ⊥) → IsFileFault did old digest read_fault.Damaged new
other_file did old mid new digest joined text size names spells got named gives differs = (
  text,
  pieces_given joined,
  inr (size, names, spells, all_asked names joined named),
  (mid, got, gives),
  λ file rest small is e. (
      let table : text_of (length file) (names_of file) ≡ text = ap first_bytes e in
      let pieces : pieces_given file ≡ pieces_given joined ++ rest = ap later e in
      let known = known_file file joined text size names rest small spells named table pieces in
      differs (sym (ap length known.0) ∙ known.1) (sym (ap digest_of known.0) ∙ is)
      ),
)

pub whole_file : {S : Type 0} (did : S → Call → S → Type 0) (old mid new : S) (digest : Digest) (joined text : List ℕ) (size : ℕ) (names : List Digest)
    → Spells text size names → did old (Got (Table digest) (Some text)) mid → names_of joined ≡ names → GivesInTurn did mid (pieces_given joined) new
    → length joined ≡ size → digest_of joined ≡ digest → (digest_of joined ≡ digest) × (length joined ≤ 16777216) × GivesInTurn did old (answers_of joined) new
whole_file did old mid new digest joined text size names spells got named gives sized is =
    let table : text ≡ text_of (length joined) (names_of joined) = spells.spelled ∙ ap (λ n. text_of n names) (sym sized) ∙ ap (text_of (length joined)) (sym named) in
    let P : Digest → Type 0 = λ d. did old (Got (Table d) (Some (text_of (length joined) (names_of joined)))) mid in
    (is, omega (arith, sized, spells.small), (mid, subst P (sym is) (subst (λ t. did old (Got (Table digest) (Some t)) mid) table got), gives))

pub all_read : {S : Type 0} (did : S → Call → S → Type 0) (old now : S) (joined : List ℕ) (left names : List Digest) → PiecesSoFar did old now joined left names → left ≡ []
    → (names_of joined ≡ names) × GivesInTurn did old (pieces_given joined) now
all_read did old now joined left names so none = (sym (append-nil (names_of joined)) ∙ ap (λ l. names_of joined ++ l) (sym none) ∙ so.named, so.gives)
