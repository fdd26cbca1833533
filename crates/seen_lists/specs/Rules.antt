-- The rule of a list, and what its steps tell.
use Rattle.std.specs.Prelude.{ℕ, ◌≡◌, ◌+◌, ◌<◌, true, List, [], ◌∷◌, ◌++◌, length, Option, Some, None}
use Rattle.seen_lists.specs.Fronts.{Rises}
use Rattle.logbook.specs.Pages.{Cell, cell, Step, View, Book, Named, Nib, may_make, may_write}

-- an entry of the log of a list: the item that was pushed, or none for the beginning, and the key of the pen that may push the next one
abbrev pub Link : Type 0 → Type 0
Link E = Option E × ℕ

-- the items that were pushed, in order
abbrev pub items_of : {E : Type 0} → List (Link E) → List E
items_of [] = []
items_of ((None, next) ∷ log) = items_of log
items_of ((Some item, next) ∷ log) = item ∷ items_of log

-- the key of the pen that may push the next item
abbrev pub next_of : {E : Type 0} → List (Link E) → Option ℕ
next_of [] = None
next_of (x ∷ []) = Some x.1
next_of (x ∷ y ∷ log) = next_of (y ∷ log)

-- the pen that an entry names is used up once another entry follows: its word is at home
abbrev pub AreUsed : {E : Type 0} → List Cell → List (Link E) → Type 0
AreUsed cells [] = Unit {0}
AreUsed cells (x ∷ []) = Unit {0}
AreUsed cells (x ∷ y ∷ log) = ((cell cells x.1).1 ≡ true) × AreUsed cells (y ∷ log)

-- The first word is the length of the log, and pens are used up in the order in which the log names them. So a pen whose word isn't at
-- home yet was named by the last entry, or by none; and whoever has the one of the last entry that was seen has seen the whole log
pub record IsKept {E : Type 0} (cells : List Cell) (log : List (Link E)) : Type 0 where
  pub some : 0 < length cells
  pub head : cell cells 0 ≡ (length log, true)
  pub used : AreUsed cells log

abbrev pub head_of : Book → Named
head_of b = record { tracked = true; key = 0; book = b }

-- if the log was empty, it has one entry now, which names the pen that is given
abbrev pub Begins : {E : Type 0} → Step (Link E) → View (Link E) ℕ → ℕ → View (Link E) ℕ → Type 0
Begins s v found w = found ≡ 0 → (w.0 ≡ (None, w.1.0.key) ∷ []) × (w.1.0.right ≡ may_make)

-- a new pen is given
abbrev pub Cuts : {E : Type 0} → Step (Link E) → View (Link E) ℕ → ℕ → View (Link E) ℕ → Type 0
Cuts s v found w = w.1.0.right ≡ may_make

-- after all that had been seen comes the entry that was asked for, and no other
abbrev pub Pushes : {E : Type 0} → Step (Link E) → View (Link E) ℕ → ℕ → View (Link E) ℕ → Type 0
Pushes s v found w = w.0 ≡ v.0 ++ s.ask ∷ []

-- the log has as many entries as the owner says, and the pen is as it was
abbrev pub Looks : {E : Type 0} → Step (Link E) → View (Link E) ℕ → ℕ → View (Link E) ℕ → Type 0
Looks s v found w = (length w.0 ≡ s.old) × (w.1.0 ≡ v.1.0)

-- What the one owner of a list has: the pen that may push the next item; the number of entries, and that of the items
pub record IsOwned {E : Type 0} (book : Book) (entries count : ℕ) (head : Named) (pen_book : Book) (nib : Nib) (seen_book : Book) (log : List (Link E)) : Type 0 where
  pub counted : count ≡ length (items_of log)
  pub entered : entries ≡ length log
  pub begun : length log ≡ 1 + length (items_of log)
  pub head_is : head ≡ head_of book
  pub pen_is : pen_book ≡ book
  pub seen_is : seen_book ≡ book
  pub right : nib.right ≡ may_write
  pub next : next_of log ≡ Some nib.key

-- What a front has: how many items it saw, each newer than the one before
pub record IsFront {E : Type 0} (is_later : E → E → Type 0) (book : Book) (found : E) (count : ℕ) (seen_book : Book) (log : List (Link E)) : Type 0 where
  pub counted : count ≡ length (items_of log)
  pub seen_is : seen_book ≡ book
  pub rises : Rises is_later found (items_of log)
