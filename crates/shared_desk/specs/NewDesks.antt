-- What a new desk is told apart by.
use Rattle.std.specs.Prelude.{◌≡◌, ℕ, refl}
use Rattle.std.specs.Coded.{Coded, code_by, coded×, coded_ℕ}
use Rattle.logbook.specs.Pages.{Book, book_coded}

-- how many seats it has, its ledger, and its lists of entries and of uploads
pub record Names : Type 0 where
  pub seats : ℕ
  pub ledger : ℕ
  pub entries : Book
  pub uploads : Book

-- they are stored as their parts in a row
abbrev pub coded_names : Coded Names
coded_names =
    code_by (ℕ × (ℕ × (Book × Book))) (coded× coded_ℕ (coded× coded_ℕ (coded× book_coded book_coded)))
    (λ n. (n.seats, (n.ledger, (n.entries, n.uploads)))) (λ t. record { seats = t.0; ledger = t.1.0; entries = t.1.1.0; uploads = t.1.1.1 }) (λ _. refl)

-- a desk has these names: those of its ledger, which has so many parts, and of its two lists
pub record AreNames (ledger parts : ℕ) (entries uploads : Book) (names : Names) : Type 0 where
  pub ledger_is : names.ledger ≡ ledger
  pub parts_are : names.seats ≡ parts
  pub entries_are : names.entries ≡ entries
  pub uploads_are : names.uploads ≡ uploads
