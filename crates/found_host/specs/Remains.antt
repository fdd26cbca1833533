-- What is found where a host is opened.
use Rattle.std.specs.Prelude.{◌≡◌, ℕ, Bool, refl}
use Rattle.std.specs.Coded.{Coded, code_by, coded×, coded_bool, coded_ℕ}
use Rattle.byte_view.specs.Contents.{Contents}
use Rattle.blob_store.specs.Files.{Store}
use Rattle.change_undo.specs.Histories.{Past}
use Rattle.change_log.specs.Logs.{Log}
use Rattle.change_undo.specs.Plans.{IsHistoryOver}
use Rattle.change_journal.specs.Held.{Keeps}

-- how many entries there may be, the journal, and the store of the files that are known
pub record Remains (D S : Type 0) : Type 0 where
  pub limit : ℕ
  pub journal : Keeps D
  pub store : Store S

-- it is stored as its parts in a row
abbrev pub coded_remains : {D S : Type 0} → Coded Log → Coded Contents → Coded D → Coded S → Coded (Remains D S)
coded_remains {D = D} {S = S} log known disk shelf =
    code_by (ℕ × (Log × (Bool × (D × (D × (Contents × S)))))) (coded× coded_ℕ (coded× log (coded× coded_bool (coded× disk (coded× disk (coded× known shelf))))))
    (λ r. (r.limit, (r.journal.entries, (r.journal.broken, (r.journal.first, (r.journal.second, (r.store.known, r.store.shelf)))))))
    (λ t. record { limit = t.0; journal = record { entries = t.1.0; broken = t.1.1.0; first = t.1.1.1.0; second = t.1.1.1.1.0 }; store = record { known = t.1.1.1.1.1.0; shelf = t.1.1.1.1.1.1 } })
    (λ _. refl)

-- ---- what private functions say

-- the history has the entries of the journal, and is what these give over the files that are known
pub record IsFound (past : Past) (put : Log) (known : Contents) : Type 0 where
  pub journaled : put ≡ past.entries
  pub over : IsHistoryOver known past
