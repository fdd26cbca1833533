-- Which entries a journal holds.
use Rattle.std.specs.Prelude.{◌≡◌, ℕ, Bool, false, true, List, All, IsTrue, refl}
use Rattle.std.specs.Coded.{Coded, code_by, coded×, coded_bool}
use Rattle.change_log.specs.Logs.{IsWhole, Log, last_number, with_entry}
use Rattle.change_journal.specs.declared.held.Held.{Held, Found, Put'}
use Rattle.record_file.specs.declared.slots.Slots.{Slots}
use Rattle.record_file.specs.Pairs.{ArePaired, first_of, second_of}
use Rattle.entry_texts.specs.Spells.{IsWritable}
use Rattle.change_journal.specs.Texts.{MayHoldMore, texts}

-- A journal: the entries that it holds, whether the device failed while one was put, and the disks of its two slots.
pub record Keeps (D : Type 0) : Type 0 where
  pub entries : Log
  pub broken : Bool
  pub first : D
  pub second : D

-- it is stored as its parts in a row
abbrev pub coded_keeps : {D : Type 0} → Coded Log → Coded D → Coded (Keeps D)
coded_keeps {D = D} log disk =
    code_by (Log × (Bool × (D × D))) (coded× log (coded× coded_bool (coded× disk disk))) (λ k. (k.entries, (k.broken, (k.first, k.second))))
    (λ t. record { entries = t.0; broken = t.1.0; first = t.1.1.0; second = t.1.1.1 }) (λ _. refl)

-- those that were found when it was opened, and those that were put since
abbrev pub entries_of : Held → Log
entries_of (Found log) = log.value
entries_of (Put' shape before entry) = with_entry (entries_of before) entry.value

-- The log has no base, since a file has no text of one. Each entry has a text, and there are as many records. Unless the device has failed, a modelled disk holds these texts, and the
-- next record goes after them; else it holds them, or them and one more.
pub record IsSound {D : Type 0} (is_modelled : Bool) (may_leave : D → List ℕ → Type 0) (slots : Slots D) (log : Log) : Type 0 where
  pub whole : IsWhole log
  pub writable : All IsWritable log.entries
  pub count : slots.records.position.count ≡ last_number log
  pub settled : IsTrue is_modelled → slots.records.broken ≡ false → ArePaired may_leave slots (texts log.entries)
  pub torn : IsTrue is_modelled → slots.records.broken ≡ true → MayHoldMore (may_leave (first_of slots)) (may_leave (second_of slots)) log.entries
