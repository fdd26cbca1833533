-- Which entries the two slots of a journal hold, whatever a crash leaves of them.
use Rattle.std.specs.Prelude.{◌≡◌, ℕ, List, [], ◌∷◌, ◌++◌, map, All}
use Rattle.site_change.specs.declared.entries.Entry.{Entry}
use Rattle.record_file.specs.Frames.{framed}
use Rattle.record_file.specs.Openings.{IsExactly}
use Rattle.record_file.specs.Slots.{AllStale, old_header}
use Rattle.record_file.specs.Pairs.{BothLeave, HoldBoth, LeftOfFirst, LeftOfSecond, IsOldOrder, Order, ReadsOld, ReadsShut}
use Rattle.entry_texts.specs.declared.versions.Version.TheVariants.{First}
use Rattle.entry_texts.specs.Versions.{IsOfVersion}
use Rattle.entry_texts.specs.Spells.{IsWritable, entry_text}

-- the texts of these entries
abbrev pub texts : List Entry → List (List ℕ)
texts entries = map entry_text entries

-- the text of an entry behind its length, and the gate of the next record, which is shut
pub record IsRecordOf (entry : Entry) (bytes : List ℕ) : Type 0 where
  pub writable : IsWritable entry
  pub is : bytes ≡ framed (entry_text entry) ++ 0 ∷ []

-- a file with this header may have an entry: in one of version 1 no folder is renamed
abbrev pub MayHave : List ℕ → Entry → Type 0
MayHave header entry = header ≡ old_header → IsOfVersion First entry

-- bytes are the text of an entry that a file with this header may have
abbrev pub IsText : List ℕ → List ℕ → Type 0
IsText header body = (entry : Entry) × (IsWritable entry × (MayHave header entry × (body ≡ entry_text entry)))

-- these entries may be those of a file of version 1
abbrev pub AreOld : List Entry → Type 0
AreOld entries = All (IsOfVersion First) entries

-- Two slots hold these entries. In the slot in use with the greater generation their texts are behind open gates, and then comes a 0, or a
-- gate that is neither with one whole record of any body and a 0 behind it; or neither slot is in use, and there are none. A file of version 1 has
-- only entries that it may have.
pub record HoldsEntries (entries : List Entry) (first second : List ℕ) : Type 0 where
  pub writable : All IsWritable entries
  pub old : ReadsOld first second → AreOld entries
  pub holds : HoldBoth (texts entries) first second

-- they hold these entries, with a gate of 0 after them
pub record IsStored (entries : List Entry) (first second : List ℕ) : Type 0 where
  pub writable : All IsWritable entries
  pub old : ReadsOld first second → AreOld entries
  pub shut : ReadsShut (texts entries) first second

-- whatever a crash leaves of the one slot and of the other, these entries are stored
abbrev pub AllStored : (List ℕ → Type 0) → (List ℕ → Type 0) → List Entry → Type 0
AllStored first second entries = (a b : List ℕ) → first a → second b → IsStored entries a b

-- What a stop may leave of two slots of this order while an entry is put after these, or while they are opened. The slot that is read has these,
-- with a 0 and any bytes behind them; or with the record of that entry whole behind a gate that is neither 0 nor open; or these and that entry. The
-- other slot isn't read beside it, or has the file of the next generation, with these or those. Or neither is in use, and there are none. If a file
-- of version 1 is read, it may have all of them.
pub record MayHoldNext (order : Order) (entries : List Entry) (entry : Entry) (first second : List ℕ → Type 0) : Type 0 where
  pub writable : All IsWritable (entries ++ entry ∷ [])
  pub old : IsOldOrder order → AreOld (entries ++ entry ∷ [])
  pub one : (c : List ℕ) → first c → LeftOfFirst order (texts entries) (entry_text entry) c
  pub other : (c : List ℕ) → second c → LeftOfSecond order (texts entries) (entry_text entry) c

-- a crash at any moment since leaves that
pub record LeavesNext {D : Type 0} (moment : D → ℕ) (left_since : D → ℕ → List ℕ → Type 0) (order : Order) (entries : List Entry) (entry : Entry) (first second new_first new_second : D) : Type 0 where
  pub writable : All IsWritable (entries ++ entry ∷ [])
  pub old : IsOldOrder order → AreOld (entries ++ entry ∷ [])
  pub leaves : BothLeave moment left_since order (texts entries) (entry_text entry) first second new_first new_second

-- what a put that the device failed may have left: there is one entry more, and whatever a crash leaves is what a stop may leave while it is put
pub record MayHoldMore (first second : List ℕ → Type 0) (entries : List Entry) : Type 0 where
  pub next : Entry
  pub order : Order
  pub left : MayHoldNext order entries next first second

-- one of two slots reads as this file, and a crash leaves nothing else of it; whatever a crash leaves of the other one, that isn't read
pub data IsOne (file seen_first : List ℕ) (first : List ℕ → Type 0) (seen_second : List ℕ) (second : List ℕ → Type 0) : Type 0 where
  in_first : IsExactly file seen_first first → AllStale 1 second → IsOne file seen_first first seen_second second
  in_second : IsExactly file seen_second second → AllStale 1 first → IsOne file seen_first first seen_second second
