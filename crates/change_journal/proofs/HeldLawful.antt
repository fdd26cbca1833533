-- What slots that hold entries have is lawful in their version.
use Rattle.std.proofs.Common.{◌≡◌, ℕ, ◌≤◌, List, length, arith}
use Rattle.site_change.specs.declared.entries.Entry.{Entry}
use Rattle.record_file.specs.Frames.{Holds}
use Rattle.record_file.specs.Pairs.{FoundLawful, HoldBoth, ReadsBad, first, second, read, none}
use Rattle.record_file.specs.Slots.{HasFront}
use Rattle.change_journal.specs.Texts.{HoldsEntries, IsText, texts}
use Rattle.record_file.proofs.OneAnswer.{holds_found}
use Rattle.record_file.proofs.OneRead.{ends_front, found_not_bad}
use Rattle.change_journal.proofs.Entrywise.{length-texts, texts_lawful}

held_front : (header : List ℕ) (bodies : List (List ℕ)) (file : List ℕ) → Holds header bodies file → HasFront header file
held_front header bodies file holds = ends_front bodies header file (holds_found header bodies file holds)

-- each text is one that its file may have
held_lawful : (had : List Entry) (one other : List ℕ) → HoldsEntries had one other → HoldBoth (texts had) one other → FoundLawful (λ header before. IsText header) (texts had) one other
held_lawful had one other held (read (first g header is holds below)) =
    read (first g header is (texts_lawful header had held.writable (λ old. held.old (first g header is (old, held_front header (texts had) one holds) below)), holds_found header (texts had) one holds) below)
held_lawful had one other held (read (second g header is holds below)) =
    read (second g header is (texts_lawful header had held.writable (λ old. held.old (second g header is (old, held_front header (texts had) other holds) below)), holds_found header (texts had) other holds) below)
held_lawful had one other held (none empty unused unused_too) = none empty unused unused_too

-- so none of few enough records is bad
pub held_no_bad : (had : List Entry) (number : ℕ) (one other : List ℕ) → length had ≤ 1000000 → HoldsEntries had one other → ReadsBad (λ header before. IsText header) number one other → ⊥
held_no_bad had number one other few held bad =
    found_not_bad (λ header before. IsText header) number (texts had) one other (omega (arith, few, length-texts had)) (held_lawful had one other held held.holds) bad
