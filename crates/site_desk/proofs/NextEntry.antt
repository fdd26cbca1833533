-- A log with one entry more is newer.
use Rattle.std.proofs.Common.{[], ◌∷◌, refl, arith}
use Rattle.growing.specs.Orders.{IsNewer}
use Rattle.growing.proofs.Bases.{ends_no_earlier}
use Rattle.change_log.specs.Logs.{BeginsWith, Log, with_entry}
use Rattle.change_log.proofs.Longer.{last_number-with_entry}
use Rattle.site_change.specs.declared.entries.Entry.{Entry}

pub one_entry_more : (log : Log) (last : Entry) → IsNewer (λ (old new : Log). BeginsWith new old) log (with_entry log last)
one_entry_more log last = (
  (last ∷ [], refl),
  λ back. absurd (omega (arith, ends_no_earlier (with_entry log last) log back, last_number-with_entry log last)),
)
