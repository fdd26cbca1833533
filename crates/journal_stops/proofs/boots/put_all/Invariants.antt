use Rattle.std.proofs.Common.{◌≡◌, ◌≤◌, length, drop, take, false, IsTrue}
use Rattle.change_log.specs.Logs.{with_entries}
use Rattle.change_journal.specs.Texts.{AllStored}
use Rattle.journal_stops.proofs.boots.put_all.Given as goal

-- those that were taken so far were acknowledged, and are stored
abbrev pub invariant-loop-prepared : goal.invariant-loop-prepared
invariant-loop-prepared g l =
    (l.journal.broken ≡ false)
    × (l.journal.entries ≡ with_entries l.initial.journal.entries (take l.acknowledged l.initial.puts.items))
    × (l.puts.items ≡ drop l.acknowledged l.initial.puts.items)
    × (l.acknowledged ≤ length l.initial.puts.items)
    × (IsTrue g.D.Disk.is_modelled → AllStored (g.D.Disk.may_leave l.journal.first) (g.D.Disk.may_leave l.journal.second) l.journal.entries.entries)

abbrev pub decreases-loop-prepared : goal.decreases-loop-prepared
decreases-loop-prepared g l = length l.puts.items
