use Rattle.std.proofs.Common.{rules, List, ap, sym, ◌∙◌, subst}
use Rattle.site_change.specs.declared.entries.Entry.{Entry}
use Rattle.change_log.specs.Logs.{Log}
use Rattle.change_journal.specs.Texts.{AllStored, MayHoldNext}
use Rattle.journal_stops.proofs.Puts.{all_put, left_now, one_in_hand}
use Rattle.journal_stops.proofs.boots.put_all.Goals as goal

pub returns-then-is_err : goal.returns-then-is_err
returns-then-is_err g c modelled =
    let disk = g.D.Disk in
    let at = c.loop-prepared.invariant in
    let was = c.loop-prepared.journal in
    let new = c.put.new.self in
    let leaves = c.put.ensures.any_moment modelled at.0 in
    let left = left_now disk.moment disk.left_since disk.may_leave (λ d t f later image. g.met.D.Disk.counts_now d t f modelled later image) leaves.0 was.entries.entries c.in-Some.prepared was.first was.second new.first new.second leaves.1 in
    one_in_hand (disk.may_leave new.first) (disk.may_leave new.second) c.args.journal.now.entries.entries c.args.puts.items c.loop-prepared.acknowledged c.in-Some.prepared c.pop_front.new.self.items at.3
    (sym at.2 ∙ c.in-Some.ensures.items) leaves.0 (subst (λ (l : List Entry). MayHoldNext leaves.0 l c.in-Some.prepared (disk.may_leave new.first) (disk.may_leave new.second)) (ap (λ (l : Log). l.entries) at.1) left)

pub returns : goal.returns
returns g c modelled =
    let at = c.loop-prepared.invariant in
    let journal = c.loop-prepared.journal in
    all_put (g.D.Disk.may_leave journal.first) (g.D.Disk.may_leave journal.second) c.args.journal.now.entries.entries c.args.puts.items c.loop-prepared.acknowledged at.3
    (search rules)
    (subst (λ (l : List Entry). AllStored (g.D.Disk.may_leave journal.first) (g.D.Disk.may_leave journal.second) l) (ap (λ (l : Log). l.entries) at.1) (at.4 modelled))
