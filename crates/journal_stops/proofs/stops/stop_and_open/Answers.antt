use Rattle.std.proofs.Common.{◌+◌, ◌≤◌, length, refl, sym, subst, arith}
use Rattle.host_disk.specs.Contents.{IsImage}
use Rattle.host_disk.specs.declared.mem_disk.MemDisk.{MemDisk}
use Rattle.std.specs.Option.{option_map}
use Rattle.change_log.specs.Logs.{Log}
use Rattle.change_journal.specs.Texts.{MayHoldNext}
use Rattle.journal_stops.specs.Boots.{HasNext, IsReopened, LeavesPuts}
use Rattle.journal_stops.proofs.Outcomes.{both_ok, if_found, none_found, outcome}
use Rattle.journal_stops.proofs.stops.stop_and_open.Goals as goal

pub returns-clause-opened : goal.returns-clause-opened
returns-clause-opened c order had next few images =
    let booted = c.open_and_put-first.result in
    let ran = c.open_and_put-first.ensures in
    let lent = subst (λ (d : MemDisk). MayHoldNext order had next (IsImage d.content) (IsImage c.new-2.result.disk.content)) (sym c.new.ensures.disk)
    (subst (λ (d : MemDisk). MayHoldNext order had next (IsImage c.args.first.content) (IsImage d.content)) (sym c.new-2.ensures.disk) images) in
    both_ok c.open_images.result _ _ (λ after. IsReopened had next c.args.puts.items (option_map (λ (log : Log). log.entries) after.found) after.acknowledged after.opened.entries) c.open_images.ensures.same c.open_images.ensures.opened
    (λ after same opened.
    let here = subst (λ (d : MemDisk). IsImage d.content opened.0) c.into_disk.ensures opened.2 in
    let there = subst (λ (d : MemDisk). IsImage d.content opened.1) c.into_disk-2.ensures opened.3 in
    rw (same.0, same.1)
    (outcome had after.opened.entries next c.args.puts.items few (IsImage booted.first.disk.content) (IsImage booted.second.disk.content) opened.0 opened.1 here there c.slots_hold_an_entry_whose_gate_is_open.ensures.left opened.4 order (option_map (λ (log : Log). log.entries) booted.found) booted.acknowledged
    (λ none. ran.unopened refl order had next lent (none_found booted.found none))
    (if_found (HasNext had next) booted.found (ran.found refl order had next (omega (arith, few)) lent))
    (if_found (λ log. length log + length c.args.puts.items ≤ 1000000 → LeavesPuts (IsImage booted.first.disk.content) (IsImage booted.second.disk.content) log c.args.puts.items booted.acknowledged) booted.found
    (ran.put refl))))
