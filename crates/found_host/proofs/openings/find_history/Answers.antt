use Rattle.std.proofs.Common.{rules, ◌≡◌, inr, subst, sym}
use Rattle.found_host.specs.Openings.{IsHostFault, of_replay}
use Rattle.found_host.specs.declared.faults.OpenFault.TheVariants.{OutOfMemory}
use Rattle.found_host.proofs.Opened.{not_replayed, not_there}
use Rattle.found_host.proofs.openings.find_history.Goals as goal

pub returns-in-Err-clause-fault : goal.returns-in-Err-clause-fault
returns-in-Err-clause-fault g c =
    let did = g.S.Shelf.did in
    let blobs = c.in_ok-blobs.blobs in
    let told = not_replayed did c.args.shelf c.args.limit c.args.log.now blobs.known c.in-Err.fault blobs.shelf c.in_ok-blobs.ensures.opened c.in-Err.ensures.fault in
    let there = subst (λ shelf. IsHostFault did c.args.shelf c.args.limit c.args.log.now (of_replay c.in-Err.fault) shelf) (sym c.into_shelf.ensures) told in
    subst (λ why. IsHostFault did c.args.shelf c.args.limit c.args.log.now why c.into_shelf.result) (sym c.of_replay.ensures) there

pub returns-in_err-blobs-clause-fault : goal.returns-in_err-blobs-clause-fault
returns-in_err-blobs-clause-fault g c =
    let stop = c.in_err-blobs.field-0.0 in
    let told = not_there g.S.Shelf.did c.args.shelf c.args.limit c.args.log.now stop.fault stop.shelf c.in_err-blobs.ensures.fault in
    search rules
