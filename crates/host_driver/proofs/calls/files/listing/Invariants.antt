use Rattle.site_state.specs.Files.{IsByPath}
use Rattle.host_driver.proofs.calls.files.listing.Given as goal

abbrev pub invariant-loop-number : goal.invariant-loop-number
invariant-loop-number l = IsByPath l.entries.items
