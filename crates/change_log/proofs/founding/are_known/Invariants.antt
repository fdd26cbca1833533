use Rattle.std.proofs.Common.{◌≡◌, drop}
use Rattle.std.specs.FinMap as finmap
use Rattle.std.specs.List.{list_all}
use Rattle.change_log.proofs.founding.are_known.Given as goal

abbrev pub invariant-loop-digest : goal.invariant-loop-digest
invariant-loop-digest g l =
    list_all (λ f. finmap.contains_key (g.U.Uploads.contents l.uploads) f.1) (drop l.digest-index l.files)
    ≡ list_all (λ f. finmap.contains_key (g.U.Uploads.contents l.uploads) f.1) l.files
