use Rattle.std.proofs.Common.{◌≡◌, take}
use Rattle.std.specs.BTreeMap.{get}
use Rattle.host_names.specs.Digests.{digest_cmp}
use Rattle.host_names.specs.declared.digests.Digest.{Digest}
use Rattle.host_opening.specs.Needs.{more, need_in}
use Rattle.host_opening.proofs.needs.add_files.Given as goal

abbrev pub invariant-loop-listed : goal.invariant-loop-listed
invariant-loop-listed l = (q : Digest) → get digest_cmp l.needs q ≡ more (need_in l.must (take l.listed-index l.files) q) (get digest_cmp l.fn.needs q)
