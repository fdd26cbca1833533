use Rattle.std.proofs.Common.{◌≡◌, filter_map, take}
use Rattle.site_state.specs.Missing.{if_lacking}
use Rattle.site_state.proofs.drafts.lacking.Given as goal

abbrev pub invariant-loop-listed : goal.invariant-loop-listed
invariant-loop-listed g l = l.digests.items ≡ filter_map (λ f. if_lacking (g.U.Uploads.contents l.uploads) f.1) (take l.listed-index l.files)
