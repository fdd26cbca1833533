use Rattle.std.proofs.Common.{ap, ◌∙◌, filter_map}
use Rattle.std.proofs.lemmas.List.Filters.{dedup_is}
use Rattle.site_state.specs.Missing.{if_lacking}
use Rattle.site_state.specs.Values.{digest_eq}
use Rattle.site_state.proofs.LackingDigests.{AreMissing-from_sort, slice_get-missing}
use Rattle.site_state.proofs.drafts.missing.Goals as goal

pub returns : goal.returns
returns g c =
    let contents = g.U.Uploads.contents c.args.uploads.now in
    let files = c.args.files.now.1 in
    let listed = c.in_ok-digests.ensures.digests ∙ ap (filter_map (λ f. if_lacking contents f.1)) c.entries.ensures.pairs in
    let are = AreMissing-from_sort contents files _ _ _ listed c.sort_unstable.ensures.permutation c.sort_unstable.ensures.sorted (dedup_is digest_eq _ _ c.dedup.ensures.filtered) in
    record { exactly = are; least_first = slice_get-missing contents files _ are; memory = tt }
