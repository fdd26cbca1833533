use Rattle.std.proofs.Common.{◌++◌, IsSome, Option, ap, option_to_list, subst, ◌∙◌}
use Rattle.host_names.specs.declared.digests.Digest.{Digest}
use Rattle.site_state.specs.Missing.{if_lacking}
use Rattle.site_state.proofs.AtError.{on_err}
use Rattle.site_state.proofs.LackingDigests.{filter_map_more, lacking_at}
use Rattle.site_state.proofs.drafts.lacking.Goals as goal

pub loop-listed-preserved : goal.loop-listed-preserved
loop-listed-preserved g c =
    c.in_ok-push_some.ensures.added ∙ ap (λ o. c.loop-listed.digests.items ++ option_to_list o) c.if_lacking.ensures
    ∙ filter_map_more (λ f. if_lacking (g.U.Uploads.contents c.args.uploads.now) f.1) c.args.files.now c.loop-listed.listed-index c.loop-listed-item.result c.loop-listed.digests.items
    c.loop-listed-test.true c.loop-listed-item.is c.loop-listed.invariant

pub returns-in_err-push_some-clause-memory : goal.returns-in_err-push_some-clause-memory
returns-in_err-push_some-clause-memory g c =
    let P : Option Digest → Type 0 = IsSome in
    on_err c.from_residual.result
    (lacking_at (g.U.Uploads.contents c.args.uploads.now) c.args.files.now c.loop-listed.listed-index c.loop-listed-item.result c.loop-listed-test.true c.loop-listed-item.is
    (subst P c.if_lacking.ensures c.in_err-push_some.ensures.memory))
