use Rattle.std.proofs.Common.{ap, ◌∙◌}
use Rattle.site_state.specs.Missing.{lesser}
use Rattle.site_state.proofs.LackingDigests.{least_step}
use Rattle.site_state.proofs.drafts.least_missing.Goals as goal

pub loop-listed-preserved : goal.loop-listed-preserved
loop-listed-preserved g c =
    least_step (g.U.Uploads.contents c.args.uploads.now) c.entries-listed-items.result.now c.args.draft.now.files.1 c.loop-listed.listed-index c.loop-listed-item.result c.loop-listed.least c.lesser-least.result
    c.entries-listed-items.ensures.pairs c.loop-listed-test.true c.loop-listed-item.is (c.lesser-least.ensures ∙ ap (lesser c.loop-listed.least) c.if_lacking.ensures)
    ∙ c.loop-listed.invariant
