use Rattle.std.proofs.Common.{rules, arith}
use Rattle.site_state.proofs.FirstLacking.{complete_at, goes_past, stops_here, stops_at_end}
use Rattle.site_state.proofs.drafts.first_lacking.Goals as goal

pub loop-place-preserved : goal.loop-place-preserved
loop-place-preserved g c =
    goes_past (g.U.Uploads.contents c.args.uploads.now) c.entries-files.result.now c.args.draft.now.files.1 c.loop-place.place c.entries-files.ensures.pairs c.loop-place.invariant
    c.index-files-place.result c.loop-place-test.true c.if_lacking.result c.if_lacking.ensures (search rules)

pub returns-else-is_none : goal.returns-else-is_none
returns-else-is_none g c =
    let first = stops_here (g.U.Uploads.contents c.args.uploads.now) c.entries-files.result.now c.args.draft.now.files.1 c.loop-place.place c.entries-files.ensures.pairs c.loop-place.invariant
    c.index-files-place.result c.loop-place-test.true c.if_lacking.result c.if_lacking.ensures (search rules) in
    record { first = first; complete = complete_at (g.U.Uploads.contents c.args.uploads.now) c.args.draft.now.files.1 c.loop-place.place first }

pub returns-after-loop-place : goal.returns-after-loop-place
returns-after-loop-place g c =
    let first = stops_at_end (g.U.Uploads.contents c.args.uploads.now) c.entries-files.result.now c.args.draft.now.files.1 c.loop-place.place c.entries-files.ensures.pairs c.loop-place.invariant
    (omega arith) in
    record { first = first; complete = complete_at (g.U.Uploads.contents c.args.uploads.now) c.args.draft.now.files.1 c.loop-place.place first }
