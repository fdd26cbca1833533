use Rattle.std.proofs.Common.{◌≡◌, Err, [], ◌∷◌, ◌++◌, sym, ◌∙◌, ap, subst, arith}
use Rattle.host_disk.proofs.Runs.{started, and_then}
use Rattle.record_file.specs.Frames.{MayHold, opened}
use Rattle.record_file.specs.Openings.{IsMending}
use Rattle.record_file.specs.Pairs.{IsBeside, IsEnd, MayLead, first, kept, read}
use Rattle.record_file.specs.Slots.{header_of, generation_of, new_header}
use Rattle.record_file.proofs.LookSteps.{front_opened}
use Rattle.record_file.proofs.OneAnswer.{ended_no_bad, ended_there, some_record}
use Rattle.record_file.proofs.OpenSteps.{are_short, mending_holds, taken_is}
use Rattle.record_file.proofs.PairSteps.{brought_leads, is_header, ready_on}
use Rattle.record_file.proofs.Steps.{if_err, if_ok, same_error, same_fault, weaker}
use Rattle.record_file.proofs.WalkSteps.{nothing_read, read_on}
use Rattle.record_file.proofs.openings.open_read.Goals as goal

-- ---- the walk failed

pub returns-in_err-end-clause-bad : goal.returns-in_err-end-clause-bad
returns-in_err-end-clause-bad g c modelled ready has =
    same_fault c.from_residual.result c.in_err-end.field-0.0 _ c.from_residual.ensures.1 (c.in_err-end.ensures.bad modelled ready.size_is (front_opened (header_of c.args.version) (g.D.Disk.seen c.args.read.now) ready.front) has)

pub returns-in_err-end-clause-unwritten : goal.returns-in_err-end-clause-unwritten
returns-in_err-end-clause-unwritten g c modelled =
    let other = c.args.other.now in
    same_fault c.from_residual.result c.in_err-end.field-0.0 _ c.from_residual.ensures.1 (λ not. record {
      one = c.walk_version.ensures.same modelled;
      other = nothing_read g.D.Disk.seen g.D.Disk.may_leave g.D.Disk.moment g.D.Disk.left_since other (λ f left. g.met.D.Disk.only_now other f modelled left);
    })

pub returns-in_err-end-clause-refused : goal.returns-in_err-end-clause-refused
returns-in_err-end-clause-refused g c modelled ready has bad =
    let other = c.args.other.now in
    record {
      one = c.walk_version.ensures.same modelled;
      other = nothing_read g.D.Disk.seen g.D.Disk.may_leave g.D.Disk.moment g.D.Disk.left_since other (λ f left. g.met.D.Disk.only_now other f modelled left);
    }

pub returns-in_err-end-clause-any_moment : goal.returns-in_err-end-clause-any_moment
returns-in_err-end-clause-any_moment g c modelled ready has had body put holds =
    let old = c.args.read.now in
    weaker g.D.Disk.moment g.D.Disk.left_since old c.walk_version.new.disk (g.D.Disk.may_leave old) (MayHold (header_of c.args.version) had body) (λ f left. subst (MayHold (header_of c.args.version) had body) (sym (ready.only f left)) holds) (c.walk_version.ensures.same modelled).time

pub returns-in_err-end-clause-any_moment_beside : goal.returns-in_err-end-clause-any_moment_beside
returns-in_err-end-clause-any_moment_beside g c modelled ready has had body put holds =
    let other = c.args.other.now in
    started g.D.Disk.moment g.D.Disk.left_since other (IsBeside c.args.version (MayLead 1 had body) (g.D.Disk.seen other)) (λ f left. kept (ready.only_beside f (g.met.D.Disk.only_now other f modelled left)))

pub returns-in_err-end-clause-memory : goal.returns-in_err-end-clause-memory
returns-in_err-end-clause-memory g c modelled ready has out =
    let told = same_error c.from_residual.result c.in_err-end.field-0.0 _ c.from_residual.ensures.1 out in
    c.in_err-end.ensures.memory modelled (front_opened (header_of c.args.version) (g.D.Disk.seen c.args.read.now) ready.front) has (ap Err told)

pub returns-in_err-end-clause-reason : goal.returns-in_err-end-clause-reason
returns-in_err-end-clause-reason g c modelled ready has bad out =
    let told = same_error c.from_residual.result c.in_err-end.field-0.0 _ c.from_residual.ensures.1 out in
    c.in_err-end.ensures.reason modelled ready.size_is (ap Err told)

pub returns-in_err-end-clause-used : goal.returns-in_err-end-clause-used
returns-in_err-end-clause-used g c modelled ready used =
    let other = c.args.other.now in
    nothing_read g.D.Disk.seen g.D.Disk.may_leave g.D.Disk.moment g.D.Disk.left_since other (λ f left. g.met.D.Disk.only_now other f modelled left)

-- ---- the records ended

pub returns-clause-opened : goal.returns-clause-opened
returns-clause-opened g c modelled ready has =
    let old = c.args.read.now in
    let mid = c.walk_version.new.disk in
    let file = g.D.Disk.seen old in
    let version = c.args.version in
    let end = c.in_ok-end.end in
    let reads = c.walk_version.ensures.same modelled in
    let ended = c.in_ok-end.ensures.end modelled ready.size_is (front_opened (header_of version) file ready.front) has in
    let there = ended_there (header_of version) _ _ end.position.gate end.position.count end.gate file ended in
    let ready_now = ready_on g.D.Disk.seen g.D.Disk.may_leave g.D.Disk.moment g.D.Disk.left_since version c.args.size c.args.beside old mid c.args.other.now reads ready in
    let there_now = subst (IsEnd (header_of version) ended.walked.taken end.position.gate end.position.count end.gate) (sym reads.same) there in
    if_ok c.finish.result _ _ (λ position made. record {
      bodies = ended.walked.taken;
      has = ended.walked.has;
      found = read (first (generation_of version) (header_of version) (is_header version) (ended.walked.lawful, (end.gate, there.ends)) ready.below);
      made = made;
    }) (c.finish.ensures.made modelled ended.walked.taken there_now ready_now)

pub returns-clause-count : goal.returns-clause-count
returns-clause-count g c has =
    let counted = c.in_ok-end.ensures.count has in
    if_ok c.finish.result _ _ (λ position same. record { taken = counted.taken; has = counted.has; count_is = same ∙ counted.count_is }) c.finish.ensures.count

pub returns-clause-unwritten : goal.returns-clause-unwritten
returns-clause-unwritten g c modelled =
    let reads = c.walk_version.ensures.same modelled in
    if_err c.finish.result _ _ (λ fault unwritten not.
    let both = unwritten not in
    record {
      one = read_on g.D.Disk.seen g.D.Disk.may_leave g.D.Disk.moment g.D.Disk.left_since c.args.read.now c.walk_version.new.disk c.finish.new.read reads both.one;
      other = both.other;
    }) (c.finish.ensures.unwritten modelled)

pub returns-clause-refused : goal.returns-clause-refused
returns-clause-refused g c modelled ready has bad =
    let file = g.D.Disk.seen c.args.read.now in
    let header = header_of c.args.version in
    absurd (ended_no_bad header _ _ bad.0 _ _ _ file (c.in_ok-end.ensures.end modelled ready.size_is (front_opened header file ready.front) has) c.in_ok-end.end.position.few bad.1)

pub returns-clause-reason : goal.returns-clause-reason
returns-clause-reason g c modelled ready has bad told =
    let file = g.D.Disk.seen c.args.read.now in
    let header = header_of c.args.version in
    absurd (ended_no_bad header _ _ bad.0 _ _ _ file (c.in_ok-end.ensures.end modelled ready.size_is (front_opened header file ready.front) has) c.in_ok-end.end.position.few bad.1)

pub returns-clause-any_moment : goal.returns-clause-any_moment
returns-clause-any_moment g c modelled ready has had body put holds =
    let old = c.args.read.now in
    let mid = c.walk_version.new.disk in
    let file = g.D.Disk.seen old in
    let header = header_of c.args.version in
    let end = c.in_ok-end.end in
    let reads = c.walk_version.ensures.same modelled in
    let ended = c.in_ok-end.ensures.end modelled ready.size_is (front_opened header file ready.front) has in
    let there = ended_there header _ _ end.position.gate end.position.count end.gate file ended in
    let before = weaker g.D.Disk.moment g.D.Disk.left_since old mid (g.D.Disk.may_leave old) (MayHold header had body) (λ f left. subst (MayHold header had body) (sym (ready.only f left)) holds) reads.time in
    let after = weaker g.D.Disk.moment g.D.Disk.left_since mid c.finish.new.read (IsMending (opened header ended.walked.taken) end.gate there.ends.rest) (MayHold header had body)
    (mending_holds header had body put ended.walked.taken (are_short (g.B.Bodies.is_lawful header) ended.walked.taken ended.walked.lawful) end.gate there.ends.rest file ended.closed there.ends.is holds)
    (c.finish.ensures.any_moment modelled ended.walked.taken there.ends.rest there.at_is (reads.same ∙ there.ends.is) (λ f left. ready.only f (reads.crash f left) ∙ sym reads.same)) in
    and_then g.D.Disk.moment g.D.Disk.left_since old mid c.finish.new.read (MayHold header had body) before after

pub returns-clause-any_moment_beside : goal.returns-clause-any_moment_beside
returns-clause-any_moment_beside g c modelled ready has had body put holds =
    let old = c.args.read.now in
    let mid = c.walk_version.new.disk in
    let other = c.args.other.now in
    let file = g.D.Disk.seen old in
    let version = c.args.version in
    let header = header_of version in
    let end = c.in_ok-end.end in
    let reads = c.walk_version.ensures.same modelled in
    let ended = c.in_ok-end.ensures.end modelled ready.size_is (front_opened header file ready.front) has in
    let there = ended_there header _ _ end.position.gate end.position.count end.gate file ended in
    let there_now = subst (IsEnd header ended.walked.taken end.position.gate end.position.count end.gate) (sym reads.same) there in
    let taken = taken_is header had body put ended.walked.taken (are_short (g.B.Bodies.is_lawful header) ended.walked.taken ended.walked.lawful) end.gate there.ends.rest file ended.closed there.ends.is holds in
    weaker g.D.Disk.moment g.D.Disk.left_since other c.finish.new.other (IsBeside version (λ f. f ≡ opened new_header ended.walked.taken ++ 0 ∷ []) (g.D.Disk.seen other)) (IsBeside version (MayLead 1 had body) (g.D.Disk.seen other))
    (λ f left. brought_leads version had ended.walked.taken body (g.D.Disk.seen other) f taken left)
    (c.finish.ensures.any_moment_beside modelled ended.walked.taken there_now (ready_on g.D.Disk.seen g.D.Disk.may_leave g.D.Disk.moment g.D.Disk.left_since version c.args.size c.args.beside old mid other reads ready))

pub returns-clause-memory : goal.returns-clause-memory
returns-clause-memory g c modelled ready has out =
    let file = g.D.Disk.seen c.args.read.now in
    let header = header_of c.args.version in
    let end = c.in_ok-end.end in
    let ended = c.in_ok-end.ensures.end modelled ready.size_is (front_opened header file ready.front) has in
    let there = ended_there header _ _ end.position.gate end.position.count end.gate file ended in
    some_record header ended.walked.taken end.gate there.ends.rest file (omega (arith, there.count_is, c.finish.ensures.memory out)) there.ends.is

pub returns-clause-old : goal.returns-clause-old
returns-clause-old g c modelled old =
    read_on g.D.Disk.seen g.D.Disk.may_leave g.D.Disk.moment g.D.Disk.left_since c.args.read.now c.walk_version.new.disk c.finish.new.read (c.walk_version.ensures.same modelled) (c.finish.ensures.old modelled old)

pub returns-clause-used : goal.returns-clause-used
returns-clause-used g c modelled ready used =
    let reads = c.walk_version.ensures.same modelled in
    c.finish.ensures.used modelled (ready_on g.D.Disk.seen g.D.Disk.may_leave g.D.Disk.moment g.D.Disk.left_since c.args.version c.args.size c.args.beside c.args.read.now c.walk_version.new.disk c.args.other.now reads ready) used
