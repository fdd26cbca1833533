use Rattle.std.proofs.Common.{[], ◌∷◌, ◌++◌, subst, sym}
use Rattle.host_disk.proofs.Runs.{and_then}
use Rattle.record_file.specs.Frames.{IsShut, MayHold}
use Rattle.record_file.proofs.Steps.{weaker, both_on_ok, if_fails, on_err}
use Rattle.record_file.proofs.PutSteps.{IsWhole, written_record, written_gate, leaves_before, leaves_either, fails_behind, fails_at}
use Rattle.record_file.proofs.records.put_record.Goals as goal

pub returns-in_err-write_synced-clause-any_moment : goal.returns-in_err-write_synced-clause-any_moment
returns-in_err-write_synced-clause-any_moment g c modelled header bodies body is spelled shut =
    weaker g.D.Disk.moment g.D.Disk.left_since c.args.disk.now c.write_synced.new.disk _ (MayHold header bodies body) (leaves_before header bodies body c.args.gate _ (g.D.Disk.may_leave c.args.disk.now) is shut) (c.write_synced.ensures.any_moment modelled)

pub returns-clause-stored : goal.returns-clause-stored
returns-clause-stored g c modelled header bodies body is spelled shut =
    let old = c.args.disk.now in
    let whole : IsWhole header bodies body 0 (g.D.Disk.seen c.write_synced.new.disk) =
    written_record header bodies body c.args.gate c.args.bytes.now (g.D.Disk.seen old) _ is spelled (shut _ (g.met.D.Disk.may_stay old modelled)) (c.in_ok-write_synced.ensures.written modelled) in
    both_on_ok c.write_synced-2.result _ _ _ (λ written durable.
    let shut_now : IsShut header (bodies ++ body ∷ []) (g.D.Disk.seen c.write_synced-2.new.disk) = written_gate header bodies body c.args.gate (g.D.Disk.seen c.write_synced.new.disk) _ is whole written in
    λ f left. subst (IsShut header (bodies ++ body ∷ [])) (sym (durable f left)) shut_now) (c.write_synced-2.ensures.written modelled) (c.write_synced-2.ensures.durable modelled)

pub returns-clause-any_moment : goal.returns-clause-any_moment
returns-clause-any_moment g c modelled header bodies body is spelled shut =
    let old = c.args.disk.now in
    let mid = c.write_synced.new.disk in
    let whole : IsWhole header bodies body 0 (g.D.Disk.seen mid) =
    written_record header bodies body c.args.gate c.args.bytes.now (g.D.Disk.seen old) _ is spelled (shut _ (g.met.D.Disk.may_stay old modelled)) (c.in_ok-write_synced.ensures.written modelled) in
    let first = weaker g.D.Disk.moment g.D.Disk.left_since old mid _ (MayHold header bodies body) (leaves_before header bodies body c.args.gate _ (g.D.Disk.may_leave old) is shut) (c.write_synced.ensures.any_moment modelled) in
    let second = weaker g.D.Disk.moment g.D.Disk.left_since mid c.write_synced-2.new.disk _ (MayHold header bodies body) (leaves_either header bodies body c.args.gate (g.D.Disk.may_leave mid) (g.D.Disk.seen mid) is whole (c.in_ok-write_synced.ensures.durable modelled)) (c.write_synced-2.ensures.any_moment modelled) in
    and_then g.D.Disk.moment g.D.Disk.left_since old mid c.write_synced-2.new.disk (MayHold header bodies body) first second

pub returns-in_err-write_synced-clause-reason : goal.returns-in_err-write_synced-clause-reason
returns-in_err-write_synced-clause-reason g c modelled header bodies body is spelled shut =
    let old = c.args.disk.now in
    on_err _ _ (fails_behind header g.D.Disk.seen g.D.Disk.may_fail bodies body c.args.gate c.args.bytes.now old is spelled (shut _ (g.met.D.Disk.may_stay old modelled)) (c.in_err-write_synced.ensures.reason modelled))

pub returns-clause-reason : goal.returns-clause-reason
returns-clause-reason g c modelled header bodies body is spelled shut =
    let old = c.args.disk.now in
    let mid = c.write_synced.new.disk in
    let whole : IsWhole header bodies body 0 (g.D.Disk.seen mid) =
    written_record header bodies body c.args.gate c.args.bytes.now (g.D.Disk.seen old) _ is spelled (shut _ (g.met.D.Disk.may_stay old modelled)) (c.in_ok-write_synced.ensures.written modelled) in
    if_fails c.write_synced-2.result _ _ (fails_at header g.D.Disk.seen g.D.Disk.may_fail bodies body c.args.gate c.args.bytes.now mid is spelled whole) (c.write_synced-2.ensures.reason modelled)
