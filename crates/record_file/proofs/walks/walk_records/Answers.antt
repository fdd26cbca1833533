use Rattle.std.proofs.Common.{rules, Err, List, ℕ, IsNone, ◌≡◌, ◌⊎◌, ◌+◌, ◌≤◌, [], ◌∷◌, ◌++◌, drop, length, length-append, refl, sym, ◌∙◌, ap, subst, arith}
use Rattle.record_file.specs.Frames.{framed, opened}
use Rattle.record_file.specs.Walks.{HasCounted, HasWalked, IsNoRecord}
use Rattle.record_file.proofs.OneAnswer.{opens_record}
use Rattle.record_file.proofs.Steps.{same_error, same_fault}
use Rattle.record_file.proofs.WalkSteps.{nothing_read, read_on, walk_starts, walk_goes, walk_breaks}
use Rattle.record_file.proofs.walks.walk_records.Goals as goal

pub loop-body-init : goal.loop-body-init
loop-body-init g c = record {
  within = omega (arith, c.first-position.ensures.0, c.requires.long);
  far = omega (arith, c.first-position.ensures.0);
  near = omega (arith, c.first-position.ensures.0);
  same = λ modelled. nothing_read g.D.Disk.seen g.D.Disk.may_leave g.D.Disk.moment g.D.Disk.left_since c.args.disk.now (λ f left. g.met.D.Disk.only_now c.args.disk.now f modelled left);
  counted = refl;
  taken = λ has. record { taken = []; has = has; count_is = c.first-position.ensures.1 };
  walked = λ modelled opens has. walk_starts c.args.header.now (g.B.Bodies.has c.args.bodies.now) (g.B.Bodies.is_lawful c.args.header.now) c.first-position.result.gate c.first-position.result.count (g.D.Disk.seen c.args.disk.now) c.first-position.ensures.0 c.first-position.ensures.1 opens has;
}

pub returns-in_err-gate-clause-bad : goal.returns-in_err-gate-clause-bad
returns-in_err-gate-clause-bad g c modelled size opens has =
    let file = g.D.Disk.seen c.args.disk.now in
    let same = (c.loop-body.invariant.same modelled).same in
    same_fault c.from_residual.result c.in_err-gate.field-0.0 _ c.from_residual.ensures.1 (λ i fault.
    let walked = c.loop-body.invariant.walked modelled opens has in
    let bad = c.in_err-gate.ensures.bad modelled (size ∙ sym (ap length same)) walked.taken walked.has i fault in
    walk_breaks c.args.header.now (g.B.Bodies.has c.loop-body.bodies) (g.B.Bodies.is_lawful c.args.header.now) c.loop-body.position.gate c.loop-body.position.count i file walked c.loop-body.position.few
    (subst (λ f. drop c.loop-body.position.gate f ≡ 1 ∷ drop (c.loop-body.position.gate + 1) f) same bad.1) bad.0
    (subst (λ f. IsNoRecord (g.B.Bodies.is_lawful c.args.header.now walked.taken) (drop (c.loop-body.position.gate + 1) f) ⊎ (1000000 ≤ c.loop-body.position.count)) same bad.2))

pub returns-in_err-gate-clause-memory : goal.returns-in_err-gate-clause-memory
returns-in_err-gate-clause-memory g c modelled opens has out =
    let file = g.D.Disk.seen c.args.disk.now in
    let at = c.loop-body.position.gate in
    let same = (c.loop-body.invariant.same modelled).same in
    let walked = c.loop-body.invariant.walked modelled opens has in
    let told = same_error c.from_residual.result c.in_err-gate.field-0.0 _ c.from_residual.ensures.1 out in
    let there : drop at file ≡ 1 ∷ drop (at + 1) file = subst (λ f. drop at f ≡ 1 ∷ drop (at + 1) f) same (c.in_err-gate.ensures.memory modelled (ap Err told)) in
    opens_record c.args.header.now walked.taken (drop (at + 1) file) file (walked.is ∙ ap (λ (l : List ℕ). opened c.args.header.now walked.taken ++ l) there)

pub returns-in_err-gate-clause-same : goal.returns-in_err-gate-clause-same
returns-in_err-gate-clause-same g c modelled =
    read_on g.D.Disk.seen g.D.Disk.may_leave g.D.Disk.moment g.D.Disk.left_since c.args.disk.now c.loop-body.disk c.hand_on.new.disk (c.loop-body.invariant.same modelled) (c.hand_on.ensures.same modelled)

pub returns-in-Some-clause-end : goal.returns-in-Some-clause-end
returns-in-Some-clause-end g c modelled size opens has =
    let same = (c.loop-body.invariant.same modelled).same in
    let at = c.loop-body.position.gate in
    let end = rw c.in-Some.is at (c.in_ok-gate.ensures.end modelled) in
    let stays : c.hand_on.new.bodies ≡ c.loop-body.bodies = rw c.in-Some.is at c.in_ok-gate.ensures.stays in
    record {
      walked = subst (λ b. HasWalked c.args.header.now (g.B.Bodies.has b) (g.B.Bodies.is_lawful c.args.header.now) at c.loop-body.position.count (g.D.Disk.seen c.args.disk.now)) (sym stays) (c.loop-body.invariant.walked modelled opens has);
      closed = end.0;
      is = subst (λ f. drop at f ≡ c.in-Some.gate ∷ drop (at + 1) f) same end.1;
    }

pub returns-in-Some-clause-count : goal.returns-in-Some-clause-count
returns-in-Some-clause-count g c has =
    let stays : c.hand_on.new.bodies ≡ c.loop-body.bodies = rw c.in-Some.is at c.in_ok-gate.ensures.stays in
    subst (λ b. HasCounted (g.B.Bodies.has b) c.loop-body.position.count) (sym stays) (c.loop-body.invariant.taken has)

pub returns-in-Some-clause-same : goal.returns-in-Some-clause-same
returns-in-Some-clause-same g c modelled =
    read_on g.D.Disk.seen g.D.Disk.may_leave g.D.Disk.moment g.D.Disk.left_since c.args.disk.now c.loop-body.disk c.hand_on.new.disk (c.loop-body.invariant.same modelled) (c.hand_on.ensures.same modelled)

pub loop-body-preserved : goal.loop-body-preserved
loop-body-preserved g c =
    let inv = c.loop-body.invariant in
    let at = c.loop-body.position.gate in
    let body = c.hand_on.new.body.items in
    let none : IsNone c.in_ok-gate.field-0 = search rules in
    let long : c.len.result ≡ length body = search rules in
    let next : c.after-position.result.gate ≡ at + 5 + length body = omega (arith, c.after-position.ensures.gate) in
    record {
      within = omega (arith, next, c.in_ok-gate.ensures.within none);
      far = omega (arith, next, inv.far);
      near = omega (arith, next, inv.near, c.in_ok-gate.ensures.short none, c.after-position.ensures.count);
      same = λ modelled. read_on g.D.Disk.seen g.D.Disk.may_leave g.D.Disk.moment g.D.Disk.left_since c.args.disk.now c.loop-body.disk c.hand_on.new.disk (inv.same modelled) (c.hand_on.ensures.same modelled);
      counted = c.in_ok-gate.ensures.cause ∙ inv.counted;
      taken = λ has.
          let so_far = inv.taken has in
          record {
            taken = so_far.taken ++ body ∷ [];
            has = c.in_ok-gate.ensures.taken so_far.taken so_far.has none;
            count_is = omega (arith, c.after-position.ensures.count, so_far.count_is, length-append so_far.taken (body ∷ []));
          };
      walked = λ modelled opens has.
          let same = (inv.same modelled).same in
          let walked = inv.walked modelled opens has in
          walk_goes c.args.header.now (g.B.Bodies.has c.loop-body.bodies) (g.B.Bodies.has c.hand_on.new.bodies) (g.B.Bodies.is_lawful c.args.header.now) at c.loop-body.position.count body (g.D.Disk.seen c.args.disk.now) walked
          (subst (λ f. drop at f ≡ 1 ∷ (framed body ++ drop (at + 5 + length body) f)) same (c.in_ok-gate.ensures.open modelled none))
          (c.in_ok-gate.ensures.taken walked.taken walked.has none) (c.in_ok-gate.ensures.short none, c.in_ok-gate.ensures.lawful walked.taken walked.has none) c.after-position.result.gate c.after-position.result.count next c.after-position.ensures.count;
    }
