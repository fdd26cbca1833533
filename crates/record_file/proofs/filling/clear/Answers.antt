use Rattle.std.proofs.Common.{ℕ, List, length, ⊎_elim, sym, subst, ◌∙◌, ap, arith}
use Rattle.std.proofs.lemmas.List.{length-take}
use Rattle.host_disk.proofs.Runs.{started}
use Rattle.record_file.specs.Slots.{IsInUse, short}
use Rattle.record_file.proofs.Steps.{weaker, both_on_ok}
use Rattle.record_file.proofs.SlotSteps.{unused_cut}
use Rattle.record_file.proofs.filling.clear.Goals as goal

pub returns-then-size-gt1-clause-cleared : goal.returns-then-size-gt1-clause-cleared
returns-then-size-gt1-clause-cleared g c modelled size only =
    both_on_ok c.cut_synced.result _ _ _ (λ cut durable f left. short (omega (arith, ap length (durable f left ∙ cut), length-take 1 (g.D.Disk.seen c.args.disk.now)))) (c.cut_synced.ensures.cut modelled) (c.cut_synced.ensures.durable modelled)

pub returns-then-size-gt1-clause-any_moment : goal.returns-then-size-gt1-clause-any_moment
returns-then-size-gt1-clause-any_moment g c modelled size unused only =
    let old = c.args.disk.now in
    weaker g.D.Disk.moment g.D.Disk.left_since old c.cut_synced.new.disk _ (λ f. IsInUse f → ⊥) (λ f left.
    ⊎_elim (λ now. subst (λ (l : List ℕ). IsInUse l → ⊥) (sym (only f now)) unused) (λ from. unused_cut from.0 f (omega (arith, ap length (only from.0 from.1), size, c.if-size-gt1.true)) (subst (λ (l : List ℕ). IsInUse l → ⊥) (sym (only from.0 from.1)) unused) from.2) left) (c.cut_synced.ensures.any_moment modelled)

pub returns-clause-any_moment : goal.returns-clause-any_moment
returns-clause-any_moment g c modelled size unused only =
    let old = c.args.disk.now in
    started g.D.Disk.moment g.D.Disk.left_since old (λ f. IsInUse f → ⊥) (λ f left. subst (λ (l : List ℕ). IsInUse l → ⊥) (sym (only f (g.met.D.Disk.only_now old f modelled left))) unused)

pub returns-clause-cleared : goal.returns-clause-cleared
returns-clause-cleared g c modelled size only = λ f left. short (omega (arith, ap length (only f left), size, c.if-size-gt1.false))
