use Rattle.std.proofs.Common.{◌∷◌, inl}
use Rattle.host_disk.proofs.Runs.{and_then}
use Rattle.record_file.specs.Slots.{IsInUse, IsReplacing, IsWriting}
use Rattle.record_file.proofs.Steps.{weaker}
use Rattle.record_file.proofs.SlotSteps.{writing_replaces}
use Rattle.record_file.proofs.filling.replace.Goals as goal

pub returns-in_err-clear-clause-any_moment : goal.returns-in_err-clear-clause-any_moment
returns-in_err-clear-clause-any_moment g c modelled size unused only =
    weaker g.D.Disk.moment g.D.Disk.left_since c.args.disk.now c.clear.new.disk (λ f. IsInUse f → ⊥) (IsReplacing (1 ∷ c.args.behind.now)) (λ f not_used. inl not_used) (c.clear.ensures.any_moment modelled size unused only)

pub returns-clause-any_moment : goal.returns-clause-any_moment
returns-clause-any_moment g c modelled size unused only =
    let old = c.args.disk.now in
    let mid = c.clear.new.disk in
    let new = c.write_file.new.disk in
    let behind = c.args.behind.now in
    let first = weaker g.D.Disk.moment g.D.Disk.left_since old mid (λ f. IsInUse f → ⊥) (IsReplacing (1 ∷ behind)) (λ f not_used. inl not_used) (c.clear.ensures.any_moment modelled size unused only) in
    let second = weaker g.D.Disk.moment g.D.Disk.left_since mid new (IsWriting 0 behind) (IsReplacing (1 ∷ behind)) (writing_replaces behind) (c.write_file.ensures.any_moment modelled 0 (c.in_ok-clear.ensures.cleared modelled size only)) in
    and_then g.D.Disk.moment g.D.Disk.left_since old mid new (IsReplacing (1 ∷ behind)) first second
