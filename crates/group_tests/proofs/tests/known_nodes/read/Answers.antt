use Rattle.std.proofs.Common.{◌≡◌, ◌≢◌, Result, Ok, Err, IfErr}
use Rattle.std.proofs.Math.Logic.{∥∥₁_elim}
use mathlib.Core.HLevel.{⊥_prop}
use Rattle.host_names.specs.declared.digests.Digest.{Digest}
use Rattle.chunk_reads.specs.declared.faults.ReadFault.{ReadFault}
use Rattle.chunk_reads.specs.declared.faults.ReadFault.TheVariants.{Damaged, Device, Missing, OutOfMemory}
use Rattle.chunk_group.specs.Faults.{MayAnswer}
use Rattle.group_tests.specs.Sources.{MayLack}
use Rattle.group_tests.proofs.tests.known_nodes.read.Goals as goal

-- a chunk may lack, and that is all
lacks_alone : (key : Digest) (why : ReadFault) → MayAnswer MayLack key why → (why ≢ Damaged) × (why ≢ Device)
lacks_alone key Missing may = (λ e. cc e, λ e. cc e)
lacks_alone key OutOfMemory may = (λ e. cc e, λ e. cc e)
lacks_alone key Damaged may = absurd (∥∥₁_elim may ⊥_prop (λ x. x))
lacks_alone key Device may = absurd (∥∥₁_elim may ⊥_prop (λ x. x))

whole : {X : Type 0} (key : Digest) (r : Result X ReadFault) → IfErr r (MayAnswer MayLack key) → IfErr r (λ why. why ≢ Damaged)
whole key (Ok x) may = tt
whole key (Err why) may = (lacks_alone key why may).0

blameless : {X : Type 0} (key : Digest) (r : Result X ReadFault) → IfErr r (MayAnswer MayLack key) → IfErr r (λ why. why ≢ Device)
blameless key (Ok x) may = tt
blameless key (Err why) may = (lacks_alone key why may).1

pub returns-clause-whole : goal.returns-clause-whole
returns-clause-whole g c = whole c.args.key.now c.get.result c.get.ensures.fault

pub returns-clause-blameless : goal.returns-clause-blameless
returns-clause-blameless g c = blameless c.args.key.now c.get.result c.get.ensures.fault
