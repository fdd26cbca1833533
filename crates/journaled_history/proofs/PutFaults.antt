-- Which fault of a put a journal has that isn't broken.
use Rattle.std.proofs.Common.{◌≡◌, ℕ, refl}
use Rattle.change_journal.specs.Faults.{BreaksEither}
use Rattle.record_file.specs.declared.records.PutFault.{PutFault}
use Rattle.record_file.specs.declared.records.PutFault.TheVariants.{Broken, Device}

pub failed : (fault : PutFault) (one other new_one new_other : ℕ) → (fault ≡ Broken → ⊥) → BreaksEither fault one other new_one new_other → BreaksEither Device one other new_one new_other
failed Broken one other new_one new_other whole told = absurd (whole refl)
failed Device one other new_one new_other whole told = told
