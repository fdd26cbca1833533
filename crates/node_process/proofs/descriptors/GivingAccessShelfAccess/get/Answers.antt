use Rattle.std.proofs.Common.{rules, IfOk, IfErr}
use Rattle.blob_store.specs.Calls.{GetFails}
use Rattle.blob_store.specs.Receipts.{IsAbsent, told_fault}
use Rattle.node_process.proofs.Repeated.{shown}
use Rattle.node_process.proofs.descriptors.GivingAccessShelfAccess.get.Goals as goal

pub returns-clause-absent : goal.returns-clause-absent
returns-clause-absent g c =
    shown _ _ _ _ _ _ (λ result. IfOk result (λ found. IsAbsent g.N.AbsenceReceipt.absent_name c.args.name found))
    (λ f once f' k. search rules) (λ once f' k. search rules) c.repeated.ensures

pub returns-clause-failed : goal.returns-clause-failed
returns-clause-failed g c =
    shown _ _ _ _ _ _ (λ result. IfErr result (λ why. g.Q.ShelfAccess.failed (GetFails c.args.name (told_fault why))))
    (λ f once f' k. search rules) (λ once f' k. search rules) c.repeated.ensures
