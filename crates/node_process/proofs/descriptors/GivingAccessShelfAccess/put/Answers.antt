use Rattle.std.proofs.Common.{◌≡◌, rules, IfOk, IfErr}
use Rattle.blob_store.specs.Calls.{PutFails}
use Rattle.blob_store.specs.Receipts.{told_fault}
use Rattle.node_process.proofs.Repeated.{shown}
use Rattle.node_process.proofs.descriptors.GivingAccessShelfAccess.put.Goals as goal

pub returns-clause-put : goal.returns-clause-put
returns-clause-put g c =
    shown _ _ _ _ _ _
    (λ result. IfOk result
    (λ receipt. (g.U.PutReceipt.put_name receipt ≡ c.args.name) × (g.U.PutReceipt.put_bytes receipt ≡ c.args.bytes.now)))
    (λ f once f' k. search rules) (λ once f' k. search rules) c.repeated.ensures

pub returns-clause-failed : goal.returns-clause-failed
returns-clause-failed g c =
    shown _ _ _ _ _ _
    (λ result. IfErr result (λ why. g.Q.ShelfAccess.failed (PutFails c.args.name c.args.bytes.now (told_fault why))))
    (λ f once f' k. search rules) (λ once f' k. search rules) c.repeated.ensures
