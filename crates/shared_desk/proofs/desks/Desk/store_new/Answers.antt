use Rattle.std.proofs.Common.{rules, ◌≡◌, List, ℕ, ◌∷◌, Result, Ok, Err, subst}
use Rattle.std.specs.FinMap as map
use Rattle.std.specs.Prelude.{IfErr}
use Rattle.byte_view.specs.Contents.{Contents}
use Rattle.blob_store.specs.Calls.{Call}
use Rattle.blob_store.specs.Faults.{HasPutPart}
use Rattle.blob_store.specs.Receipts.{HasFailedPut, IsShown}
use Rattle.blob_store.specs.declared.blobs.UploadFault.{UploadFault}
use Rattle.blob_store.specs.declared.blobs.UploadFault.TheVariants.{Device, OutOfMemory}
use Rattle.blob_store.specs.declared.shelves.ShelfName.{ShelfName}
use Rattle.blob_store.proofs.FailedPuts.{has_failed}
use Rattle.shared_desk.proofs.desks.Desk.store_new.Goals as goal

-- a call of a shared shelf that failed is one of which its way to the shelf says so
shelf_failed : {S P A : Type 0} (calls : S → List Call) (says_put : P → ShelfName → List ℕ → Type 0) (says_absent : A → ShelfName → Type 0) (failed : Call → Type 0)
    (file : List ℕ) (known : Contents) (old new : S) (why : UploadFault) → why ≡ Device
    → HasPutPart (λ before call after. (calls after ≡ call ∷ calls before) × IsShown says_put says_absent failed call) known old file why new → HasFailedPut failed file
shelf_failed {S} {P} {A} calls says_put says_absent failed file known old new why device put =
    let did : S → Call → S → Type 0 = λ before call after. (calls after ≡ call ∷ calls before) × IsShown says_put says_absent failed call in
    has_failed did failed file (λ before after name bytes fault is. is.1) known old new (subst (λ (w : UploadFault). HasPutPart did known old file w new) device put)

-- want of memory is no failure of the device
no_device : {X : Type 0} (r : Result X UploadFault) → IfErr r (λ fault. fault ≡ OutOfMemory) → r ≡ Err Device → ⊥
no_device (Ok x) memory is = cc is
no_device (Err why) memory is = cc (memory, is)

pub returns-in_err-file-clause-device : goal.returns-in_err-file-clause-device
returns-in_err-file-clause-device g c = λ is.
    let why = c.in_err-file.field-0.0 in
    let told : c.from_residual.result ≡ Err why = search rules in
    let (before, after, put) = c.in_err-file.ensures.not_put in
    let device : why ≡ Device = cc (told, is) in
    shelf_failed _ _ (λ receipt name. g.N.AbsenceReceipt.absent_name receipt ≡ name) g.A.ShelfAccess.failed c.args.bytes.now map.empty before after why device put

pub returns-clause-device : goal.returns-clause-device
returns-clause-device g c = λ is. absurd (no_device c.tie_with.result c.tie_with.ensures.memory is)
