-- What calls show that are made again.
use Rattle.std.proofs.Common.{◌≡◌, ℕ, zero, suc, Bool, Result, sym, subst, ◌∙◌}
use Rattle.blob_store.specs.declared.access_faults.AccessFault.{AccessFault}
use Rattle.node_process.specs.declared.repeating.Once.{Once}
use Rattle.node_process.specs.Repeats.{IsRepeated, Lacked, Step}

-- calls that change nothing of themselves leave the first one as it is
stays : {T C G : Type 0} (calls : Step (Once T) C) (gives : Step Bool G) (n : ℕ) (call : C) (give : G) (last : C) (giver : G)
    → ((f : C) (once : Once T) (f' : C) → calls f once f' → f' ≡ f) → Lacked calls gives n call give last giver → call ≡ last
unfolding Lacked
stays calls gives zero call give last giver same lacked = lacked.0
stays calls gives (suc n) call give last giver same lacked =
    stays calls gives n call give lacked.0 lacked.1 same lacked.3 ∙ sym (same lacked.0 lacked.2 last lacked.4)

-- what each answer of such a call shows, the result shows
pub shown : {T C G : Type 0} (calls : Step (Once T) C) (gives : Step Bool G) (most : ℕ) (call : C) (give : G) (result : Result T AccessFault)
    (P : Result T AccessFault → Type 0)
    → ((f : C) (once : Once T) (f' : C) → calls f once f' → f' ≡ f)
    → ((once : Once T) (f' : C) → calls call once f' → P once.outcome)
    → IsRepeated calls gives most call give result → P result
shown calls gives most call give result P same shows r =
    let at = stays calls gives r.0 call give r.1 r.2 same r.6 in
    let made = subst (λ f. calls f r.3 r.4) (sym at) r.7 in
    subst P (sym r.8) (shows r.3 r.4 made)
