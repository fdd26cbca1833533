-- How the calls of a put end, and what their results show.
use Rattle.std.proofs.Common.{◌≡◌, ◌∷◌, [], ℕ, List, Result, Ok, Err, OnErr, inl, inr, ap, refl, sym, subst, ◌∙◌}
use Rattle.std.specs.Prelude.{MatchResult}
use Rattle.blob_store.specs.declared.receipts.Found.{Found}
use Rattle.blob_store.specs.declared.receipts.Found.TheVariants as found
use Rattle.blob_store.specs.Receipts.{IsAbsent}
use Rattle.blob_store.specs.FileCalls.{FileCall, Fails, Made, Removed, Stops}

-- the file was there and was removed, and then it is made or not
pub stops_again : {T E : Type 0} (result : Result T E) (temporary : List ℕ) (old mid removed new : List FileCall)
    → mid ≡ Fails (Made temporary) ∷ old → removed ≡ Removed temporary ∷ mid
    → MatchResult result (λ _. new ≡ Made temporary ∷ removed) (λ _. new ≡ Fails (Made temporary) ∷ removed)
    → OnErr result (Stops (Made temporary ∷ []) temporary old new)
stops_again (Ok done) temporary old mid removed new was gone is = tt
stops_again (Err why) temporary old mid removed new was gone is =
    inl (Removed temporary ∷ Fails (Made temporary) ∷ old, inr refl, inl (is ∙ ap (λ calls. Fails (Made temporary) ∷ calls) (gone ∙ ap (λ calls. Removed temporary ∷ calls) was)))

-- what holds of a value holds of the result that has it, and the other way round
pub of_ok : {T E : Type 0} (result : Result T E) (value : T) (P : T → Type 0) (Q : E → Type 0) → result ≡ Ok value → P value → MatchResult result P Q
of_ok result value P Q is p = subst (λ r. MatchResult r P Q) (sym is) p

pub from_ok : {T E : Type 0} (result : Result T E) (value : T) (P : T → Type 0) (Q : E → Type 0) → result ≡ Ok value → MatchResult result P Q → P value
from_ok result value P Q is p = subst (λ r. MatchResult r P Q) is p

-- what a receipt says that was found
pub says_absent : {A X : Type 0} (says : A → X) (it : X) (other : Found A) (receipt : A) → other ≡ found.Nothing receipt → IsAbsent says it other → says receipt ≡ it
says_absent says it other receipt is absent = subst (λ f. IsAbsent says it f) is absent
