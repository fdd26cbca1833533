-- What becomes of a shelf where bytes were judged.
use Rattle.std.proofs.Common.{◌≡◌, ℕ, List, MatchResult, Result}
use Rattle.byte_view.specs.Contents.{Contents}
use Rattle.host_names.specs.declared.digests.Digest.{Digest}
use Rattle.host_names.specs.declared.names.SiteName.{SiteName}
use Rattle.blob_store.specs.Calls.{Call}
use Rattle.host_api.specs.declared.refusals.Refusal.{Refusal}
use Rattle.host_server.specs.Storing.{IsStored}

-- where nothing is against the bytes they are on the shelf, which else stays as it was
abbrev pub IsStoredIf : {S : Type 0} → (did : S → Call → S → Type 0) → Result (SiteName × Digest) Refusal → Contents → S → List ℕ → S → Type 0
IsStoredIf did judged uploads old bytes new = MatchResult judged (λ at. IsStored did uploads old bytes new) (λ why. new ≡ old)
