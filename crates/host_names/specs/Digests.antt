-- Digests of bytes, and their order.
use Rattle.std.specs.Prelude.{ℕ, List}
use Rattle.std.specs.declared.cmp.Ordering.{Ordering}
use Rattle.std.specs.Cmp.{IsTotalOrder}
use Rattle.std.specs.Cmp.Lexicographic.{slice_cmp}
use Rattle.std.specs.Coded.{Coded, code_by, coded_ℕ, coded_list}
use Rattle.std.specs.FinMap.{IsAntisymmetric, nat_cmp-IsAntisymmetric, slice_cmp-IsAntisymmetric}
use Rattle.std.specs.Ordering.{nat_cmp, on}
use Rattle.std.proofs.Common.{refl, ap}
use Rattle.std.proofs.lemmas.Cmp.{on_total, nat_list_cmp_total}
use Rattle.sha1.specs.Sha1 as sha
use Rattle.host_names.specs.declared.digests.Digest.{Digest}

-- the digest of some bytes (FIPS 180-4)
abbrev pub digest_of : List ℕ → Digest
digest_of bytes = record { 0 = sha.sha1 bytes }

-- by their bytes
abbrev pub digest_cmp : Digest → Digest → Ordering
digest_cmp = on (λ d. d.0) (slice_cmp nat_cmp)

-- their order is total
pub digest_cmp_total : IsTotalOrder digest_cmp
digest_cmp_total = on_total (λ d. d.0) nat_list_cmp_total

-- digests that tie are one
pub digest_cmp-IsAntisymmetric : IsAntisymmetric digest_cmp
digest_cmp-IsAntisymmetric a b e =
    ap (λ (bytes : List ℕ). record { 0 = bytes }) (slice_cmp-IsAntisymmetric nat_cmp-IsAntisymmetric a.0 b.0 e)

-- stored as the list of its bytes
abbrev pub coded_digest : Coded Digest
coded_digest = code_by (List ℕ) (coded_list coded_ℕ) (λ d. d.0) (λ bytes. record { 0 = bytes }) (λ _. refl)
