-- There is a list of the missing digests, whatever is listed and uploaded.
use Rattle.std.proofs.Common.{◌≡◌, ◌⊎◌, inl, inr, List, [], ◌∷◌, filter, Contains, Option, Ordering, Less, Equal, Greater, refl, sym, ap, ◌∙◌, arith}
use Rattle.std.specs.List.{AllByRecursion}
use Rattle.std.specs.List.Sorted.{IsStrictlySortedBy}
use Rattle.std.specs.Ordering.{ordering_reverse}
use Rattle.byte_view.specs.Contents.{Contents}
use Rattle.host_names.specs.Digests.{digest_cmp, digest_cmp-IsAntisymmetric, digest_cmp_total}
use Rattle.host_names.specs.declared.digests.Digest.{Digest}
use Rattle.site_state.specs.Files.{Paths}
use Rattle.site_state.specs.Missing.{AreMissing, digests_of, is_lacking}
use Rattle.site_state.proofs.LackingDigests.{Contains-filter, Contains-from_filter, contains_cases, contains_here, contains_later}

-- ---- one digest more, in its place

abbrev before : Ordering → (digest other : Digest) → (later more : List Digest) → List Digest
before Less digest other later more = digest ∷ other ∷ later
before Equal digest other later more = other ∷ later
before Greater digest other later more = other ∷ more

abbrev with_digest : Digest → List Digest → List Digest
with_digest digest [] = digest ∷ []
with_digest digest (other ∷ later) = before (digest_cmp digest other) digest other later (with_digest digest later)

abbrev AreAbove : Digest → List Digest → Type 0
AreAbove low digests = AllByRecursion (λ d. digest_cmp low d ≡ Less) digests

above_lower : (low high : Digest) (digests : List Digest) → digest_cmp low high ≡ Less → AreAbove high digests → AreAbove low digests
above_lower low high [] less above = tt
above_lower low high (d ∷ digests) less above = (digest_cmp_total.trans low high d less above.0, above_lower low high digests less above.1)

above_with : (low digest : Digest) (digests : List Digest) → digest_cmp low digest ≡ Less → AreAbove low digests → AreAbove low (with_digest digest digests)
above_with low digest [] less above = (less, tt)
above_with low digest (other ∷ later) less above =
    elim (digest_cmp digest other) as (λ o. AreAbove low (before o digest other later (with_digest digest later))) [
      | Less ↦ (less, above)
      | Equal ↦ above
      | Greater ↦ (above.0, above_with low digest later less above.1)
    ]

rising_with : (digest : Digest) (digests : List Digest) → IsStrictlySortedBy digest_cmp digests → IsStrictlySortedBy digest_cmp (with_digest digest digests)
unfolding IsStrictlySortedBy
rising_with digest [] rising = (tt, tt)
rising_with digest (other ∷ later) rising =
    elim (digest_cmp digest other) as (λ o. digest_cmp digest other ≡ o → IsStrictlySortedBy digest_cmp (before o digest other later (with_digest digest later))) [
      | Less ↦ λ less. ((less, above_lower digest other later less rising.0), rising)
      | Equal ↦ λ same. rising
      | Greater ↦ λ above. (above_with other digest later (digest_cmp_total.antisymm other digest ∙ ap ordering_reverse above) rising.0, rising_with digest later rising.1)
    ] refl

contains_from_with : (digest : Digest) (digests : List Digest) (d : Digest) → Contains (with_digest digest digests) d → (digest ≡ d) ⊎ Contains digests d
contains_from_with digest [] d has = contains_cases digest d [] has
contains_from_with digest (other ∷ later) d has =
    elim (digest_cmp digest other) as (λ o. Contains (before o digest other later (with_digest digest later)) d → (digest ≡ d) ⊎ Contains (other ∷ later) d) [
      | Less ↦ λ has. contains_cases digest d (other ∷ later) has
      | Equal ↦ λ has. inr has
      | Greater ↦ λ has. elim (contains_cases other d (with_digest digest later) has) [
        | inl here ↦ inr (contains_here other d later here)
        | inr more ↦ elim (contains_from_with digest later d more) [ inl same ↦ inl same | inr there ↦ inr (contains_later other d later there) ]
      ]
    ] has

contains_with : (digest : Digest) (digests : List Digest) (d : Digest) → (digest ≡ d) ⊎ Contains digests d → Contains (with_digest digest digests) d
contains_with digest [] d (inl same) = contains_here digest d [] same
contains_with digest [] d (inr has) = absurd (omega (arith, has.1))
contains_with digest (other ∷ later) d is =
    elim (digest_cmp digest other) as (λ o. digest_cmp digest other ≡ o → (digest ≡ d) ⊎ Contains (other ∷ later) d → Contains (before o digest other later (with_digest digest later)) d) [
      | Less ↦ λ less is. elim is [ inl same ↦ contains_here digest d (other ∷ later) same | inr has ↦ contains_later digest d (other ∷ later) has ]
      | Equal ↦ λ tie is. elim is [
        | inl same ↦ contains_here other d later (sym (digest_cmp-IsAntisymmetric digest other tie) ∙ same)
        | inr has ↦ has
      ]
      | Greater ↦ λ above is. elim is [
        | inl same ↦ contains_later other d (with_digest digest later) (contains_with digest later d (inl same))
        | inr has ↦ elim (contains_cases other d later has) [
          | inl here ↦ contains_here other d (with_digest digest later) here
          | inr there ↦ contains_later other d (with_digest digest later) (contains_with digest later d (inr there))
        ]
      ]
    ] refl is

-- ---- all of them

abbrev in_order : List Digest → List Digest
in_order [] = []
in_order (digest ∷ digests) = with_digest digest (in_order digests)

rising_in_order : (digests : List Digest) → IsStrictlySortedBy digest_cmp (in_order digests)
unfolding IsStrictlySortedBy
rising_in_order [] = tt
rising_in_order (digest ∷ digests) = rising_with digest (in_order digests) (rising_in_order digests)

from_order : (digests : List Digest) (d : Digest) → Contains (in_order digests) d → Contains digests d
from_order [] d has = has
from_order (digest ∷ digests) d has = elim (contains_from_with digest (in_order digests) d has) [
  | inl same ↦ contains_here digest d digests same
  | inr there ↦ contains_later digest d digests (from_order digests d there)
]

to_order : (digests : List Digest) (d : Digest) → Contains digests d → Contains (in_order digests) d
to_order [] d has = has
to_order (digest ∷ digests) d has = elim (contains_cases digest d digests has) [
  | inl same ↦ contains_with digest (in_order digests) d (inl same)
  | inr there ↦ contains_with digest (in_order digests) d (inr (to_order digests d there))
]

pub missing_list : (contents : Contents) (files : Paths (Option Digest)) → (digests : List Digest) × AreMissing contents files digests
missing_list contents files =
    let listed = digests_of files in
    let lacking = filter (is_lacking contents) listed in (
      in_order lacking,
      record {
        rising = rising_in_order lacking;
        exactly = λ digest. (
          (λ has. Contains-from_filter (is_lacking contents) listed digest (from_order lacking digest has)),
          (λ has. to_order lacking digest (Contains-filter (is_lacking contents) listed digest has.0 has.1)),
        );
      },
    )
