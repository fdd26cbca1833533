-- Which boundary separates the parts.
use Rattle.std.specs.Prelude.{◌≡◌, ℕ, ◌<◌, List}
use Rattle.host_names.specs.declared.digests.Digest.{Digest}
use Rattle.range_reply.specs.Multipart.{candidate}
use Rattle.range_reply.specs.Slices.{OccursInOne}

-- the candidate with this number, for ranges of the file with this digest, occurs in none of these texts, and each one with a
-- lower number occurs in one of them
pub record IsFirstApart (texts : List (List ℕ)) (digest : Digest) (number : ℕ) : Type 0 where
  pub apart : OccursInOne (candidate digest number) texts → ⊥
  pub least : (lower : ℕ) → lower < number → OccursInOne (candidate digest lower) texts

-- the text is the first of the eight candidates, from number 0 on, that occurs in none of these texts
abbrev pub IsBoundaryFor : List (List ℕ) → Digest → List ℕ → Type 0
IsBoundaryFor texts digest text = (number : ℕ) × (number < 8) × (text ≡ candidate digest number) × IsFirstApart texts digest number

-- each of the eight candidates occurs in one of these texts
abbrev pub HasNoBoundary : List (List ℕ) → Digest → Type 0
HasNoBoundary texts digest = (number : ℕ) → number < 8 → OccursInOne (candidate digest number) texts
