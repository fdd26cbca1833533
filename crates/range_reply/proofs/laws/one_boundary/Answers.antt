use Rattle.std.proofs.Common.{◌≡◌, ℕ, ◌<◌, ◌⊎◌, inl, inr, List, sym, ap, ◌∙◌}
use Rattle.std.proofs.lemmas.Bool.{cases_order}
use Rattle.host_names.specs.declared.digests.Digest.{Digest}
use Rattle.range_reply.specs.Boundaries.{IsBoundaryFor}
use Rattle.range_reply.specs.Multipart.{candidate}
use Rattle.range_reply.proofs.laws.one_boundary.Goals as goal

-- neither of the two numbers is the lower one, since its candidate would have to occur
same : (texts : List (List ℕ)) (digest : Digest) (one another : List ℕ) (a : IsBoundaryFor texts digest one) (b : IsBoundaryFor texts digest another)
    → (a.0 ≡ b.0) ⊎ ((a.0 < b.0) ⊎ (b.0 < a.0)) → one ≡ another
same texts digest one another a b (inl equal) = a.2 ∙ ap (candidate digest) equal ∙ sym b.2
same texts digest one another a b (inr (inl less)) = absurd (a.3.apart (b.3.least a.0 less))
same texts digest one another a b (inr (inr more)) = absurd (b.3.apart (a.3.least b.0 more))

pub returns : goal.returns
returns c texts digest one another a b = same texts digest one another a b (cases_order a.0 b.0)
