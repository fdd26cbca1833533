use Rattle.std.proofs.Common.{◌≡◌, ◌≢◌, inl, inr, ℕ, List, [], ◌∷◌, ◌++◌, map}
use Rattle.std.proofs.Math.Logic.{∥∥₁_elim}
use mathlib.Core.HLevel.{⊥_prop}
use Rattle.host_names.specs.declared.digests.Digest.{Digest}
use Rattle.host_names.specs.Digests.{digest_of}
use Rattle.chunk_group.proofs.laws.wrong_answers_are_refused.Goals as goal

-- of no names there is no next one
no_next : (chunks : List (List ℕ)) (name : Digest) (left : List Digest) → map digest_of chunks ++ name ∷ left ≡ [] → ⊥
no_next [] name left is = absurd (cc is)
no_next (chunk ∷ chunks) name left is = absurd (cc is)

-- and of none of them a chunk is read
none_read : (chunks : List (List ℕ)) (left : List Digest) → left ≢ [] → map digest_of chunks ++ left ≡ [] → ⊥
none_read [] left some is = some is
none_read (chunk ∷ chunks) left some is = absurd (cc is)

pub returns-clause-read : goal.returns-clause-read
returns-clause-read g c old new fault (inl (mid, name, left, (chunks, named, turns), failed)) = no_next chunks name left named
returns-clause-read g c old new fault (inr (memory, (left, some, (chunks, named, turns)))) = none_read chunks left some named

pub returns-clause-may_not : goal.returns-clause-may_not
returns-clause-may_not g c file first last (inl memory) = absurd (cc memory)
returns-clause-may_not g c file first last (inr (inl (name, among, may))) = ∥∥₁_elim may ⊥_prop (λ x. x)
returns-clause-may_not g c file first last (inr (inr (damaged, chunks))) = absurd (cc damaged)
