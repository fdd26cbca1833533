-- The next part of a body.
use Rattle.std.proofs.Common.{◌≡◌, ℕ, ◌≤◌, List, ◌++◌, Option, Some, None, length, ap, sym, ◌∙◌, arith}
use Rattle.std.specs.List.{concat}
use Rattle.std.specs.Iterator.{YieldsFirstBy}
use Rattle.byte_view.specs.BodyParts.{text_if}

-- the bytes that were left are those of the part that was given, if one was, and then the others
pub next_taken : {S A : Type 0} (text : A → List ℕ) (texts : S → List (List ℕ)) (old : S) (part : Option A) (new : S) → YieldsFirstBy text texts old part new
    → concat (texts old) ≡ text_if text part ++ concat (texts new)
next_taken text texts old None new given = ap concat (given.0 ∙ sym given.1)
next_taken text texts old (Some part) new given = ap concat given

-- no more parts are left than before
pub next_fewer : {S A : Type 0} (text : A → List ℕ) (texts : S → List (List ℕ)) (old : S) (part : Option A) (new : S) → YieldsFirstBy text texts old part new
    → length (texts new) ≤ length (texts old)
next_fewer text texts old None new given = omega (arith, ap length given.0, ap length given.1)
next_fewer text texts old (Some part) new given = omega (arith, ap length given)
