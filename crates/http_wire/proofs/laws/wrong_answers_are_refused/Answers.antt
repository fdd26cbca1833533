use Rattle.std.proofs.Common.{◌≡◌, ℕ, ◌<◌, List, [], ◌∷◌, ◌++◌, Option, Some, None, length, refl, ◌∙◌, arith}
use Rattle.std.specs.List.{flat_map}
use Rattle.std.specs.Io.KnownBytes.{Consumes}
use Rattle.http_wire.specs.HeadText.{IsHeadText, ended}
use Rattle.http_wire.proofs.laws.wrong_answers_are_refused.Goals as goal

-- a line's end is a byte
ends : (before lines last : List ℕ) → [] ≡ before ++ (lines ++ ended last) → ⊥
ends [] [] [] is = absurd (cc is)
ends [] [] (b ∷ last) is = absurd (cc is)
ends [] (b ∷ lines) last is = absurd (cc is)
ends (b ∷ before) lines last is = absurd (cc is)

front_of_nothing : (front rest : List ℕ) → [] ≡ front ++ rest → [] ≡ front
front_of_nothing [] rest is = refl
front_of_nothing (b ∷ front) rest is = absurd (cc is)

rest_of_nothing : (front rest : List ℕ) → [] ≡ front ++ rest → 0 < length rest → ⊥
rest_of_nothing [] [] is some = omega (arith, some)
rest_of_nothing [] (b ∷ rest) is some = absurd (cc is)
rest_of_nothing (b ∷ front) rest is some = absurd (cc is)

no_head : (new : Option (List ℕ)) (text : List ℕ) → Consumes (Some []) new text → IsHeadText text → ⊥
no_head None text taken head = taken
no_head (Some left) text taken head =
    ends (flat_map ended head.before) (flat_map ended head.lines) head.last (front_of_nothing text left taken ∙ head.text_is)

pub returns-clause-refuses : goal.returns-clause-refuses
returns-clause-refuses g c new refuses = no_head new refuses.0 refuses.1.taken refuses.1.head

pub returns-clause-front : goal.returns-clause-front
returns-clause-front g c start held count sent = rest_of_nothing sent.2.gone sent.0 sent.2.text_is sent.1

pub returns-clause-appends : goal.returns-clause-appends
returns-clause-appends g c held new_held appends = rest_of_nothing appends.0 appends.1 appends.3 appends.2
