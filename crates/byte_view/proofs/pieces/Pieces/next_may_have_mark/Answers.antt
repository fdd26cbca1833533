use Rattle.std.proofs.Common.{◌≡◌, ◌∙◌, ◌-◌, List, ℕ, [], ◌∷◌, ap, get_or, map, subst, sym}
use Rattle.std.specs.Prelude.{slice_range}
use Rattle.byte_view.specs.Marks.{HasMark, mark}
use Rattle.byte_view.specs.Parts.{parts}
use Rattle.byte_view.proofs.Occurrences.{occurs_in_whole}
use Rattle.byte_view.proofs.pieces.Pieces.next_may_have_mark.Goals as goal

pub returns-in-Some : goal.returns-in-Some
returns-in-Some c = λ first others are has.
    let chunk : List ℕ = c.in-Some.chunk.now.value in let from = c.self.inside.from in let to = c.self.inside.to in
    let left : c.args.self.now ≡ slice_range chunk from to ∷ parts (map (λ chunk. chunk.value) c.in-Some.field-0-1.now) (from - 65536) (to - 65536) =
    sym c.self.view_is ∙ ap (λ chunks. parts (map (λ chunk. chunk.value) chunks) from to) c.in-Some.ensures.cases.0 in
    let is : first ≡ slice_range chunk from to = ap (λ l. get_or l 0 []) (sym are ∙ left) in
    c.has_mark.ensures.1 (subst HasMark (sym c.deref.ensures) (occurs_in_whole mark chunk from to (subst HasMark is has)))
