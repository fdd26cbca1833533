use Rattle.std.proofs.Common.{ℕ, Option, Some, None, sym, ap, subst, ◌∙◌}
use Rattle.touch_index.specs.Next.{IsNext}
use Rattle.touch_index.specs.Postings.{Postings, is_posted}
use Rattle.touch_index.proofs.LookUps.{next-first, first_number}
use Rattle.touch_index.proofs.index.Index.next_under.Goals as goal

pub returns-in-Some : goal.returns-in-Some
returns-in-Some c =
    let P : Option ℕ → Type 0 = λ o. IsNext (is_posted c.self.inside.postings c.args.key) c.args.number o in
    let Q : Postings → Type 0 = λ es. IsNext (is_posted es c.args.key) c.args.number (Some c.in-Some.posting.now.0.number) in
    subst Q c.self.view_is (subst P (ap first_number (sym c.range.ensures ∙ c.in-Some.ensures)) (next-first c.args.key c.args.number c.self.inside.postings c.self.invariant))

pub returns-in-None : goal.returns-in-None
returns-in-None c =
    let P : Option ℕ → Type 0 = λ o. IsNext (is_posted c.self.inside.postings c.args.key) c.args.number o in
    let Q : Postings → Type 0 = λ es. IsNext (is_posted es c.args.key) c.args.number None in
    subst Q c.self.view_is (subst P (ap first_number (sym c.range.ensures ∙ c.in-None.ensures)) (next-first c.args.key c.args.number c.self.inside.postings c.self.invariant))
