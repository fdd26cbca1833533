use Rattle.std.proofs.Common.{subst, sym, ◌∙◌}
use Rattle.seen_lists.proofs.visitors.Visitor.go_over.Goals as goal

pub invariant_of-self : goal.invariant_of-self
invariant_of-self g c = subst (λ front. g.E.Growing.is_later c.args.next front) (sym (c.again.ensures ∙ c.front.ensures)) (g.E.Growing.itself c.args.next)
