use Rattle.range_spec.proofs.grammar.parse.Goals as goal

pub returns-in-Some : goal.returns-in-Some
returns-in-Some c = record {
  understood = λ specs. ((λ e. (c.in-Some.ensures specs).0 cc), (λ p. let same = (c.in-Some.ensures specs).1 p in cc));
}

pub returns-in-None : goal.returns-in-None
returns-in-None c = record { understood = λ specs. ((λ e. cc), (λ p. let same = (c.in-None.ensures specs).1 p in cc)) }
