use Rattle.std.proofs.Common.{◌≡◌, ◌+◌, ◌∷◌, drop, sym, ap, ◌∙◌}
use Rattle.std.proofs.lemmas.List.{drop_more}
use Rattle.world_node.proofs.Handling.{met_open, passed}
use Rattle.world_node.proofs.flights.find_open.Goals as goal

pub returns-then-is_open_of : goal.returns-then-is_open_of
returns-then-is_open_of c =
    let fs = c.args.flights.now in
    let i = c.loop-number.number in
    let f = c.index-flights-number.result in
    let at : drop i fs ≡ f ∷ drop (i + 1) fs = drop_more fs i f c.loop-number-test.true ∙ ap (λ g. g ∷ drop (i + 1) fs) (sym c.index-flights-number.is) in
    met_open c.args.key.now fs (drop (i + 1) fs) i f at (sym c.is_open_of.ensures ∙ c.if-is_open_of.true) c.loop-number.invariant

pub loop-number-preserved : goal.loop-number-preserved
loop-number-preserved c =
    let fs = c.args.flights.now in
    let i = c.loop-number.number in
    let f = c.index-flights-number.result in
    let at : drop i fs ≡ f ∷ drop (i + 1) fs = drop_more fs i f c.loop-number-test.true ∙ ap (λ g. g ∷ drop (i + 1) fs) (sym c.index-flights-number.is) in
    passed c.args.key.now fs (drop (i + 1) fs) i f at (sym c.is_open_of.ensures ∙ c.if-is_open_of.false) c.loop-number.invariant
