use Rattle.std.proofs.Common.{eqb, rules, tests}
use Rattle.std.proofs.lemmas.Iterator.Search.{any_from_yields_List}
use Rattle.std.proofs.lemmas.Iterator.Splits.{YieldsList-from_slice_split}
use Rattle.http_wire.specs.Connections.{is_close}
use Rattle.http_wire.proofs.connections.lists_close.Goals as goal

pub returns : goal.returns
returns c =
    any_from_yields_List is_close _ _ _ c.any.ensures.ran
    (YieldsList-from_slice_split _ (λ b. eqb b 44) c.args.value.now c.split.ensures.rest c.split.ensures.done c.split.ensures.closure (λ x r q k. search (rules, tests)))
    (λ x r q k. search (rules, tests))
