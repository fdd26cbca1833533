use Rattle.std.proofs.Common.{◌≡◌, ◌∙◌, [], ap, arith, below_more, get_or, refl, subst, sym, map}
use Rattle.std.proofs.lemmas.Bool.{false≢true}
use Rattle.std.proofs.lemmas.List.{get_or-map, length-map}
use Rattle.byte_view.specs.Cuts.{slice}
use Rattle.byte_view.specs.Holds.{Held}
use Rattle.range_reply.specs.Slices.{all_meant, shown}
use Rattle.byte_view.proofs.Occurrences.{OccursIn}
use Rattle.range_reply.proofs.OneOfMany.{none_has, one_has}
use Rattle.range_reply.proofs.Purity.{shown-pure-at}
use Rattle.range_reply.proofs.searches.occurs_in_one.Goals as goal

pub returns-then-occurs_in_hold-clause-shown : goal.returns-then-occurs_in_hold-clause-shown
returns-then-occurs_in_hold-clause-shown c =
    let bytes = c.args.bytes.now in let texts = map shown c.args.holds.now in let i = c.loop-hold.hold-index in
    let count = length-map c.args.holds.now shown in
    let here : get_or texts i [] ≡ shown c.hold-item.result =
    get_or-map shown c.args.holds.now i c.hold-item.result [] c.loop-hold-test.true ∙ ap shown (sym c.hold-item.is) in
    (λ yes. one_has bytes texts i (omega (arith, count, c.loop-hold-test.true)) (subst (OccursIn bytes) (sym here) (c.occurs_in_hold.ensures.shown.0 c.if-occurs_in_hold.true)), λ o. refl)

pub returns-then-occurs_in_hold-clause-pure : goal.returns-then-occurs_in_hold-clause-pure
returns-then-occurs_in_hold-clause-pure c = λ pure.
    let bytes = c.args.bytes.now in let texts = all_meant c.args.holds.now in let i = c.loop-hold.hold-index in
    let count = length-map c.args.holds.now (λ (h : Held). slice h.file h.first h.last) in
    let here : get_or texts i [] ≡ shown c.hold-item.result =
    shown-pure-at c.args.holds.now i c.hold-item.result c.loop-hold-test.true c.hold-item.is c.occurs_in_hold.ensures.held pure in
    (λ yes. one_has bytes texts i (omega (arith, count, c.loop-hold-test.true)) (subst (OccursIn bytes) (sym here) (c.occurs_in_hold.ensures.shown.0 c.if-occurs_in_hold.true)), λ o. refl)

pub loop-hold-preserved : goal.loop-hold-preserved
loop-hold-preserved c =
    let bytes = c.args.bytes.now in let i = c.loop-hold.hold-index in
    let apart : OccursIn bytes (shown c.hold-item.result) → ⊥ = λ o. false≢true (sym c.if-occurs_in_hold.false ∙ c.occurs_in_hold.ensures.shown.1 o) in
    let here : get_or (map shown c.args.holds.now) i [] ≡ shown c.hold-item.result =
    get_or-map shown c.args.holds.now i c.hold-item.result [] c.loop-hold-test.true ∙ ap shown (sym c.hold-item.is) in
    record {
      shown = below_more _ _ c.loop-hold.invariant.shown (λ o. apart (subst (OccursIn bytes) here o));
      pure = λ pure. below_more _ _ (c.loop-hold.invariant.pure pure)
          (λ o. apart (subst (OccursIn bytes) (shown-pure-at c.args.holds.now i c.hold-item.result c.loop-hold-test.true c.hold-item.is c.occurs_in_hold.ensures.held pure) o));
    }

pub returns-clause-shown : goal.returns-clause-shown
returns-clause-shown c =
    let bytes = c.args.bytes.now in let texts = map shown c.args.holds.now in
    let count = length-map c.args.holds.now shown in
    let none = none_has bytes texts c.loop-hold.hold-index (omega (arith, count, c.loop-hold-test.false, c.loop-hold.auto.hold-index-end)) c.loop-hold.invariant.shown in
    (λ no. absurd (false≢true no), λ o. absurd (none o))

pub returns-clause-pure : goal.returns-clause-pure
returns-clause-pure c = λ pure.
    let bytes = c.args.bytes.now in let texts = all_meant c.args.holds.now in
    let count = length-map c.args.holds.now (λ (h : Held). slice h.file h.first h.last) in
    let none = none_has bytes texts c.loop-hold.hold-index (omega (arith, count, c.loop-hold-test.false, c.loop-hold.auto.hold-index-end)) (c.loop-hold.invariant.pure pure) in
    (λ no. absurd (false≢true no), λ o. absurd (none o))
