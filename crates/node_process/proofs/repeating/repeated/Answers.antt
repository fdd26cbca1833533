use Rattle.std.proofs.Common.{ℕ, ◌+◌, ◌≡◌, Bool, true, Err, arith, inl, inr, refl, of_calls, add-one, sym, ◌∙◌}
use Rattle.std.proofs.lemmas.Bool.{false≢true}
use Rattle.blob_store.specs.declared.access_faults.AccessFault.TheVariants.{NoDescriptor}
use Rattle.node_process.specs.declared.repeating.Once.{Once}
use Rattle.node_process.specs.Repeats.{Lacked, Step}
use Rattle.node_process.proofs.repeating.repeated.Goals as goal

-- one more call that lacked a descriptor, and was given one
once_more : {T C G : Type 0} (calls : Step (Once T) C) (gives : Step Bool G) (n : ℕ) (call : C) (give : G)
    (between : C) (asked : G) (last : C) (giver : G) (once : Once T)
    → Lacked calls gives n call give between asked → calls between once last → once.outcome ≡ Err NoDescriptor
    → gives asked true giver → Lacked calls gives (n + 1) call give last giver
unfolding Lacked
once_more calls gives n call give between asked last giver once lacked made is gave =
    rw (add-one n) (between, asked, once, lacked, made, is, gave)

pub loop-made-init : goal.loop-made-init
unfolding Lacked
loop-made-init g c = ((λ always. always), (λ always. always), (refl, refl))

pub loop-made-preserved : goal.loop-made-preserved
loop-made-preserved g c = (
  (λ always. let before = c.loop-made.invariant.0 always in search (of_calls)),
  (λ always. let before = c.loop-made.invariant.1 always in search (of_calls)),
  once_more _ _ _ _ _ _ _ _ _ _ c.loop-made.invariant.2 c.call-once.ensures (c.lacks.ensures.0 c.if-not-lacks.false)
      c.if-not-give.ensures,
)

pub returns-then-not-lacks : goal.returns-then-not-lacks
returns-then-not-lacks g c = (
  c.loop-made._made,
  c.loop-made.call,
  c.loop-made.give,
  c.call-once.result,
  c.call-once.new.self,
  omega (arith, c.loop-made.auto._made-end),
  c.loop-made.invariant.2,
  c.call-once.ensures,
  refl,
  (λ is. absurd (false≢true (sym c.if-not-lacks.true ∙ c.lacks.ensures.1 is))),
)

pub returns-then-not-give : goal.returns-then-not-give
returns-then-not-give g c = (
  c.loop-made._made,
  c.loop-made.call,
  c.loop-made.give,
  c.call-once.result,
  c.call-once.new.self,
  omega (arith, c.loop-made.auto._made-end),
  c.loop-made.invariant.2,
  c.call-once.ensures,
  refl,
  (λ _. inl (c.give.new.self, c.if-not-give.ensures)),
)

pub returns : goal.returns
returns g c = (
  c.loop-made._made,
  c.loop-made.call,
  c.loop-made.give,
  c.call.result,
  c.call.new.self,
  omega (arith, c.loop-made.auto._made-end),
  c.loop-made.invariant.2,
  c.call.ensures,
  refl,
  (λ _. inr (omega (arith, c.loop-made.auto._made-end, c.loop-made-test.false))),
)
