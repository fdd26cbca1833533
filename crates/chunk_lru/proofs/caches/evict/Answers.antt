use Rattle.std.proofs.Common.{◌≡◌, ◌<◌, ◌≤◌, ◌/◌, refl, sym, ap, subst, ◌∙◌, arith}
use Rattle.chunk_lru.specs.Caches.{Cache, together}
use Rattle.chunk_lru.specs.Recent.{recent, size_of}
use Rattle.chunk_lru.specs.Rules.{evicted}
use Rattle.chunk_lru.proofs.Evictions.{Goes, evicted-within, hot_goes, main_goes}
use Rattle.chunk_lru.proofs.caches.evict.Goals as goal

pub loop-hot-init : goal.loop-hot-init
loop-hot-init c = record { rest = refl; main_room = refl; hot_room = refl; bound = c.requires }

pub overflow_add-size : goal.overflow_add-size
overflow_add-size c = omega (arith, c.loop-hot.invariant.bound, c.size.ensures, c.size-in-loop-hot.ensures)

goes-hot : (c : goal.After-remove_last) → Goes c.args.limit c.loop-hot.main c.remove_last.new.self c.loop-hot.main c.loop-hot.hot
goes-hot c = hot_goes c.args.limit c.loop-hot.main c.loop-hot.hot c.remove_last.new.self
    (omega (arith, c.loop-hot-test.true, c.size.ensures, c.size-in-loop-hot.ensures))
    (subst (λ n. size_of c.loop-hot.main.chunks / 8 < n) c.size-in-loop-hot-2.ensures (subst (λ n. n / 8 < c.size-in-loop-hot-2.result) c.size-in-loop-hot-3.ensures c.if-size.true))
    c.remove_last.ensures

pub loop-hot-smaller-then-size : goal.loop-hot-smaller-then-size
loop-hot-smaller-then-size c = (goes-hot c).fewer

pub loop-hot-preserved-then-size : goal.loop-hot-preserved-then-size
loop-hot-preserved-then-size c = let g = goes-hot c in record {
  rest = g.rest ∙ c.loop-hot.invariant.rest;
  main_room = c.loop-hot.invariant.main_room;
  hot_room = g.hot_room ∙ c.loop-hot.invariant.hot_room;
  bound = omega (arith, g.counted, c.loop-hot.invariant.bound);
}

goes-main : (c : goal.After-remove_last-else-size) → Goes c.args.limit c.remove_last-else-size.new.self c.loop-hot.hot c.loop-hot.main c.loop-hot.hot
goes-main c = main_goes c.args.limit c.loop-hot.main c.loop-hot.hot c.remove_last-else-size.new.self
    (omega (arith, c.loop-hot-test.true, c.size.ensures, c.size-in-loop-hot.ensures))
    (subst (λ n. n ≤ size_of c.loop-hot.main.chunks / 8) c.size-in-loop-hot-2.ensures (subst (λ n. c.size-in-loop-hot-2.result ≤ n / 8) c.size-in-loop-hot-3.ensures c.if-size.false))
    c.remove_last-else-size.ensures

pub loop-hot-smaller : goal.loop-hot-smaller
loop-hot-smaller c = (goes-main c).fewer

pub loop-hot-preserved : goal.loop-hot-preserved
loop-hot-preserved c = let g = goes-main c in record {
  rest = g.rest ∙ c.loop-hot.invariant.rest;
  main_room = g.main_room ∙ c.loop-hot.invariant.main_room;
  hot_room = c.loop-hot.invariant.hot_room;
  bound = omega (arith, g.counted, c.loop-hot.invariant.bound);
}

rest : (c : goal.After-loop-hot) → together c.args.limit c.loop-hot.main c.loop-hot.hot ≡ evicted (together c.args.limit c.args.main.now c.args.hot.now)
rest c = sym (evicted-within (together c.args.limit c.loop-hot.main c.loop-hot.hot) (omega (arith, c.loop-hot-test.false, c.size.ensures, c.size-in-loop-hot.ensures))) ∙ c.loop-hot.invariant.rest

pub returns-clause-main : goal.returns-clause-main
returns-clause-main c =
    ap (λ (cache : Cache). recent cache.main c.loop-hot.main.room) (rest c)
    ∙ ap (recent (evicted (together c.args.limit c.args.main.now c.args.hot.now)).main) c.loop-hot.invariant.main_room

pub returns-clause-hot : goal.returns-clause-hot
returns-clause-hot c =
    ap (λ (cache : Cache). recent cache.hot c.loop-hot.hot.room) (rest c)
    ∙ ap (recent (evicted (together c.args.limit c.args.main.now c.args.hot.now)).hot) c.loop-hot.invariant.hot_room
