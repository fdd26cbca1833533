use Rattle.std.proofs.Common.{◌≡◌, sym, ap, subst, ◌∙◌, arith}
use Rattle.chunk_lru.specs.Caches.{together}
use Rattle.chunk_lru.specs.Rules.{added, evicted}
use Rattle.chunk_lru.proofs.Fewest.{evicted-view, hot_added, main_added}
use Rattle.chunk_lru.proofs.Kept.{AreWide, kept, wide-hot, wide-main}
use Rattle.chunk_lru.proofs.Sizes.{forty_each}
use Rattle.chunk_lru.proofs.caches.ChunkCache.add.Goals as goal
use Rattle.chunk_lru.proofs.caches.ChunkCache.add.Goals.{in-Main+in_ok-add-in-Main, in-Hot+in_ok-add-in-Hot}

pub add-requires-clause-room : goal.add-requires-clause-room
add-requires-clause-room c = omega (arith, forty_each c.self.inside.main.chunks, c.self.invariant.main_room, c.self.invariant.within)

pub add-requires-in-Hot-clause-room : goal.add-requires-in-Hot-clause-room
add-requires-in-Hot-clause-room c = omega (arith, forty_each c.self.inside.hot.chunks, c.self.invariant.hot_room, c.self.invariant.within)

pub returns-clause-ok : goal.returns-clause-ok
returns-clause-ok c =
    let si = c.match-which.self-inside in
    let rest : evicted (together si.limit si.main si.hot) ≡ added c.args.which c.args.chunk.value c.args.self.now = elim c.match-which.branch [
      | in-Main+in_ok-add-in-Main w ↦
          ap (λ inside. evicted (together inside.limit inside.main inside.hot)) w.self-inside-is
          ∙ main_added c.args.chunk.value c.self.inside.limit c.self.inside.main c.self.inside.hot w.add.new.self c.args.self.now c.self.view_is c.self.invariant.within w.in_ok-add-in-Main.ensures.ok
          ∙ ap (λ which. added which c.args.chunk.value c.args.self.now) (sym w.in-Main.is)
      | in-Hot+in_ok-add-in-Hot w ↦
          ap (λ inside. evicted (together inside.limit inside.main inside.hot)) w.self-inside-is
          ∙ hot_added c.args.chunk.value c.self.inside.limit c.self.inside.main c.self.inside.hot w.add-in-Hot.new.self c.args.self.now c.self.view_is c.self.invariant.within w.in_ok-add-in-Hot.ensures.ok
          ∙ ap (λ which. added which c.args.chunk.value c.args.self.now) (sym w.in-Hot.is)
    ] in
    evicted-view si.limit si.main si.hot c.evict.new.main c.evict.new.hot c.evict.ensures.main c.evict.ensures.hot ∙ rest

pub invariant_of-self-2 : goal.invariant_of-self-2
invariant_of-self-2 c =
    let si = c.match-which.self-inside in
    let wide : AreWide si.limit si.main si.hot = elim c.match-which.branch [
      | in-Main+in_ok-add-in-Main w ↦
          subst (λ inside. AreWide inside.limit inside.main inside.hot) (sym w.self-inside-is)
          (wide-main c.args.chunk.value c.self.inside.limit c.self.inside.main c.self.inside.hot w.add.new.self c.self.invariant w.in_ok-add-in-Main.ensures.ok)
      | in-Hot+in_ok-add-in-Hot w ↦
          subst (λ inside. AreWide inside.limit inside.main inside.hot) (sym w.self-inside-is)
          (wide-hot c.args.chunk.value c.self.inside.limit c.self.inside.main c.self.inside.hot w.add-in-Hot.new.self c.self.invariant w.in_ok-add-in-Hot.ensures.ok)
    ] in
    kept si.limit si.main si.hot c.evict.new.main c.evict.new.hot wide c.evict.ensures.main c.evict.ensures.hot c.evict.ensures.within
