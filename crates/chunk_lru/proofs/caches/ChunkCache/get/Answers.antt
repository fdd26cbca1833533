use Rattle.std.proofs.Common.{option_map, sym, ap, ◌∙◌, arith}
use Rattle.chunk_lru.specs.Caches.{together}
use Rattle.chunk_lru.proofs.Lookups.{answers-name, looked-keeps, looked-own, looked_up-hot, on_err, on_ok}
use Rattle.chunk_lru.proofs.OwnNames.{own-to_front}
use Rattle.chunk_lru.proofs.Sizes.{found-name, looked-absent, size_of-to_front}
use Rattle.chunk_lru.proofs.caches.ChunkCache.get.Goals as goal

pub invariant_of-self-in-Some : goal.invariant_of-self-in-Some
invariant_of-self-in-Some c = rw c.in_ok-chunk.ensures.ok (record {
  fits = c.self.invariant.fits;
  main_room = c.self.invariant.main_room;
  hot_room = c.self.invariant.hot_room;
  within = omega (arith, c.self.invariant.within, size_of-to_front c.args.name.now c.self.inside.main.chunks);
  own = (own-to_front c.args.name.now c.self.inside.main.chunks c.self.invariant.own.0, c.self.invariant.own.1);
})

pub invariant_of-self-in-None : goal.invariant_of-self-in-None
invariant_of-self-in-None c = let hot = looked-keeps c.get-in-None.result c.args.name.now c.self.inside.hot c.get-in-None.new.self c.get-in-None.ensures.ok c.get-in-None.ensures.err in
    rw c.in_ok-chunk.ensures.ok (record {
      fits = c.self.invariant.fits;
      main_room = c.self.invariant.main_room;
      hot_room = hot.0 ∙ c.self.invariant.hot_room;
      within = omega (arith, c.self.invariant.within, hot.1, size_of-to_front c.args.name.now c.self.inside.main.chunks);
      own = (
        own-to_front c.args.name.now c.self.inside.main.chunks c.self.invariant.own.0,
        looked-own c.get-in-None.result c.args.name.now c.self.inside.hot c.get-in-None.new.self c.get-in-None.ensures.ok c.get-in-None.ensures.err c.self.invariant.own.1,
      );
    })

pub returns-in-Some-clause-named : goal.returns-in-Some-clause-named
returns-in-Some-clause-named c = found-name c.args.name.now c.self.inside.main.chunks c.in-Some.chunk.value (sym c.in_ok-chunk.ensures.found ∙ ap (option_map (λ share. share.value)) c.in-Some.is)

pub returns-in-None-clause-named : goal.returns-in-None-clause-named
returns-in-None-clause-named c = answers-name (λ share. share.value) c.get-in-None.result c.args.name.now c.self.inside.hot.chunks c.get-in-None.ensures.found

pub returns-in-None-clause-ok : goal.returns-in-None-clause-ok
returns-in-None-clause-ok c =
    on_ok c.get-in-None.result (λ moved. looked_up-hot c.args.name.now c.self.inside.limit c.self.inside.main c.self.inside.hot c.get.new.self c.get-in-None.new.self c.args.self.now c.self.view_is
    (sym c.in_ok-chunk.ensures.found ∙ ap (option_map (λ share. share.value)) c.in-None.is) c.in_ok-chunk.ensures.ok moved) c.get-in-None.ensures.ok

pub returns-in-None-clause-err : goal.returns-in-None-clause-err
returns-in-None-clause-err c =
    on_err c.get-in-None.result (λ same.
    ap (λ l. together c.self.inside.limit l c.get-in-None.new.self)
    (looked-absent c.args.name.now c.self.inside.main c.get.new.self c.in_ok-chunk.ensures.ok (sym c.in_ok-chunk.ensures.found ∙ ap (option_map (λ share. share.value)) c.in-None.is))
    ∙ ap (λ l. together c.self.inside.limit c.self.inside.main l) same ∙ c.self.view_is) c.get-in-None.ensures.err
