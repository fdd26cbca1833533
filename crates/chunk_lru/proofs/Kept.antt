-- What evictions leave of the two lists is again two lists of a cache.
use Rattle.std.proofs.Common.{◌≡◌, ℕ, ◌+◌, ◌/◌, ◌<◌, ◌≤◌, ◌^◌, List, sym, ap, subst, ◌∙◌}
use Rattle.chunk_lru.specs.Caches.{AreWithin, together}
use Rattle.chunk_lru.specs.Recent.{HaveOwnNames, Recent, inserted, recent}
use Rattle.chunk_lru.specs.Rules.{evicted, total}
use Rattle.chunk_lru.proofs.OwnNames.{own-evicted, own-inserted}

-- two lists are as wide and as distinct as those of a cache, but may count too much
pub record AreWide (limit : ℕ) (main hot : Recent) : Type 0 where
  pub fits : limit < 2 ^ 64
  pub main_room : main.room ≡ limit / 40 + 1
  pub hot_room : hot.room ≡ limit / 40 + 1
  pub own : HaveOwnNames main.chunks × HaveOwnNames hot.chunks

own-put : (chunk : List ℕ) (list after : Recent) → after ≡ recent (inserted chunk list.chunks) list.room → HaveOwnNames list.chunks → HaveOwnNames after.chunks
own-put chunk list after is own = subst (λ (l : Recent). HaveOwnNames l.chunks) (sym is) (own-inserted chunk list.chunks own)

pub wide-main : (chunk : List ℕ) (limit : ℕ) (main hot after : Recent) → AreWithin limit main hot → after ≡ recent (inserted chunk main.chunks) main.room → AreWide limit after hot
wide-main chunk limit main hot after was is = record {
  fits = was.fits;
  main_room = ap (λ (l : Recent). l.room) is ∙ was.main_room;
  hot_room = was.hot_room;
  own = (own-put chunk main after is was.own.0, was.own.1);
}

pub wide-hot : (chunk : List ℕ) (limit : ℕ) (main hot after : Recent) → AreWithin limit main hot → after ≡ recent (inserted chunk hot.chunks) hot.room → AreWide limit main after
wide-hot chunk limit main hot after was is = record {
  fits = was.fits;
  main_room = was.main_room;
  hot_room = ap (λ (l : Recent). l.room) is ∙ was.hot_room;
  own = (was.own.0, own-put chunk hot after is was.own.1);
}

pub kept : (limit : ℕ) (main hot main_after hot_after : Recent) → AreWide limit main hot → main_after ≡ recent (evicted (together limit main hot)).main main.room
    → hot_after ≡ recent (evicted (together limit main hot)).hot hot.room → total (together limit main_after hot_after) ≤ limit → AreWithin limit main_after hot_after
kept limit main hot main_after hot_after wide m h within =
    let own = own-evicted (together limit main hot) wide.own in
    record {
      fits = wide.fits;
      main_room = ap (λ (l : Recent). l.room) m ∙ wide.main_room;
      hot_room = ap (λ (l : Recent). l.room) h ∙ wide.hot_room;
      within = within;
      own = (subst (λ (l : Recent). HaveOwnNames l.chunks) (sym m) own.0, subst (λ (l : Recent). HaveOwnNames l.chunks) (sym h) own.1);
    }
