-- The fewest chunks go, and the caches stay within their limit.
use Rattle.std.proofs.Common.{◌≡◌, ℕ, zero, suc, ◌+◌, ◌<◌, ◌≤◌, Bool, true, false, List, [], ◌∷◌, is_some, nat_lt, refl, sym, ap, subst, ◌∙◌, arith}
use Rattle.std.specs.Prelude.{if◌then◌else◌}
use Rattle.std.proofs.lemmas.Bool.{ltb-false, ltb-true}
use Rattle.host_names.specs.declared.digests.Digest.{Digest}
use Rattle.host_names.specs.Digests.{digest_of}
use Rattle.chunk_lru.specs.declared.caches.Which.{Which}
use Rattle.chunk_lru.specs.declared.caches.Which.TheVariants.{Main, Hot}
use Rattle.chunk_lru.specs.Caches.{Cache, together}
use Rattle.chunk_lru.specs.Calls.{Add, Call, Get, after, after_all}
use Rattle.chunk_lru.specs.Evictions.{EvictsFewest, with_gone}
use Rattle.chunk_lru.specs.Recent.{Recent, found, inserted, recent, size_of, to_front}
use Rattle.chunk_lru.specs.Rules.{added, chunks_in, evicted, shrunk, total, with_chunks, with_one_gone}
use Rattle.chunk_lru.proofs.Evictions.{count, count-fewer, evicted-within, limit-gone, none_counted, shrunk-over, shrunk-within}
use Rattle.chunk_lru.proofs.Sizes.{size_of-to_front}

-- the fewest of at most so many
record GoesFewest (n : ℕ) (cache : Cache) : Type 0 where
  pub gone : ℕ
  pub is : shrunk n cache ≡ with_gone gone cache
  pub within : total (with_gone gone cache) ≤ cache.limit
  pub fewest : (k : ℕ) → k < gone → cache.limit < total (with_gone k cache)

at_most : (n : ℕ) (cache : Cache) → total cache ≤ cache.limit → GoesFewest n cache
at_most n cache within = record { gone = 0; is = shrunk-within n cache within; within = within; fewest = λ k less. absurd (omega (arith, less)) }

fewest_more : (cache : Cache) (gone : ℕ) → cache.limit < total cache → ((k : ℕ) → k < gone → (with_one_gone cache).limit < total (with_gone k (with_one_gone cache))) → (k : ℕ) → k < suc gone → cache.limit < total (with_gone k cache)
fewest_more cache gone over fewest zero less = over
fewest_more cache gone over fewest (suc k) less = subst (λ n. n < total (with_gone k (with_one_gone cache))) (limit-gone cache) (fewest k (omega (arith, less)))

one_more : (n : ℕ) (cache : Cache) → cache.limit < total cache → GoesFewest n (with_one_gone cache) → GoesFewest (suc n) cache
one_more n cache over rest = record {
  gone = suc rest.gone;
  is = shrunk-over n cache over ∙ rest.is;
  within = subst (λ limit. total (with_gone rest.gone (with_one_gone cache)) ≤ limit) (limit-gone cache) rest.within;
  fewest = fewest_more cache rest.gone over rest.fewest;
}

goes_fewest : (n : ℕ) (cache : Cache) → count cache ≤ n → GoesFewest n cache
goes_fewest zero cache few = at_most zero cache (omega (arith, few, none_counted cache.main (omega (arith, few)), none_counted cache.hot (omega (arith, few))))
goes_fewest (suc n) cache few = by (nat_lt cache.limit (total cache)) refl (goes_fewest n (with_one_gone cache))
  where
    by : (b : Bool) → nat_lt cache.limit (total cache) ≡ b → (count (with_one_gone cache) ≤ n → GoesFewest n (with_one_gone cache)) → GoesFewest (suc n) cache
    by true over rest = let more = ltb-true _ _ over in one_more n cache more (rest (omega (arith, few, count-fewer cache more)))
    by false within rest = at_most (suc n) cache (ltb-false _ _ within)

pub evicts_fewest : (cache : Cache) → EvictsFewest cache
evicts_fewest cache = let g = goes_fewest (count cache) cache (omega arith) in record { count = g.gone; is = g.is; within = g.within; fewest = g.fewest }

pub evicted-fits : (cache : Cache) → total (evicted cache) ≤ cache.limit
evicted-fits cache = let f = evicts_fewest cache in subst (λ (c : Cache). total c ≤ cache.limit) (sym f.is) f.within

limit-shrunk : (n : ℕ) (cache : Cache) → (shrunk n cache).limit ≡ cache.limit
limit-shrunk zero cache = refl
limit-shrunk (suc n) cache = by (nat_lt cache.limit (total cache)) (limit-shrunk n (with_one_gone cache))
  where
    by : (b : Bool) → (shrunk n (with_one_gone cache)).limit ≡ (with_one_gone cache).limit → (if b then shrunk n (with_one_gone cache) else cache).limit ≡ cache.limit
    by true rest = rest ∙ limit-gone cache
    by false rest = refl

pub limit-evicted : (cache : Cache) → (evicted cache).limit ≡ cache.limit
limit-evicted cache = limit-shrunk (count cache) cache

-- lists of which chunks were evicted
pub evicted-view : (limit : ℕ) (main hot main_after hot_after : Recent) → main_after ≡ recent (evicted (together limit main hot)).main main.room → hot_after ≡ recent (evicted (together limit main hot)).hot hot.room
    → together limit main_after hot_after ≡ evicted (together limit main hot)
evicted-view limit main hot main_after hot_after m h =
    ap (λ (l : Recent). together limit l hot_after) m
    ∙ ap (λ (l : Recent). together limit (recent (evicted (together limit main hot)).main main.room) l) h
    ∙ ap (λ n. let c : Cache = record { limit = n; main = (evicted (together limit main hot)).main; hot = (evicted (together limit main hot)).hot } in c) (sym (limit-evicted (together limit main hot)))

total-moved : (which : Which) (name : Digest) (cache : Cache) → total (with_chunks which (to_front name (chunks_in which cache)) cache) ≡ total cache
total-moved Main name cache = ap (λ n. n + size_of cache.hot) (size_of-to_front name cache.main)
total-moved Hot name cache = ap (λ n. size_of cache.main + n) (size_of-to_front name cache.hot)

limit-with : (which : Which) (chunks : List (List ℕ)) (cache : Cache) → (with_chunks which chunks cache).limit ≡ cache.limit
limit-with Main chunks cache = refl
limit-with Hot chunks cache = refl

-- a name that is there evicts nothing, so that it does no harm to look
pub inserted-added : (which : Which) (chunk : List ℕ) (cache : Cache) → total cache ≤ cache.limit → evicted (with_chunks which (inserted chunk (chunks_in which cache)) cache) ≡ added which chunk cache
inserted-added which chunk cache within = by (is_some (found (digest_of chunk) (chunks_in which cache)))
  where
    by : (b : Bool) → evicted (with_chunks which (if b then to_front (digest_of chunk) (chunks_in which cache) else chunk ∷ chunks_in which cache) cache)
        ≡ (if b then with_chunks which (to_front (digest_of chunk) (chunks_in which cache)) cache else evicted (with_chunks which (chunk ∷ chunks_in which cache) cache))
    by true = evicted-within (with_chunks which (to_front (digest_of chunk) (chunks_in which cache)) cache)
        (omega (arith, within, total-moved which (digest_of chunk) cache, limit-with which (to_front (digest_of chunk) (chunks_in which cache)) cache))
    by false = refl

pub main_added : (chunk : List ℕ) (limit : ℕ) (main hot after_add : Recent) (old : Cache) → together limit main hot ≡ old → size_of main.chunks + size_of hot.chunks ≤ limit → after_add ≡ recent (inserted chunk main.chunks) main.room
    → evicted (together limit after_add hot) ≡ added Main chunk old
main_added chunk limit main hot after_add old view within is =
    ap (λ (l : Recent). evicted (together limit l hot)) is ∙ inserted-added Main chunk (together limit main hot) within ∙ ap (added Main chunk) view

pub hot_added : (chunk : List ℕ) (limit : ℕ) (main hot after_add : Recent) (old : Cache) → together limit main hot ≡ old → size_of main.chunks + size_of hot.chunks ≤ limit → after_add ≡ recent (inserted chunk hot.chunks) hot.room
    → evicted (together limit main after_add) ≡ added Hot chunk old
hot_added chunk limit main hot after_add old view within is =
    ap (λ (l : Recent). evicted (together limit main l)) is ∙ inserted-added Hot chunk (together limit main hot) within ∙ ap (added Hot chunk) view

-- calls keep the limit, and stay within it
abbrev IsWithin : ℕ → Cache → Type 0
IsWithin limit cache = (cache.limit ≡ limit) × (total cache ≤ limit)

moved-within : (limit : ℕ) (which : Which) (name : Digest) (cache : Cache) → IsWithin limit cache → IsWithin limit (with_chunks which (to_front name (chunks_in which cache)) cache)
moved-within limit which name cache was = (
  limit-with which (to_front name (chunks_in which cache)) cache ∙ was.0,
  omega (arith, was.1, total-moved which name cache),
)

evicted-IsWithin : (limit : ℕ) (cache : Cache) → cache.limit ≡ limit → IsWithin limit (evicted cache)
evicted-IsWithin limit cache is = (limit-evicted cache ∙ is, omega (arith, evicted-fits cache, is))

after-within : (limit : ℕ) (call : Call) (cache : Cache) → IsWithin limit cache → IsWithin limit (after call cache)
after-within limit (Get name) cache was = moved-within limit (if is_some (found name cache.main) then Main else Hot) name cache was
after-within limit (Add which chunk) cache was = by (is_some (found (digest_of chunk) (chunks_in which cache)))
  where
    by : (b : Bool) → IsWithin limit (if b then with_chunks which (to_front (digest_of chunk) (chunks_in which cache)) cache else evicted (with_chunks which (chunk ∷ chunks_in which cache) cache))
    by true = moved-within limit which (digest_of chunk) cache was
    by false = evicted-IsWithin limit (with_chunks which (chunk ∷ chunks_in which cache) cache) (limit-with which (chunk ∷ chunks_in which cache) cache ∙ was.0)

pub stays_within : (limit : ℕ) (calls : List Call) (cache : Cache) → IsWithin limit cache → IsWithin limit (after_all calls cache)
stays_within limit [] cache was = was
stays_within limit (call ∷ calls) cache was = stays_within limit calls (after call cache) (after-within limit call cache was)
