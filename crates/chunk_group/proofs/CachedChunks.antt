-- What holds of each chunk in a cache stays so as chunks move and go, and holds of the one that is found.
use Rattle.std.proofs.Common.{◌≡◌, ℕ, zero, suc, ◌+◌, ◌-◌, Bool, true, false, inl, inr, cond, List, [], ◌∷◌, length, take, is_some, nat_lt, Option, Some, None, refl, subst}
use Rattle.std.specs.Prelude.{if◌then◌else◌}
use Rattle.std.specs.List.{AllByRecursion, Contains, cons_option}
use Rattle.std.proofs.lemmas.List.Elements.{All-contains_itself, recursion_from_All}
use Rattle.std.specs.Option.{option_or}
use Rattle.std.specs.Set.{remove_key}
use Rattle.host_names.specs.declared.digests.Digest.{Digest}
use Rattle.host_names.specs.Digests.{digest_of}
use Rattle.chunk_lru.specs.declared.caches.Which.{Which}
use Rattle.chunk_lru.specs.declared.caches.Which.TheVariants.{Main, Hot}
use Rattle.chunk_lru.specs.Caches.{Cache}
use Rattle.chunk_lru.specs.Recent.{found, has_name, to_front, without_last}
use Rattle.chunk_lru.specs.Rules.{added, chunks_in, evicted, held, looked_up, shrunk, total, victim, with_chunks, with_one_gone}
use Rattle.chunk_lru.proofs.Sizes.{found-name}
use Rattle.chunk_group.specs.Cached.{AllCached, IsCached}

-- what is held is found in one of the two
one_of : (Q : List ℕ → Type 0) (chunk : List ℕ) (main hot : Option (List ℕ)) → (main ≡ Some chunk → Q chunk) → (hot ≡ Some chunk → Q chunk)
    → option_or main hot ≡ Some chunk → Q chunk
one_of Q chunk None hot first second is = second is
one_of Q chunk (Some other) hot first second is = first is

-- it has the name
pub held-name : (name : Digest) (cache : Cache) (chunk : List ℕ) → held name cache ≡ Some chunk → digest_of chunk ≡ name
held-name name cache chunk is =
    one_of (λ c. digest_of c ≡ name) chunk (found name cache.main) (found name cache.hot) (found-name name cache.main chunk) (found-name name cache.hot chunk) is

module _ (P : List ℕ → Type 0) where
  abbrev AreAll : List (List ℕ) → Type 0
  AreAll chunks = AllByRecursion P chunks

  all-found : (name : Digest) (chunks : List (List ℕ)) (chunk : List ℕ) → AreAll chunks → found name chunks ≡ Some chunk → P chunk
  all-found name [] chunk all none = cc none
  all-found name (c ∷ chunks) chunk all some = by (has_name name c) some (all-found name chunks chunk all.1)
    where
      by : (b : Bool) → cond b (Some c) (found name chunks) ≡ Some chunk → (found name chunks ≡ Some chunk → P chunk) → P chunk
      by true here rest = let is : c ≡ chunk = cc here in subst P is all.0
      by false later rest = rest later

  all-removed : (test : List ℕ → Bool) (chunks : List (List ℕ)) → AreAll chunks → AreAll (remove_key test chunks)
  all-removed test [] all = tt
  all-removed test (chunk ∷ chunks) all = by (test chunk) (all-removed test chunks all.1)
    where
      by : (b : Bool) → AreAll (remove_key test chunks) → AreAll (cond b chunks (chunk ∷ remove_key test chunks))
      by true rest = all.1
      by false rest = (all.0, rest)

  all-to_front : (name : Digest) (chunks : List (List ℕ)) → AreAll chunks → AreAll (to_front name chunks)
  all-to_front name chunks all = by (found name chunks) (λ chunk. all-found name chunks chunk all)
    where
      by : (o : Option (List ℕ)) → ((chunk : List ℕ) → o ≡ Some chunk → P chunk) → AreAll (cons_option o (remove_key (has_name name) chunks))
      by None is = all-removed (has_name name) chunks all
      by (Some chunk) is = (is chunk refl, all-removed (has_name name) chunks all)

  all-take : (n : ℕ) (chunks : List (List ℕ)) → AreAll chunks → AreAll (take n chunks)
  all-take zero chunks all = tt
  all-take (suc n) [] all = tt
  all-take (suc n) (chunk ∷ chunks) all = (all.0, all-take n chunks all.1)

  -- ---- the two lists

  pub all-held : (name : Digest) (cache : Cache) (chunk : List ℕ) → AllCached P cache → held name cache ≡ Some chunk → P chunk
  all-held name cache chunk all is =
      one_of P chunk (found name cache.main) (found name cache.hot) (all-found name cache.main chunk all.0) (all-found name cache.hot chunk all.1) is

  all-in : (which : Which) (cache : Cache) → AllCached P cache → AreAll (chunks_in which cache)
  all-in Main cache all = all.0
  all-in Hot cache all = all.1

  all-with : (which : Which) (chunks : List (List ℕ)) (cache : Cache) → AreAll chunks → AllCached P cache → AllCached P (with_chunks which chunks cache)
  all-with Main chunks cache new all = (new, all.1)
  all-with Hot chunks cache new all = (all.0, new)

  moved : (which : Which) (name : Digest) (cache : Cache) → AllCached P cache → AllCached P (with_chunks which (to_front name (chunks_in which cache)) cache)
  moved which name cache all = all-with which (to_front name (chunks_in which cache)) cache (all-to_front name (chunks_in which cache) (all-in which cache all)) all

  pub all-looked_up : (name : Digest) (cache : Cache) → AllCached P cache → AllCached P (looked_up name cache)
  all-looked_up name cache all = moved (if is_some (found name cache.main) then Main else Hot) name cache all

  all-gone : (cache : Cache) → AllCached P cache → AllCached P (with_one_gone cache)
  all-gone cache all =
      let chunks = chunks_in (victim cache) cache in
      all-with (victim cache) (without_last chunks) cache (all-take (length chunks - 1) chunks (all-in (victim cache) cache all)) all

  all-shrunk : (n : ℕ) (cache : Cache) → AllCached P cache → AllCached P (shrunk n cache)
  all-shrunk zero cache all = all
  all-shrunk (suc n) cache all = by (nat_lt cache.limit (total cache)) (all-shrunk n (with_one_gone cache) (all-gone cache all))
    where
      by : (b : Bool) → AllCached P (shrunk n (with_one_gone cache)) → AllCached P (if b then shrunk n (with_one_gone cache) else cache)
      by true rest = rest
      by false rest = all

  pub all-added : (which : Which) (chunk : List ℕ) (cache : Cache) → P chunk → AllCached P cache → AllCached P (added which chunk cache)
  all-added which chunk cache one all = by (is_some (found (digest_of chunk) (chunks_in which cache)))
    where
      more : Cache
      more = with_chunks which (chunk ∷ chunks_in which cache) cache

      by : (b : Bool) → AllCached P (if b then with_chunks which (to_front (digest_of chunk) (chunks_in which cache)) cache else evicted more)
      by true = moved which (digest_of chunk) cache all
      by false = all-shrunk (length more.main + length more.hot) more (all-with which (chunk ∷ chunks_in which cache) cache (one, all-in which cache all) all)

-- ---- what holds of each for another reason, or with it

module _ (P Q : List ℕ → Type 0) where
  each : (f : (chunk : List ℕ) → P chunk → Q chunk) (chunks : List (List ℕ)) → AllByRecursion P chunks → AllByRecursion Q chunks
  each f [] all = tt
  each f (chunk ∷ chunks) all = (f chunk all.0, each f chunks all.1)

  pub each-cached : (f : (chunk : List ℕ) → P chunk → Q chunk) (cache : Cache) → AllCached P cache → AllCached Q cache
  each-cached f cache all = (each f cache.main all.0, each f cache.hot all.1)

  both : (chunks : List (List ℕ)) → AllByRecursion P chunks → AllByRecursion Q chunks → AllByRecursion (λ chunk. P chunk × Q chunk) chunks
  both [] first second = tt
  both (chunk ∷ chunks) first second = ((first.0, second.0), both chunks first.1 second.1)

  pub both-cached : (cache : Cache) → AllCached P cache → AllCached Q cache → AllCached (λ chunk. P chunk × Q chunk) cache
  both-cached cache first second = (both cache.main first.0 second.0, both cache.hot first.1 second.1)

-- ---- the chunks that are in it

itself : (chunks : List (List ℕ)) → AllByRecursion (Contains chunks) chunks
itself chunks = recursion_from_All (Contains chunks) chunks (All-contains_itself chunks)

pub are-cached : (cache : Cache) → AllCached (IsCached cache) cache
are-cached cache = (
  each (Contains cache.main) (IsCached cache) (λ chunk there. inl there) cache.main (itself cache.main),
  each (Contains cache.hot) (IsCached cache) (λ chunk there. inr there) cache.hot (itself cache.hot),
)
