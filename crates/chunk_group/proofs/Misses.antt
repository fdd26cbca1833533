-- A look-up of a chunk that is in neither cache.
use Rattle.std.proofs.Common.{◌≡◌, Result, Ok, Err, IsOk, OnOk, List, ℕ, Option, Some, None, is_some, ap, ◌∙◌, refl}
use Rattle.std.specs.Prelude.{if◌then◌else◌}
use Rattle.std.specs.Option.{option_or}
use Rattle.host_names.specs.declared.digests.Digest.{Digest}
use Rattle.chunk_lru.specs.declared.caches.Which.TheVariants.{Main, Hot}
use Rattle.chunk_lru.specs.Caches.{Cache}
use Rattle.chunk_lru.specs.Recent.{found, to_front}
use Rattle.chunk_lru.specs.Rules.{chunks_in, held, looked_up, with_chunks}
use Rattle.chunk_lru.proofs.Sizes.{to_front-absent}

first_is_none : {X : Type 0} (a b : Option X) → option_or a b ≡ None → a ≡ None
first_is_none None b none = refl
first_is_none (Some x) b none = none

second_is_none : {X : Type 0} (a b : Option X) → option_or a b ≡ None → b ≡ None
second_is_none None b none = none
second_is_none (Some x) b none = cc none

pub looked_up-miss : (name : Digest) (cache : Cache) → held name cache ≡ None → looked_up name cache ≡ cache
looked_up-miss name cache none =
    ap (λ (o : Option (List ℕ)). let which = if is_some o then Main else Hot in with_chunks which (to_front name (chunks_in which cache)) cache)
    (first_is_none (found name cache.main) (found name cache.hot) none)
    ∙ ap (λ (hot : List (List ℕ)). record cache { hot = hot }) (to_front-absent name cache.hot (second_is_none (found name cache.main) (found name cache.hot) none))

-- so where nothing is found, the caches are as before
pub unmoved : {A E : Type 0} (r : Result A E) (name : Digest) (old new : Cache) → held name old ≡ None → IsOk r → OnOk r (new ≡ looked_up name old) → new ≡ old
unmoved (Ok x) name old new none ok looked = looked ∙ looked_up-miss name old none
unmoved (Err e) name old new none ok looked = cc ok
