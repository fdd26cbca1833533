-- What a call of the two caches finds, and what it leaves.
use Rattle.std.specs.Prelude.{ℕ, zero, suc, ◌+◌, ◌/◌, List, ◌∷◌, Option, is_some, length, if◌then◌else◌, nat_lt}
use Rattle.std.specs.Option.{option_or}
use Rattle.host_names.specs.declared.digests.Digest.{Digest}
use Rattle.host_names.specs.Digests.{digest_of}
use Rattle.chunk_lru.specs.declared.caches.Which.{Which}
use Rattle.chunk_lru.specs.declared.caches.Which.TheVariants.{Main, Hot}
use Rattle.chunk_lru.specs.Caches.{Cache}
use Rattle.chunk_lru.specs.Recent.{found, size_of, to_front, without_last}

-- the chunks of one of the two
abbrev pub chunks_in : Which → Cache → List (List ℕ)
chunks_in Main cache = cache.main
chunks_in Hot cache = cache.hot

-- with these chunks in one of the two
abbrev pub with_chunks : Which → List (List ℕ) → Cache → Cache
with_chunks Main chunks cache = record cache { main = chunks }
with_chunks Hot chunks cache = record cache { hot = chunks }

-- the chunk of a name: that of main, else that of hot
abbrev pub held : Digest → Cache → Option (List ℕ)
held name cache = option_or (found name cache.main) (found name cache.hot)

-- after a look-up: the chunk that is found is the first of its list; after a miss all is as it was
abbrev pub looked_up : Digest → Cache → Cache
looked_up name cache =
    let which = if is_some (found name cache.main) then Main else Hot in
    with_chunks which (to_front name (chunks_in which cache)) cache

-- what both count
abbrev pub total : Cache → ℕ
total cache = size_of cache.main + size_of cache.hot

-- the one that loses a chunk where both count too much: hot where it counts more than an eighth of main
abbrev pub victim : Cache → Which
victim cache = if nat_lt (size_of cache.main / 8) (size_of cache.hot) then Hot else Main

-- the victim's last chunk goes
abbrev pub with_one_gone : Cache → Cache
with_one_gone cache = with_chunks (victim cache) (without_last (chunks_in (victim cache) cache)) cache

-- while they count more than the limit, a chunk goes; at most so many go
abbrev pub shrunk : ℕ → Cache → Cache
shrunk zero cache = cache
shrunk (suc n) cache = if nat_lt cache.limit (total cache) then shrunk n (with_one_gone cache) else cache

-- while they count more than the limit, a chunk goes
abbrev pub evicted : Cache → Cache
evicted cache = shrunk (length cache.main + length cache.hot) cache

-- after an insertion: a name that is in that list already brings the chunk held to its front, and nothing else changes;
-- else the new chunk is the first, and then chunks go, it too if need be, until the rest is within the limit
abbrev pub added : Which → List ℕ → Cache → Cache
added which chunk cache =
    let chunks = chunks_in which cache in
    let name = digest_of chunk in
    if is_some (found name chunks) then with_chunks which (to_front name chunks) cache else evicted (with_chunks which (chunk ∷ chunks) cache)
