-- Calls of two caches, and what they leave.
use Rattle.std.specs.Prelude.{ℕ, List, [], ◌∷◌}
use Rattle.host_names.specs.declared.digests.Digest.{Digest}
use Rattle.chunk_lru.specs.declared.caches.Which.{Which}
use Rattle.chunk_lru.specs.Caches.{Cache}
use Rattle.chunk_lru.specs.Rules.{added, looked_up}

-- a look-up of a name, and an insertion of a chunk
pub data Call : Type 0 where
  Get : (name : Digest) → Call
  Add : (which : Which) (chunk : List ℕ) → Call

-- what a call leaves
abbrev pub after : Call → Cache → Cache
after (Get name) cache = looked_up name cache
after (Add which chunk) cache = added which chunk cache

-- what calls leave, one after another
abbrev pub after_all : List Call → Cache → Cache
after_all [] cache = cache
after_all (call ∷ calls) cache = after_all calls (after call cache)
