-- What two caches under one limit have.
use Rattle.std.specs.Prelude.{◌≡◌, ℕ, ◌+◌, ◌/◌, ◌^◌, ◌<◌, ◌≤◌, List, []}
use Rattle.chunk_lru.specs.Recent.{HaveOwnNames, Recent, size_of}

-- what they may count together, and the chunks of each in the order of their last use
pub record Cache : Type 0 where
  pub limit : ℕ
  pub main : List (List ℕ)
  pub hot : List (List ℕ)

-- nothing is kept yet
abbrev pub empty : ℕ → Cache
empty limit = record { limit = limit; main = []; hot = [] }

-- these two lists under a limit
abbrev pub together : ℕ → Recent → Recent → Cache
together limit main hot = record { limit = limit; main = main.chunks; hot = hot.chunks }

-- together they are within the limit, each has room for one chunk more than can be within it, and neither has a name twice
pub record AreWithin (limit : ℕ) (main hot : Recent) : Type 0 where
  pub fits : limit < 2 ^ 64
  pub main_room : main.room ≡ limit / 40 + 1
  pub hot_room : hot.room ≡ limit / 40 + 1
  pub within : size_of main.chunks + size_of hot.chunks ≤ limit
  pub own : HaveOwnNames main.chunks × HaveOwnNames hot.chunks
