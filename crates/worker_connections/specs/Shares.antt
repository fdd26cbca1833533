-- What the workers of a node share.
use Rattle.std.specs.Prelude.{◌+◌, ◌-◌, ◌<◌, ◌≤◌, ◌^◌, ◌∷◌, [], ℕ, zero, suc, Bool, true, false, List, Option, None, Some, if◌then◌else◌, nat_le, option_map}
use Rattle.std.specs.List.{sum_by}
use Rattle.connection_rules.specs.Holding.{HeldBodies, settled, without}
use Rattle.connection_rules.specs.Least.{least_of}
use Rattle.worker_connections.specs.Places.{with_place}
use Rattle.worker_connections.specs.declared.shares.Share.{Share}
use Rattle.worker_connections.specs.declared.shares.Want.{Want}
use Rattle.worker_connections.specs.declared.shares.Want.TheVariants as want
use Rattle.worker_connections.specs.declared.steps.Holding.{Holding}
use Rattle.worker_connections.specs.declared.steps.Holding.TheVariants.{Nothing, Body, Reply}

-- how many places the node has, what is known of each worker, how many clients are still to come and how many are there, and what the bodies hold
pub record Shared : Type 0 where
  pub places : ℕ
  pub workers : List Share
  pub to_come : ℕ
  pub present : ℕ
  pub bodies : HeldBodies

-- how many places are taken
abbrev pub taken : List Share → ℕ
taken workers = sum_by (λ share. share.taken) workers

-- no more places are taken than there are
pub record AreShared (places : ℕ) (workers : List Share) (to_come present : ℕ) : Type 0 where
  pub within : taken workers ≤ places
  pub fits : to_come + present < 2 ^ 64

-- how many places each worker has taken, with its number
abbrev pub taken_from : ℕ → List Share → List (ℕ × ℕ)
taken_from at [] = []
taken_from at (share ∷ rest) = (at, share.taken) ∷ taken_from (at + 1) rest

-- with this of one worker
abbrev pub with_share : ℕ → (Share → Share) → List Share → List Share
with_share at f [] = []
with_share zero f (share ∷ rest) = f share ∷ rest
with_share (suc at) f (share ∷ rest) = share ∷ with_share at f rest

-- one place more, and one less
abbrev pub one_more : Share → Share
one_more share = record share { taken = share.taken + 1 }

abbrev pub one_back : Share → Share
one_back share = record share { taken = share.taken - 1 }

-- what a worker says
abbrev pub says : (place body reply : Option ℕ) → Share → Share
says place body reply share = record share { place = place; body = body; reply = reply }

abbrev pub waiting : Bool → Share → Share
waiting waits share = record share { waits = waits }

-- the worker that gets a place: the one with the fewest, where one is free
abbrev pub place_of : Shared → Option ℕ
place_of shared = if nat_le shared.places (taken shared.workers) then None else option_map (λ found. found.0) (least_of (taken_from 0 shared.workers))

abbrev pub with_given : Option ℕ → Shared → Shared
with_given None shared = shared
with_given (Some at) shared = record shared { workers = with_share at one_more shared.workers }

-- what a worker said for a want
abbrev pub said : Want → Share → Option ℕ
said want.Place share = share.place
said want.Body share = share.body
said want.Reply share = share.reply

abbrev pub said_from : Want → ℕ → List Share → List (ℕ × ℕ)
said_from for at [] = []
said_from for at (share ∷ rest) = with_place at (said for share) (said_from for (at + 1) rest)

-- what bodies hold where one held this much: after a step for which room was kept it is settled; a body that is over counts no longer
abbrev pub settled_to : ℕ → ℕ → Holding → HeldBodies → HeldBodies
settled_to number before (Body after) bodies =
    if nat_le before after then settled number before after bodies else without number 0 (settled number before 0 bodies)
settled_to number before Nothing bodies = without number 0 (settled number before 0 bodies)
settled_to number before (Reply held) bodies = without number 0 (settled number before 0 bodies)

abbrev pub recounted : ℕ → Bool → (held holds : Holding) → HeldBodies → HeldBodies
recounted number true (Body before) holds bodies = settled_to number before holds bodies
recounted number false (Body before) holds bodies = without number before bodies
recounted number is_kept Nothing holds bodies = bodies
recounted number is_kept (Reply held) holds bodies = bodies
